use Rattle.std.proofs.Common.{◌≤◌}
use Rattle.tally.proofs.Counting.{left}
use Rattle.tally.proofs.every_record.Given as goal

abbrev pub invariant-loop-t : goal.invariant-loop-t
invariant-loop-t g l = goal.J-IsAlwaysCallable g l.judge × (l.t.differ ≤ l.t.tried) × (l.t.tried ≤ 100000)

abbrev pub decreases-loop-t : goal.decreases-loop-t
decreases-loop-t g l = left l.t
