use Prim.Native.Nat.{◌≤◌}
use lib.ListN.{length}
use Rattle.paper.specs.Judge.{start_of}
use Rattle.cells.proofs.Variables.{PouredTo}
use Rattle.cells.proofs.start.Given as goal

abbrev pub invariant-loop-v : goal.invariant-loop-v
invariant-loop-v l =
    (l.at ≤ length l.state) × PouredTo start_of l.pool l.table l.v l.initial.state l.state l.at
