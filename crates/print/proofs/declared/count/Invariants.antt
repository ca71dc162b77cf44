use Prim.Native.Nat.{◌≤◌}
use Rattle.print.specs.Parts.{Counts}
use Rattle.print.proofs.declared.count.Given as goal

abbrev pub invariant-loop-v : goal.invariant-loop-v
invariant-loop-v l =
    (l.k ≤ l.v) × Counts l.vars.pool.now l.vars.table.now l.section l.v l.k
