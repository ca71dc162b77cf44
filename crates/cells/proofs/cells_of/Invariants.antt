use Prim.Native.Nat.{◌≤◌}
use lib.ListN.{length}
use Rattle.cells.proofs.Variables.{numbers_of, PouredTo}
use Rattle.cells.proofs.cells_of.Given as goal

abbrev pub invariant-loop-v : goal.invariant-loop-v
invariant-loop-v l =
    (l.at ≤ length l.cells) × PouredTo numbers_of l.pool l.table l.v l.initial.cells l.cells l.at
