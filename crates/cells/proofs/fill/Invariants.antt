use mathlib.Core.Path.{◌≡◌}
use Prim.Native.Nat.{◌-◌}
use Rattle.cells.proofs.Pours.{filled_to}
use Rattle.cells.proofs.fill.Given as goal

abbrev pub invariant-loop-i : goal.invariant-loop-i
invariant-loop-i g l =
    l.list ≡ filled_to l.at (l.i - l.at) l.x l.initial.list
