use mathlib.Core.Path.{◌≡◌}
use mathlib.Core.List.{map}
use lib.ListN.{take}
use Rattle.paper.specs.Judge.{lent}
use Rattle.cells.specs.Pour.{pour}
use Rattle.cells.specs.Numbers.{info_of}
use Rattle.cells.proofs.lend.Given as goal

abbrev pub invariant-loop-i : goal.invariant-loop-i
invariant-loop-i l =
    l.state ≡ pour (take l.i (lent (map info_of l.cells) l.held)) l.initial.state
