use mathlib.Core.Path.{◌≡◌}
use mathlib.Core.List.{map}
use lib.ListN.{take}
use Rattle.cells.specs.Pour.{pour}
use Rattle.cells.specs.Numbers.{info_of, read_in}
use Rattle.cells.proofs.hold.Given as goal

abbrev pub invariant-loop-i : goal.invariant-loop-i
invariant-loop-i l =
    l.values ≡ pour (take l.i (read_in (map info_of l.cells) l.state l.inputs)) l.initial.values
