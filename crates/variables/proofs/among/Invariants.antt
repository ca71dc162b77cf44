use mathlib.Core.Path.{◌≡◌}
use mathlib.Core.Bool.{false}
use Rattle.paper.specs.Names.{is_among}
use Rattle.tree.specs.Trees.{name_at}
use Rattle.variables.specs.Table.{names_to}
use Rattle.variables.proofs.among.Given as goal

abbrev pub invariant-loop-other : goal.invariant-loop-other
invariant-loop-other l =
    is_among (name_at l.text l.place) (names_to l.text l.places l.other-index) ≡ false
