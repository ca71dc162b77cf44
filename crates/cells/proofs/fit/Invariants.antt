use mathlib.Core.Path.{◌≡◌}
use mathlib.Core.List.{map}
use Rattle.paper.specs.Judge.{all_fit}
use Rattle.cells.specs.Numbers.{info_of}
use Rattle.cells.proofs.Values.{fit_from}
use Rattle.cells.proofs.fit.Given as goal

abbrev pub invariant-loop-i : goal.invariant-loop-i
invariant-loop-i l =
    fit_from l.i l.cells l.state l.inputs ≡ all_fit (map info_of l.cells) l.state l.inputs
