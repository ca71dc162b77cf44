use mathlib.Core.Bool.{true}
use mathlib.Core.List.{map}
use mathlib.Core.Path.{◌≡◌}
use Rattle.rows.specs.Lent.{info_in, rows_keep}
use Rattle.rows.proofs.rule.rows_keep.Given as goal

abbrev pub invariant-loop-i : goal.invariant-loop-i
invariant-loop-i l =
    rows_keep (map info_in l.cells) l.rows l.i ≡ true
