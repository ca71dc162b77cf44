-- An array's bounds, if they come next.
use mathlib.Core.Path.{sym, ◌∙◌}
use mathlib.Core.Bool.{true≢false}
use borrow.Author.Tests.{eqb-true, eqb-false}
use Rattle.reader.proofs.Bounds.{bounds_some, bounds_none}
use Rattle.reader.proofs.bounds_part.Goals as goal
use Rattle.reader.proofs.bounds_part.Goals.{else-holds_arrays-via-then-holds_arrays+else-w-eq-ARRAY, else-holds_arrays-via-else-holds_arrays}

pub returns-then-w-eq-ARRAY : goal.returns-then-w-eq-ARRAY
returns-then-w-eq-ARRAY c =
    bounds_some _ c.requires c.next_word-w.ensures (sym c.holds_arrays.ensures ∙ c.if-holds_arrays.true) (eqb-true c.next_word-w.result.class 9 c.if-w-eq-ARRAY.true-raw) c.array_bounds.ensures

pub returns : goal.returns
returns c =
    bounds_none _ c.requires c.next_word-w.ensures
    (λ x y. elim c.else-holds_arrays.branch [ else-holds_arrays-via-then-holds_arrays+else-w-eq-ARRAY w ↦ eqb-false c.next_word-w.result.class 9 w.if-w-eq-ARRAY.false-raw y | else-holds_arrays-via-else-holds_arrays w ↦ true≢false (sym (c.holds_arrays.ensures ∙ x) ∙ w.if-holds_arrays.false) ])
