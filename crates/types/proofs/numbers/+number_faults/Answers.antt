-- The measure is the node: a child is an earlier one.
use mathlib.Core.Path.{◌∙◌}
use Rattle.types.proofs.Constants.{brackets_faults, binary_faults}
use Rattle.types.proofs.numbers.+number_faults.Goals as goal

pub returns-in-Brackets : goal.returns-in-Brackets
returns-in-Brackets t c =
    let A = c.args in
    let at = c.child-in-Brackets.ensures in
    brackets_faults A.n.pool.now A.n.at A.t _ (rw (at.0, at.1) at c.number_faults.ensures) c.in-Brackets.ensures

pub returns-in-Binary : goal.returns-in-Binary
returns-in-Binary t c =
    let A = c.args in
    let left = c.child-in-Binary.ensures in
    let right = c.child-r.ensures in
    λ s.
    (rw (c.sooner_of-parts.ensures, c.sooner_of.ensures, c.place-in-Binary.ensures) at c.of_rule-in-Binary.ensures)
    ∙ binary_faults A.n.pool.now A.n.at A.t _ (rw (left.0, left.1) at c.number_faults-x-in-Binary.ensures) _ c.in-Binary.ensures _ _ _
    (rw (right.0, right.1) at c.number_faults-y.ensures) (rw (right.0, right.1) at c.divisor_fault.ensures)
    (rw (right.0, right.1) at c.is_good_divisor.ensures) s
