-- `constants::operand_type` meets its contract.
use Rattle.constants.proofs.Types.{operand_left, operand_right, operand_offered, operand_fixed}
use Rattle.constants.proofs.operand_type.Goals as goal

pub returns-in-Some : goal.returns-in-Some
returns-in-Some c = operand_left _ _ _ _ _ _ (rw (c.child.ensures.0, c.child.ensures.1) at c.in-Some.ensures)

pub returns-in-Some-type_of_expression : goal.returns-in-Some-type_of_expression
returns-in-Some-type_of_expression c =
    let x = rw (c.child.ensures.0, c.child.ensures.1) at c.in_default.ensures in
    let y = rw (c.child-2.ensures.0, c.child-2.ensures.1) at c.in-Some-type_of_expression.ensures in
    operand_right _ _ _ _ _ x _ y

pub returns-then-is_arithmetic : goal.returns-then-is_arithmetic
returns-then-is_arithmetic c =
    let x = rw (c.child.ensures.0, c.child.ensures.1) at c.in_default.ensures in
    let y = rw (c.child-2.ensures.0, c.child-2.ensures.1) at c.in_default-type_of_expression.ensures in
    operand_offered _ _ _ _ _ x y _ c.is_arithmetic.ensures c.if-is_arithmetic.true

pub returns-else-is_arithmetic : goal.returns-else-is_arithmetic
returns-else-is_arithmetic c =
    let x = rw (c.child.ensures.0, c.child.ensures.1) at c.in_default.ensures in
    let y = rw (c.child-2.ensures.0, c.child-2.ensures.1) at c.in_default-type_of_expression.ensures in
    operand_fixed _ _ _ _ _ x y _ c.is_arithmetic.ensures c.if-is_arithmetic.false
