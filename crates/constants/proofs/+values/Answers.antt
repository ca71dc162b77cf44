-- The measure is three times the node, and one more for the value and two for the whole number of the same node: a child is an earlier node.
use mir.Syntax.{w64}
use mir.Facts.{to_z-of_z}
use mathlib.Core.Path.{refl, ◌∙◌}
use native.Mathlib.Omega.{arith}
use Rattle.constants.proofs.Values.{variable_is, element_is, nil_is, truth_is, number_is, cell_is, conversion_none, brackets_is, minus_is, complement_is, conversion_is, binary_is, whole_is}
use Rattle.constants.proofs.+values.Goals as goal

pub value_in-returns-in-Nothing : goal.value_in-returns-in-Nothing
value_in-returns-in-Nothing t c = nil_is _ _ _ _ _ _ _ c.in-Nothing.ensures c.truth_of.ensures.residue c.truth_of.ensures.ty

pub cell_of-returns-in-Variable : goal.cell_of-returns-in-Variable
cell_of-returns-in-Variable t c = variable_is _ _ _ _ _ c.in-Variable.ensures _ _ c.place.ensures c.variable_cell.ensures

pub cell_of-returns-in_ok-z-in-Element : goal.cell_of-returns-in_ok-z-in-Element
cell_of-returns-in_ok-z-in-Element t c =
    let z = rw (c.child.ensures.0, c.child.ensures.1) at c.in_ok-z-in-Element.ensures in
    let e = to_z-of_z {w = w64} {z = c.in_ok-z-in-Element.z} (record { sfits = omega arith }) in
    element_is _ _ _ _ _ c.in-Element.ensures _ _ _ c.place-in-Element.ensures z (rw e at c.element_cell.ensures)

pub binary_value-returns : goal.binary_value-returns
binary_value-returns t c =
    let x = rw (c.child.ensures.0, c.child.ensures.1) at c.in_ok-x.ensures in
    let y = rw (c.child-2.ensures.0, c.child-2.ensures.1) at c.in_ok-y.ensures in
    binary_is _ _ _ _ _ _ _ c.requires _ c.offered_first-offered.ensures _ x _ _ y c.result_of.ensures.value c.result_of.ensures.ty

pub value_in-returns-in-Number : goal.value_in-returns-in-Number
value_in-returns-in-Number t c =
    let z = to_z-of_z {w = w64} {z = c.whole.result} (record { sfits = c.whole.type_inv }) in
    number_is _ _ _ _ _ _ _ c.in-Number.ensures (rw (z, c.whole.ensures) at c.residue_of.ensures) refl

pub value_in-returns-in-Truth : goal.value_in-returns-in-Truth
value_in-returns-in-Truth t c =
    truth_is _ _ _ _ _ _ _ _ c.in-Truth.ensures c.truth_of-in-Truth.ensures.residue c.truth_of-in-Truth.ensures.ty

pub value_in-returns-in_ok-c-in-Variable : goal.value_in-returns-in_ok-c-in-Variable
value_in-returns-in_ok-c-in-Variable t c =
    cell_is _ _ _ _ _ _ _ c.expression.ensures c.in-Variable.is _ _ c.look.ensures.residue c.look.ensures.ty c.in_ok-c-in-Variable.ensures

pub value_in-returns-in_ok-x-in-Minus : goal.value_in-returns-in_ok-x-in-Minus
value_in-returns-in_ok-x-in-Minus t c =
    let x = rw (c.child.ensures.0, c.child.ensures.1) at c.in_ok-x-in-Minus.ensures in
    minus_is _ _ _ _ _ _ _ _ c.in-Minus.ensures c.minus_of.ensures.residue c.minus_of.ensures.ty x

pub value_in-returns-in_ok-x-in-Complement : goal.value_in-returns-in_ok-x-in-Complement
value_in-returns-in_ok-x-in-Complement t c =
    let x = rw (c.child-in-Complement.ensures.0, c.child-in-Complement.ensures.1) at c.in_ok-x-in-Complement.ensures in
    complement_is _ _ _ _ _ _ _ _ c.in-Complement.ensures c.complement_of.ensures.residue c.complement_of.ensures.ty x

pub value_in-returns-in-Brackets : goal.value_in-returns-in-Brackets
value_in-returns-in-Brackets t c =
    brackets_is _ _ _ _ _ _ _ c.in-Brackets.ensures
    (rw (c.child-in-Brackets.ensures.0, c.child-in-Brackets.ensures.1) at c.value_in-in-Brackets.ensures)

pub value_in-returns-in_err-x-in-Conversion : goal.value_in-returns-in_err-x-in-Conversion
value_in-returns-in_err-x-in-Conversion t c =
    let x = rw (c.child-in-Conversion.ensures.0, c.child-in-Conversion.ensures.1) at c.in_err-x-in-Conversion.ensures in
    rw c.from_residual-in_err-x-in-Conversion.ensures (conversion_none _ _ _ _ _ _ _ _ c.in-Conversion.ensures x)

pub value_in-returns-in_ok-x-in-Conversion : goal.value_in-returns-in_ok-x-in-Conversion
value_in-returns-in_ok-x-in-Conversion t c =
    let x = rw (c.child-in-Conversion.ensures.0, c.child-in-Conversion.ensures.1) at c.in_ok-x-in-Conversion.ensures in
    conversion_is _ _ _ _ _ _ _ _ _ _ c.in-Conversion.ensures c.conversion_of.ensures.residue c.conversion_of.ensures.ty x

pub whole_in-returns : goal.whole_in-returns
whole_in-returns t c =
    let z = to_z-of_z {w = w64} {z = c.whole_of.result} (record { sfits = c.whole_of.type_inv }) in
    whole_is _ _ _ _ _ _ c.in_ok-x.ensures (z ∙ c.whole_of.ensures)
