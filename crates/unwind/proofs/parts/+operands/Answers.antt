-- The proof of the cycle of calls {plain_of, binary_of}. The measure is the node: a child is an earlier one.
use mathlib.Core.Path.{refl, ◌∙◌}
use Rattle.std.proofs.lemmas.Result.{err_from_is_err_and}
use lib.ListN.{length}
use Rattle.variables.specs.Table.{listed_in}
use Rattle.unwind.proofs.Exprs.{read_plain}
use Rattle.unwind.proofs.Parting.{did_as, nil_did, truth_did, number_did, brackets_did, minus_stop, complement_stop, conversion_stop, minus_did, complement_did, conversion_did, binary_stop, binary_stop_second, binary_did}
use Rattle.unwind.proofs.parts.+operands.Goals as goal

pub binary_of-returns-in_err-x : goal.binary_of-returns-in_err-x
binary_of-returns-in_err-x t c =
    let A = c.args in
    let x = rw (c.child.ensures.0, c.child.ensures.1) at c.in_err-x.ensures in
    let p = err_from_is_err_and c.from_residual.result c.from_residual.ensures.1 in
    rw (p.1, p.2) (binary_stop _ _ _ A.env.now A.t A.n.at A.o c.requires.0 _ c.offered_first-v.ensures A.out.now _ A.count _ x)

pub binary_of-returns-in_err-y : goal.binary_of-returns-in_err-y
binary_of-returns-in_err-y t c =
    let A = c.args in
    let x = rw (c.child.ensures.0, c.child.ensures.1) at c.in_ok-x.ensures in
    let y = rw (c.child-2.ensures.0, c.child-2.ensures.1) at c.in_err-y.ensures in
    let p = err_from_is_err_and c.from_residual-in_err-y.result c.from_residual-in_err-y.ensures.1 in
    rw (p.1, p.2) (binary_stop_second _ _ _ A.env.now A.t A.n.at A.o c.requires.0 _ c.offered_first-v.ensures A.out.now _ A.count _ x _ _ y)

pub binary_of-returns : goal.binary_of-returns
binary_of-returns t c =
    let A = c.args in
    let x = rw (c.child.ensures.0, c.child.ensures.1) at c.in_ok-x.ensures in
    let y = rw (c.child-2.ensures.0, c.child-2.ensures.1) at c.in_ok-y.ensures in
    binary_did _ _ _ A.env.now A.t A.n.at A.o c.requires.0 _ c.offered_first-v.ensures A.out.now _ A.count _ x _ _ _ _ _ _ _
    c.operator_number.ensures.small c.operator_number.ensures.is c.from.ensures y c.emit-last.ensures c.ended.ensures.0 c.ended.ensures.1 (c.ended.ensures.2 ∙ c.type_over.ensures)

pub plain_of-returns-in-Nothing : goal.plain_of-returns-in-Nothing
plain_of-returns-in-Nothing t c =
    nil_did _ _ _ _ _ _ _ _ _ c.in-Nothing.ensures _ c.truth.ensures.node c.truth.ensures.parts c.truth.ensures.ty

pub plain_of-returns-in-Truth : goal.plain_of-returns-in-Truth
plain_of-returns-in-Truth t c =
    truth_did _ _ _ _ _ _ _ _ _ _ c.in-Truth.ensures _ c.truth-in-Truth.ensures.node c.truth-in-Truth.ensures.parts c.truth-in-Truth.ensures.ty

pub plain_of-returns-in-Number : goal.plain_of-returns-in-Number
plain_of-returns-in-Number t c =
    number_did _ _ _ _ _ _ _ _ _ c.in-Number.ensures _ _ c.number_at.ensures c.ended.ensures.0 c.ended.ensures.1 c.ended.ensures.2

pub plain_of-returns-in-Variable : goal.plain_of-returns-in-Variable
plain_of-returns-in-Variable t c =
    let A = c.args in
    let vs = listed_in A.vars.text.now A.vars.pool.now A.vars.table.now in
    did_as vs (length A.env.now) A.out.now _ A.count _ _ _ _ c.read.result (read_plain vs A.vars.text.now A.n.pool.now A.n.at A.t A.env.now _ c.expression.ensures c.in-Variable.is) refl (c.read.ensures A.t)

pub plain_of-returns-in-Brackets : goal.plain_of-returns-in-Brackets
plain_of-returns-in-Brackets t c =
    brackets_did _ _ _ _ _ _ _ _ _ c.in-Brackets.ensures _ (rw (c.child-in-Brackets.ensures.0, c.child-in-Brackets.ensures.1) at c.plain_of-in-Brackets.ensures)

pub plain_of-returns-in_err-x-in-Minus : goal.plain_of-returns-in_err-x-in-Minus
plain_of-returns-in_err-x-in-Minus t c =
    let x = rw (c.child.ensures.0, c.child.ensures.1) at c.in_err-x-in-Minus.ensures in
    let p = err_from_is_err_and c.from_residual.result c.from_residual.ensures.1 in
    rw (p.1, p.2) (minus_stop _ _ _ _ _ _ _ _ _ _ c.in-Minus.ensures x)

pub plain_of-returns-in_ok-x-in-Minus : goal.plain_of-returns-in_ok-x-in-Minus
plain_of-returns-in_ok-x-in-Minus t c =
    let x = rw (c.child.ensures.0, c.child.ensures.1) at c.in_ok-x-in-Minus.ensures in
    minus_did _ _ _ _ _ _ _ _ _ _ _ _ _ c.over.ensures.parts c.in-Minus.ensures x c.over.ensures.node c.over.ensures.ty

pub plain_of-returns-in_err-x-in-Complement : goal.plain_of-returns-in_err-x-in-Complement
plain_of-returns-in_err-x-in-Complement t c =
    let x = rw (c.child-in-Complement.ensures.0, c.child-in-Complement.ensures.1) at c.in_err-x-in-Complement.ensures in
    let p = err_from_is_err_and c.from_residual-in_err-x-in-Complement.result c.from_residual-in_err-x-in-Complement.ensures.1 in
    rw (p.1, p.2) (complement_stop _ _ _ _ _ _ _ _ _ _ c.in-Complement.ensures x)

pub plain_of-returns-in_ok-x-in-Complement : goal.plain_of-returns-in_ok-x-in-Complement
plain_of-returns-in_ok-x-in-Complement t c =
    let x = rw (c.child-in-Complement.ensures.0, c.child-in-Complement.ensures.1) at c.in_ok-x-in-Complement.ensures in
    complement_did _ _ _ _ _ _ _ _ _ _ _ _ _ c.over-in-Complement.ensures.parts c.in-Complement.ensures x c.over-in-Complement.ensures.node c.over-in-Complement.ensures.ty

pub plain_of-returns-in_err-x-in-Conversion : goal.plain_of-returns-in_err-x-in-Conversion
plain_of-returns-in_err-x-in-Conversion t c =
    let x = rw (c.child-in-Conversion.ensures.0, c.child-in-Conversion.ensures.1) at c.in_err-x-in-Conversion.ensures in
    let p = err_from_is_err_and c.from_residual-in_err-x-in-Conversion.result c.from_residual-in_err-x-in-Conversion.ensures.1 in
    rw (p.1, p.2) (conversion_stop _ _ _ _ _ _ _ _ _ _ _ _ c.in-Conversion.ensures x)

pub plain_of-returns-in_ok-x-in-Conversion : goal.plain_of-returns-in_ok-x-in-Conversion
plain_of-returns-in_ok-x-in-Conversion t c =
    let x = rw (c.child-in-Conversion.ensures.0, c.child-in-Conversion.ensures.1) at c.in_ok-x-in-Conversion.ensures in
    conversion_did _ _ _ _ _ _ _ _ _ _ _ _ _ c.over-in-Conversion.ensures.parts _ _ c.in-Conversion.ensures x c.both_types.ensures c.over-in-Conversion.ensures.node c.over-in-Conversion.ensures.ty
