-- `label` meets its contract: one law for each of its four ways on.
use mathlib.Core.Path.{refl}
use native.Mathlib.Omega.{arith}
use Rattle.std.proofs.lemmas.Result.{err_from_is_err_and}
use Rattle.expressions.proofs.Moves.{class_moves}
use Rattle.statements.proofs.Labelled.{label_bad, label_one, label_half, label_range}
use Rattle.statements.proofs.label.Goals as goal

pub returns-in_err-a : goal.returns-in_err-a
returns-in_err-a c =
    let p = err_from_is_err_and c.from_residual.result c.from_residual.ensures.1 in rw (p.1, p.2) (label_bad c.in_err-a.ensures)

pub returns-then-w-ne-RANGE : goal.returns-then-w-ne-RANGE
returns-then-w-ne-RANGE c =
    label_one c.in_ok-a.ensures c.next_word-w.ensures c.if-w-ne-RANGE.true

pub returns-in_err-b : goal.returns-in_err-b
returns-in_err-b c =
    let p = err_from_is_err_and c.from_residual-in_err-b.result c.from_residual-in_err-b.ensures.1 in rw (p.1, p.2) (label_half c.in_ok-a.ensures c.next_word-w.ensures c.if-w-ne-RANGE.false c.in_err-b.ensures)

pub returns : goal.returns
returns c =
    let a = c.in_ok-a.ensures in
    let w = c.next_word-w.ensures in
    let b = c.in_ok-b.ensures in
    let m = class_moves _ _ _ w 55 c.if-w-ne-RANGE.false refl refl in
    rw c.node.ensures.read
    (label_range a w c.if-w-ne-RANGE.false b (omega (arith, c.requires, a.0.within, c.signed_number.auto, m, w.from, w.to, b.0.within, c.signed_number-2.auto)) c.node.ensures.written)
