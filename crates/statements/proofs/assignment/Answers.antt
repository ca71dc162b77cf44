-- `assignment` meets its contract: one law for each of its four ways on.
use mathlib.Core.Path.{refl}
use native.Mathlib.Omega.{arith}
use Rattle.std.proofs.lemmas.Result.{err_from_is_err_and}
use Rattle.expressions.proofs.Moves.{class_moves}
use Rattle.statements.proofs.Assignments.{assignment_none, assignment_half, assignment_good}
use Rattle.statements.proofs.assignment.Goals as goal

pub returns-then-b-ne-BECOMES : goal.returns-then-b-ne-BECOMES
returns-then-b-ne-BECOMES c =
    rw c.broken.ensures (assignment_none c.in_ok-x.ensures c.next_word-b.ensures c.if-b-ne-BECOMES.true)

pub returns-in_err-e : goal.returns-in_err-e
returns-in_err-e c =
    let p = err_from_is_err_and c.from_residual-in_err-e.result c.from_residual-in_err-e.ensures.1 in rw (p.1, p.2) (assignment_half c.in_ok-x.ensures c.next_word-b.ensures c.if-b-ne-BECOMES.false c.in_err-e.ensures)

pub returns : goal.returns
returns c =
    let x = c.in_ok-x.ensures in
    let w = c.next_word-b.ensures in
    let e = c.in_ok-e.ensures in
    let m = class_moves _ _ _ w 54 c.if-b-ne-BECOMES.false refl refl in
    rw c.node.ensures.read
    (assignment_good x w c.if-b-ne-BECOMES.false e (omega (arith, c.requires, x.within, c.primary.auto, m, w.from, w.to, e.within, c.expression.auto)) c.node.ensures.written)
