-- `head` meets its contract: one law for each of its five ways on.
use mathlib.Core.Path.{refl}
use native.Mathlib.Omega.{arith}
use Rattle.std.proofs.lemmas.Result.{err_from_is_err_and}
use Rattle.expressions.proofs.Moves.{class_moves}
use Rattle.statements.proofs.Heads.{head_none, head_bounds, head_step, head_do, head_good}
use Rattle.statements.proofs.head.Goals as goal

pub returns-then-v-ne-NAME : goal.returns-then-v-ne-NAME
returns-then-v-ne-NAME c =
    rw c.broken.ensures (head_none c.args.p c.next_word-v.ensures c.if-v-ne-NAME.true)

pub returns-in_err-g : goal.returns-in_err-g
returns-in_err-g c =
    let p = err_from_is_err_and c.from_residual.result c.from_residual.ensures.1 in rw (p.1, p.2) (head_bounds c.args.p c.next_word-v.ensures c.if-v-ne-NAME.false c.in_err-g.ensures)

pub returns-in_err-c : goal.returns-in_err-c
returns-in_err-c c =
    let p = err_from_is_err_and c.from_residual-in_err-c.result c.from_residual-in_err-c.ensures.1 in rw (p.1, p.2) (head_step c.args.p c.next_word-v.ensures c.if-v-ne-NAME.false c.in_ok-g.ensures c.in_err-c.ensures)

pub returns-in_err-end : goal.returns-in_err-end
returns-in_err-end c =
    let p = err_from_is_err_and c.from_residual-in_err-end.result c.from_residual-in_err-end.ensures.1 in rw (p.1, p.2) (head_do c.args.p c.next_word-v.ensures c.if-v-ne-NAME.false c.in_ok-g.ensures c.in_ok-c.ensures c.in_err-end.ensures)

pub returns : goal.returns
returns c =
    let w = c.next_word-v.ensures in
    let g = c.in_ok-g.ensures in
    let s = c.in_ok-c.ensures in
    let e = c.in_ok-end.ensures in
    let m = class_moves _ _ _ w 1 c.if-v-ne-NAME.false refl refl in
    rw c.node.ensures.read
    (head_good c.args.p w c.if-v-ne-NAME.false g s e (omega (arith, c.requires, w.from, w.to, m, g.within, c.bounds.auto, s.within, c.step.auto, e.within, e.step refl refl)) c.node.ensures.written)
