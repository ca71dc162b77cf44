-- The proof of the cycle of calls that reads statements. The measure is what is left of the text, and any fuel above that of its words gives the answer.
-- Assumes nothing.
use mathlib.Core.Path.{◌≡◌, refl}
use Rattle.std.proofs.lemmas.Result.{err_from_is_err_and}
use native.Mathlib.Omega.{arith}
use borrow.Author.Tests.{not-true, not-false}
use Rattle.statements.proofs.Rooms.{Spare, turned}
use Rattle.statements.proofs.Lists.{list_bad, list_open, list_stop, list_on}
use Rattle.statements.proofs.Begins.{statement_none, statement_deep, statement_name, statement_if, statement_case, statement_for, statement_empty}
use Rattle.statements.proofs.Headed.{headed_bad, headed_open, headed_half}
use Rattle.statements.proofs.Choices.{branch_shape, branch_good, branches_good, otherwise_elsif, otherwise_plain, closing_none, closing_plain, closing_bad, closing_open, closing_good}
use Rattle.statements.proofs.Selections.{cases_shape, cases_good, arms_bad, arms_half, arms_rest, arms_good, more_arms_next, more_arms_bad, more_arms_plain}
use Rattle.statements.proofs.Loops.{repeat_bad, repeat_half, repeat_open, repeat_good}
use Rattle.expressions.proofs.Tokens.{key_end_case}
use Rattle.statements.proofs.+reading.Goals as goal

pub arms-returns-in_err-l : goal.arms-returns-in_err-l
arms-returns-in_err-l t c =
    let p = err_from_is_err_and c.from_residual.result c.from_residual.ensures.1 in rw (p.1, p.2) (arms_bad c.args.depth c.in_err-l.ensures)

pub arms-returns-in_err-a : goal.arms-returns-in_err-a
arms-returns-in_err-a t c =
    let p = err_from_is_err_and c.from_residual-in_err-a.result c.from_residual-in_err-a.ensures.1 in rw (p.1, p.2) (arms_half c.args.depth c.in_ok-l.ensures c.in_err-a.ensures)

pub arms-returns-in_err-b : goal.arms-returns-in_err-b
arms-returns-in_err-b t c =
    let p = err_from_is_err_and c.from_residual-in_err-b.result c.from_residual-in_err-b.ensures.1 in rw (p.1, p.2) (arms_rest c.args.depth c.in_ok-l.ensures c.in_ok-a.ensures c.in_err-b.ensures)

pub arms-returns : goal.arms-returns
arms-returns t c =
    rw c.node.ensures.read
    (arms_good c.args.depth c.in_ok-l.ensures c.in_ok-a.ensures c.in_ok-b.ensures (omega (arith, c.requires, c.in_ok-l.ensures.within, c.labels.auto, c.in_ok-a.ensures.0, c.in_ok-a.ensures.1.within, c.list.auto, c.in_ok-b.ensures.within, c.more_arms.auto)) c.node.ensures.written)

pub branch-returns-in_err-c : goal.branch-returns-in_err-c
branch-returns-in_err-c t c =
    let p = err_from_is_err_and c.from_residual.result c.from_residual.ensures.1 in rw (p.1, p.2) (headed_bad (branch_shape c.args.depth c.args.p c.args.q) c.in_err-c.ensures)

pub branch-returns-in_err-then : goal.branch-returns-in_err-then
branch-returns-in_err-then t c =
    let p = err_from_is_err_and c.from_residual-in_err-then.result c.from_residual-in_err-then.ensures.1 in rw (p.1, p.2) (headed_open (branch_shape c.args.depth c.args.p c.args.q) c.in_ok-c.ensures c.in_err-then.ensures)

pub branch-returns-in_err-b : goal.branch-returns-in_err-b
branch-returns-in_err-b t c =
    let p = err_from_is_err_and c.from_residual-in_err-b.result c.from_residual-in_err-b.ensures.1 in rw (p.1, p.2) (headed_half (branch_shape c.args.depth c.args.p c.args.q) c.in_ok-c.ensures c.in_ok-then.ensures c.in_err-b.ensures.0)

pub branch-returns : goal.branch-returns
branch-returns t c =
    rw c.node.ensures.read
    (branch_good c.args.depth c.args.p c.args.q c.in_ok-c.ensures c.in_ok-then.ensures c.in_ok-b.ensures (omega (arith, c.requires, c.in_ok-c.ensures.within, c.expression.auto, c.in_ok-then.ensures.within, c.in_ok-then.ensures.step refl refl, c.in_ok-b.ensures.0.within, c.branches.auto)) c.node.ensures.written)

pub branches-returns : goal.branches-returns
branches-returns t c =
    rw c.node.ensures.read
    (branches_good c.args.depth c.args.q c.in_ok-a.ensures c.in_ok-b.ensures (omega (arith, c.requires, c.in_ok-a.ensures.0, c.in_ok-a.ensures.1.within, c.list.auto, c.in_ok-b.ensures.within, c.otherwise.auto)) c.node.ensures.written)

pub cases-returns-in_err-s : goal.cases-returns-in_err-s
cases-returns-in_err-s t c =
    let p = err_from_is_err_and c.from_residual.result c.from_residual.ensures.1 in rw (p.1, p.2) (headed_bad (cases_shape c.args.depth c.args.p) c.in_err-s.ensures)

pub cases-returns-in_err-of : goal.cases-returns-in_err-of
cases-returns-in_err-of t c =
    let p = err_from_is_err_and c.from_residual-in_err-of.result c.from_residual-in_err-of.ensures.1 in rw (p.1, p.2) (headed_open (cases_shape c.args.depth c.args.p) c.in_ok-s.ensures c.in_err-of.ensures)

pub cases-returns-in_err-a : goal.cases-returns-in_err-a
cases-returns-in_err-a t c =
    let p = err_from_is_err_and c.from_residual-in_err-a.result c.from_residual-in_err-a.ensures.1 in rw (p.1, p.2) (headed_half (cases_shape c.args.depth c.args.p) c.in_ok-s.ensures c.in_ok-of.ensures c.in_err-a.ensures)

pub cases-returns : goal.cases-returns
cases-returns t c =
    rw c.node.ensures.read
    (cases_good c.args.depth c.args.p c.in_ok-s.ensures c.in_ok-of.ensures c.in_ok-a.ensures (omega (arith, c.requires, c.in_ok-s.ensures.within, c.expression.auto, c.in_ok-of.ensures.within, c.in_ok-of.ensures.step refl refl, c.in_ok-a.ensures.within, c.arms.auto)) c.node.ensures.written)

pub closing-returns-in_err-end : goal.closing-returns-in_err-end
closing-returns-in_err-end t c =
    let p = err_from_is_err_and c.from_residual.result c.from_residual.ensures.1 in
    rw (p.1, p.2) (closing_none c.args.depth c.args.class c.requires.1 c.if-w-ne-ELSE.true (c.in_err-end.ensures c.args.text.now c.args.at c.requires.1))

pub closing-returns-then-w-ne-ELSE : goal.closing-returns-then-w-ne-ELSE
closing-returns-then-w-ne-ELSE t c =
    closing_plain c.args.depth c.args.class c.requires.1 c.if-w-ne-ELSE.true (c.in_ok-end.ensures c.args.text.now c.args.at c.requires.1)

pub closing-returns-in_err-b : goal.closing-returns-in_err-b
closing-returns-in_err-b t c =
    let p = err_from_is_err_and c.from_residual-in_err-b.result c.from_residual-in_err-b.ensures.1 in rw (p.1, p.2) (closing_bad c.args.depth c.args.class c.requires.1 c.if-w-ne-ELSE.false c.in_err-b.ensures)

pub closing-returns-in_err-end-2 : goal.closing-returns-in_err-end-2
closing-returns-in_err-end-2 t c =
    let p = err_from_is_err_and c.from_residual-in_err-end-2.result c.from_residual-in_err-end-2.ensures.1 in rw (p.1, p.2) (closing_open c.args.depth c.args.class c.requires.1 c.if-w-ne-ELSE.false c.in_ok-b.ensures c.in_err-end-2.ensures)

pub closing-returns : goal.closing-returns
closing-returns t c =
    closing_good c.args.depth c.args.class c.requires.1 c.if-w-ne-ELSE.false c.in_ok-b.ensures c.in_ok-end-2.ensures

pub list-returns-in_err-s : goal.list-returns-in_err-s
list-returns-in_err-s t c =
    let p = err_from_is_err_and c.from_residual.result c.from_residual.ensures.1 in rw (p.1, p.2) (c.loop-s.invariant.0.on (list_bad c.args.depth c.loop-s.read.root c.in_err-s.ensures))

pub list-returns-in_err-end : goal.list-returns-in_err-end
list-returns-in_err-end t c =
    let p = err_from_is_err_and c.from_residual-in_err-end.result c.from_residual-in_err-end.ensures.1 in rw (p.1, p.2) (c.loop-s.invariant.0.on (list_open c.args.depth c.loop-s.read.root c.in_ok-s.ensures c.in_err-end.ensures))

pub list-loop-s-preserved : goal.list-loop-s-preserved
list-loop-s-preserved t c =
    let L = c.loop-s in
    let s = c.in_ok-s.ensures.within in
    let l = c.linked-read.ensures in
    let e = rw (← l.at) at c.in_ok-end.ensures in (
      turned L.invariant.0 (omega (arith, L.invariant.0.room, s, c.statement.auto, e.within, e.step refl refl, l.more, l.few, c.linked-read.auto))
          l.rooted (omega (arith, s, e.within)) (omega (arith, c.statement.auto, c.linked-read.auto))
          (λ end r x. list_on c.args.depth L.read.root c.in_ok-s.ensures e l L.invariant.0.rooted c.next_word-w-in-loop-s.ensures c.starts.result c.starts.ensures (not-false c.starts.result c.if-not-starts.false-raw) x),
      c.next_word-w-in-loop-s.ensures,
    )

pub list-returns-then-not-starts : goal.list-returns-then-not-starts
list-returns-then-not-starts t c =
    let L = c.loop-s in
    let l = c.linked-read.ensures in
    L.invariant.0.on
    (list_stop c.args.depth L.read.root c.in_ok-s.ensures (rw (← l.at) at c.in_ok-end.ensures) l L.invariant.0.rooted c.next_word-w-in-loop-s.ensures c.starts.result c.starts.ensures (not-true c.starts.result c.if-not-starts.true-raw))

pub more_arms-returns-in-2 : goal.more_arms-returns-in-2
more_arms-returns-in-2 t c =
    more_arms_next c.args.depth c.next_word-w.ensures c.in-2.is c.arms.ensures

pub more_arms-returns-in_err-b-in_default : goal.more_arms-returns-in_err-b-in_default
more_arms-returns-in_err-b-in_default t c =
    let p = err_from_is_err_and c.from_residual.result c.from_residual.ensures.1 in rw (p.1, p.2) (more_arms_bad c.args.depth c.next_word-w.ensures (λ (e : c.next_word-w.result.class ≡ 2). grind arith) (λ (e : c.next_word-w.result.class ≡ 69). grind arith) c.in_err-b-in_default.ensures)

pub more_arms-node-requires : goal.more_arms-node-requires
more_arms-node-requires t c =
    let S : Spare c.args.text.now c.closing.new.pool c.args.at c.args.count c.in_ok-b-in_default.b.at c.in_ok-b-in_default.b.count = omega (arith, c.requires, c.closing.auto, c.in_ok-b-in_default.ensures.0 refl refl, (c.in_ok-b-in_default.ensures.1 "END_CASE" key_end_case).within) in
    omega (arith, S, (c.in_ok-b-in_default.ensures.1 "END_CASE" key_end_case).within)

pub more_arms-returns-in_ok-b-in_default : goal.more_arms-returns-in_ok-b-in_default
more_arms-returns-in_ok-b-in_default t c =
    let S : Spare c.args.text.now c.closing.new.pool c.args.at c.args.count c.in_ok-b-in_default.b.at c.in_ok-b-in_default.b.count = omega (arith, c.requires, c.closing.auto, c.in_ok-b-in_default.ensures.0 refl refl, (c.in_ok-b-in_default.ensures.1 "END_CASE" key_end_case).within) in
    rw c.node.ensures.read
    (more_arms_plain c.args.depth c.next_word-w.ensures (λ (e : c.next_word-w.result.class ≡ 2). grind arith) (λ (e : c.next_word-w.result.class ≡ 69). grind arith) c.in_ok-b-in_default.ensures S c.node.ensures.written)

pub otherwise-returns-then-w-eq-ELSIF : goal.otherwise-returns-then-w-eq-ELSIF
otherwise-returns-then-w-eq-ELSIF t c =
    otherwise_elsif c.args.depth c.args.q c.next_word-w.ensures c.if-w-eq-ELSIF.true c.branch-text.ensures

pub otherwise-returns : goal.otherwise-returns
otherwise-returns t c =
    otherwise_plain c.args.depth c.args.q c.next_word-w.ensures c.if-w-eq-ELSIF.false c.closing.ensures

pub repeat-returns-in_err-h : goal.repeat-returns-in_err-h
repeat-returns-in_err-h t c =
    let p = err_from_is_err_and c.from_residual.result c.from_residual.ensures.1 in rw (p.1, p.2) (repeat_bad c.args.depth c.args.p c.in_err-h.ensures)

pub repeat-returns-in_err-b : goal.repeat-returns-in_err-b
repeat-returns-in_err-b t c =
    let p = err_from_is_err_and c.from_residual-in_err-b.result c.from_residual-in_err-b.ensures.1 in rw (p.1, p.2) (repeat_half c.args.depth c.args.p c.in_ok-h.ensures c.in_err-b.ensures)

pub repeat-returns-in_err-end : goal.repeat-returns-in_err-end
repeat-returns-in_err-end t c =
    let p = err_from_is_err_and c.from_residual-in_err-end.result c.from_residual-in_err-end.ensures.1 in rw (p.1, p.2) (repeat_open c.args.depth c.args.p c.in_ok-h.ensures c.in_ok-b.ensures c.in_err-end.ensures)

pub repeat-returns : goal.repeat-returns
repeat-returns t c =
    rw c.node.ensures.read
    (repeat_good c.args.depth c.args.p c.in_ok-h.ensures c.in_ok-b.ensures c.in_ok-end.ensures (omega (arith, c.requires, c.in_ok-h.ensures.within, c.head.auto, c.in_ok-b.ensures.0, c.in_ok-b.ensures.1.within, c.list.auto, c.in_ok-end.ensures.within, c.in_ok-end.ensures.step refl refl)) c.node.ensures.written)

pub statement-returns-then-not-starting : goal.statement-returns-then-not-starting
statement-returns-then-not-starting t c =
    rw c.broken.ensures
    (statement_none c.args.depth c.requires.1 c.starts-starting.result c.starts-starting.ensures (not-true c.starts-starting.result c.if-not-starting.true-raw))

pub statement-returns-then-depth-gt32 : goal.statement-returns-then-depth-gt32
statement-returns-then-depth-gt32 t c =
    rw c.too_deep.ensures
    (statement_deep c.args.depth c.requires.1 c.starts-starting.result c.starts-starting.ensures (not-false c.starts-starting.result c.if-not-starting.false-raw) c.if-depth-gt32.true)

pub statement-returns-in-1 : goal.statement-returns-in-1
statement-returns-in-1 t c =
    statement_name c.args.depth c.requires.1 c.if-depth-gt32.false c.in-1.is c.assignment.ensures

pub statement-returns-in-11 : goal.statement-returns-in-11
statement-returns-in-11 t c =
    statement_if c.args.depth c.requires.1 c.if-depth-gt32.false c.in-11.is c.branch-text.ensures

pub statement-returns-in-16 : goal.statement-returns-in-16
statement-returns-in-16 t c =
    statement_case c.args.depth c.requires.1 c.if-depth-gt32.false c.in-16.is c.cases.ensures

pub statement-returns-in-18 : goal.statement-returns-in-18
statement-returns-in-18 t c =
    statement_for c.args.depth c.requires.1 c.if-depth-gt32.false c.in-18.is c.repeat.ensures

pub statement-returns-in_default : goal.statement-returns-in_default
statement-returns-in_default t c =
    statement_empty c.args.depth c.requires.1 c.starts-starting.result c.starts-starting.ensures (not-false c.starts-starting.result c.if-not-starting.false-raw) c.if-depth-gt32.false (λ e. omega arith) (λ e. omega arith) (λ e. omega arith) (λ e. omega arith)
