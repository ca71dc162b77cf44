-- `labels` meets its contract: one law for each of its ways on. The measure is what is left of the text.
use mathlib.Core.Path.{◌≡◌, refl}
use native.Mathlib.Omega.{arith}
use Rattle.std.proofs.lemmas.Result.{err_from_is_err_and}
use Rattle.expressions.proofs.Moves.{class_moves}
use Rattle.statements.proofs.Rooms.{Spare, turned}
use Rattle.statements.proofs.Labelled.{labels_bad, labels_none, labels_end, labels_more}
use Rattle.statements.proofs.labels.Goals as goal

pub returns-in_err-l : goal.returns-in_err-l
returns-in_err-l c =
    let p = err_from_is_err_and c.from_residual.result c.from_residual.ensures.1 in rw (p.1, p.2) (c.loop-l.invariant.on (labels_bad c.loop-l.read.root c.in_err-l.ensures))

pub returns-in_default : goal.returns-in_default
returns-in_default c =
    let w = c.next_word-w.result in
    rw c.broken.ensures
    (c.loop-l.invariant.on
    (labels_none c.loop-l.read.root c.in_ok-l.ensures c.next_word-w.ensures (λ (e : w.class ≡ 61). grind arith) (λ (e : w.class ≡ 59). grind arith)))

pub loop-l-preserved : goal.loop-l-preserved
loop-l-preserved c =
    let L = c.loop-l in
    let w = c.next_word-w.result in
    let i = c.next_word-w.ensures in
    let l = c.in_ok-l.ensures in
    let comma : w.class ≡ 61 = omega arith in
    let m = class_moves _ _ _ i 61 comma refl refl in
    let S : Spare c.args.text.now c.label.new.pool L.read.at L.read.count w.end c.in_ok-l.l.count = omega (arith, L.invariant.room, L.invariant.rooted, l.within, c.label.auto, i.from, i.to, m) in
    rw c.node-read.ensures.read
    (turned L.invariant (omega (arith, L.invariant.room, S, c.node-read.auto, c.label.auto)) (omega arith) (omega (arith, S)) (omega (arith, c.node-read.auto, c.label.auto))
    (λ end r x. labels_more L.read.root l i L.invariant.rooted S c.node-read.ensures.written comma x))

pub returns-then-w-eq-COLON : goal.returns-then-w-eq-COLON
returns-then-w-eq-COLON c =
    let L = c.loop-l in
    let i = c.next_word-w.ensures in
    let l = c.in_ok-l.ensures in
    let m = class_moves _ _ _ i 59 c.if-w-eq-COLON.true refl refl in
    rw c.node-read.ensures.read
    (L.invariant.on
    (labels_end L.read.root l i L.invariant.rooted (omega (arith, L.invariant.room, L.invariant.rooted, l.within, c.label.auto, i.from, i.to, m)) c.node-read.ensures.written c.if-w-eq-COLON.true))
