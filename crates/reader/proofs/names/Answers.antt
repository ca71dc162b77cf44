-- Names parted by commas. The measure is what is left of the text.
use native.Mathlib.Omega.{arith}
use mathlib.Core.Path.{refl}
use Rattle.expressions.proofs.Moves.{class_moves}
use Rattle.statements.proofs.Rooms.{turned}
use Rattle.reader.proofs.Naming.{names_bad, names_last, names_more}
use Rattle.reader.proofs.names.Goals as goal

pub returns-then-w-ne-NAME : goal.returns-then-w-ne-NAME
returns-then-w-ne-NAME c =
    rw c.broken.ensures (c.loop-read.invariant.on (names_bad _ c.next_word-w.ensures c.if-w-ne-NAME.true))

pub returns-then-c-ne-COMMA : goal.returns-then-c-ne-COMMA
returns-then-c-ne-COMMA c =
    let L = c.loop-read in
    let m = class_moves _ _ _ c.next_word-w.ensures 1 c.if-w-ne-NAME.false refl refl in
    rw c.node-n.ensures.read
    (L.invariant.on
    (names_last _ c.next_word-w.ensures c.if-w-ne-NAME.false L.invariant.rooted (omega (arith, L.invariant.room)) c.node-n.ensures.written c.next_word-c.ensures c.if-c-ne-COMMA.true))

pub loop-read-preserved : goal.loop-read-preserved
loop-read-preserved c =
    let L = c.loop-read in
    let m = class_moves _ _ _ c.next_word-w.ensures 1 c.if-w-ne-NAME.false refl refl in
    let k = class_moves _ _ _ c.next_word-c.ensures 61 c.if-c-ne-COMMA.false refl refl in
    rw c.node-n.ensures.read
    (turned L.invariant (omega (arith, L.invariant.room, c.node-n.auto)) (omega arith) (omega arith) (omega (arith, c.node-n.auto))
    (λ end r x. names_more _ c.next_word-w.ensures c.if-w-ne-NAME.false L.invariant.rooted (omega (arith, L.invariant.room)) c.node-n.ensures.written c.next_word-c.ensures c.if-c-ne-COMMA.false x))
