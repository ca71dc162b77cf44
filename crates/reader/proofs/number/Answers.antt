-- A number without minus.
use native.Mathlib.Omega.{arith}
use Rattle.reader.proofs.Naming.{number_bad, number_good}
use Rattle.expressions.proofs.Moves.{class_moves}
use mathlib.Core.Path.{refl}
use Rattle.reader.proofs.number.Goals as goal

pub returns-then-w-ne-NUMBER : goal.returns-then-w-ne-NUMBER
returns-then-w-ne-NUMBER c =
    rw c.broken.ensures (number_bad c.next_word-w.ensures c.if-w-ne-NUMBER.true)

pub returns : goal.returns
returns c =
    let m = class_moves _ _ _ c.next_word-w.ensures 2 c.if-w-ne-NUMBER.false refl refl in
    rw c.number_node.ensures.read
    (number_good c.next_word-w.ensures c.if-w-ne-NUMBER.false (omega (arith, c.requires, c.next_word-w.ensures)) c.number_node.ensures.written)
