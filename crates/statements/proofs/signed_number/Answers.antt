-- `signed_number` meets its contract: one law for each of its four ways on.
use Rattle.statements.proofs.Numbers.{number_plain, number_other, number_minus, number_none}
use Rattle.statements.proofs.signed_number.Goals as goal

pub returns-then-w-eq-NUMBER : goal.returns-then-w-eq-NUMBER
returns-then-w-eq-NUMBER c =
    rw c.number_node.ensures.read (number_plain c.next_word-w.ensures c.if-w-eq-NUMBER.true c.requires c.number_node.ensures.written)

pub returns-then-w-ne-MINUS : goal.returns-then-w-ne-MINUS
returns-then-w-ne-MINUS c =
    rw c.broken.ensures (number_other c.next_word-w.ensures c.if-w-eq-NUMBER.false c.if-w-ne-MINUS.true)

pub returns-then-v-ne-NUMBER : goal.returns-then-v-ne-NUMBER
returns-then-v-ne-NUMBER c =
    rw c.broken-then-v-ne-NUMBER.ensures (number_none c.next_word-w.ensures c.if-w-ne-MINUS.false c.next_word-v.ensures c.if-v-ne-NUMBER.true)

pub returns : goal.returns
returns c =
    rw c.number_node-2.ensures.read (number_minus c.next_word-w.ensures c.if-w-ne-MINUS.false c.next_word-v.ensures c.if-v-ne-NUMBER.false c.requires c.number_node-2.ensures.written)
