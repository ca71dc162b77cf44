-- The proof of the cycle of calls {is_empty}. The measure is the node: a child is an earlier one.
use Rattle.std.proofs.Common.{sym, ◌∙◌}
use Rattle.print.proofs.Bodies.{done_join}
use Rattle.print.proofs.body.+is_empty.Goals as goal

pub returns-then-is_empty : goal.returns-then-is_empty
returns-then-is_empty t c =
    let one = c.child.ensures in
    let two = c.child-then-is_empty.ensures in
    let first = rw (one.0, one.1) at c.is_empty.ensures in
    rw (c.in-List.ensures.list, done_join, sym first ∙ c.if-is_empty.true) (rw (two.0, two.1) at c.is_empty-then-is_empty.ensures)

pub returns-else-is_empty : goal.returns-else-is_empty
returns-else-is_empty t c =
    let one = c.child.ensures in
    let first = rw (one.0, one.1) at c.is_empty.ensures in
    rw (c.in-List.ensures.list, done_join, sym first ∙ c.if-is_empty.false) c.if-is_empty.false
