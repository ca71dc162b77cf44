-- The proof of the cycle of calls {expression}. The measure is the node: a child is an earlier one.
use Rattle.paper.specs.Words.{bytes}
use Rattle.paper.specs.Printing as P
use Rattle.print.proofs.Laws.{named, ◌then◌}
use Rattle.print.proofs.body.+expression.Goals as goal

pub returns-in-Number : goal.returns-in-Number
unfolding P.expression
returns-in-Number t c =
    named (λ k. rw c.in-Number.ensures.tree) c.number.ensures

pub returns-in-Truth : goal.returns-in-Truth
unfolding P.expression
returns-in-Truth t c =
    named (λ k. rw c.in-Truth.ensures.tree) c.truth.ensures

pub returns-in-Read : goal.returns-in-Read
unfolding P.expression
returns-in-Read t c =
    named (λ k. rw (c.in-Read.ensures.tree, c.cell_of.ensures)) c.cell.ensures

pub returns-in-Minus : goal.returns-in-Minus
unfolding P.expression bytes
returns-in-Minus t c =
    let at = c.child.ensures in
    named (λ k. rw c.in-Minus.ensures.tree) (c.put-a.ensures then rw (at.0, at.1) at c.expression-b.ensures then c.put.ensures)

pub returns-in-Complement : goal.returns-in-Complement
unfolding P.expression bytes
returns-in-Complement t c =
    let at = c.child-in-Complement.ensures in
    named (λ k. rw c.in-Complement.ensures.tree) (c.put-a-in-Complement.ensures then rw (at.0, at.1) at c.expression-b-in-Complement.ensures then c.put-in-Complement.ensures)

pub returns-in-Conversion : goal.returns-in-Conversion
unfolding P.expression bytes
returns-in-Conversion t c =
    let at = c.child-in-Conversion.ensures in
    named (λ k. rw c.in-Conversion.ensures.tree) (c.converted-a.ensures then rw (at.0, at.1) at c.expression-b-in-Conversion.ensures then c.put-in-Conversion.ensures)

pub returns-in-Binary : goal.returns-in-Binary
unfolding P.expression bytes
returns-in-Binary t c =
    let left = c.child-in-Binary.ensures in
    let right = c.child-in-Binary-2.ensures in
    named (λ k. rw (c.in-Binary.ensures.tree, c.spelling.ensures))
    (c.put-a-in-Binary.ensures then rw (left.0, left.1) at c.expression-b-in-Binary.ensures then c.put-c.ensures
    then rw (right.0, right.1) at c.expression-d.ensures then c.put-in-Binary.ensures)
