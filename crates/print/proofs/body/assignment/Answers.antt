-- The cell and the expression.
use Rattle.paper.specs.Words.{bytes}
use Rattle.print.proofs.Laws.{named, ◌then◌}
use Rattle.print.proofs.body.assignment.Goals as goal

pub returns : goal.returns
unfolding bytes
returns c =
    let at = c.child.ensures in
    named (λ k. rw c.word.ensures) (c.cell-a.ensures then c.put-b.ensures then rw (at.0, at.1) at c.expression-c.ensures then c.put.ensures)
