-- The condition between its words.
use Rattle.paper.specs.Words.{bytes}
use Rattle.print.proofs.Laws.{◌then◌}
use Rattle.print.proofs.body.condition.Goals as goal

pub returns : goal.returns
unfolding bytes
returns c =
    let at = c.child.ensures in
    c.put-a.ensures then rw (at.0, at.1) at c.expression-b.ensures then c.put.ensures
