-- By both lists.
use Rattle.print.proofs.Laws.{◌then◌}
use Rattle.print.proofs.body.between.Goals as goal

pub returns : goal.returns
returns c =
    let two = c.child.ensures in
    let three = c.child-2.ensures in
    rw (two.0, two.1) at c.semicolon-a.ensures then rw (three.0, three.1) at c.otherwise.ensures
