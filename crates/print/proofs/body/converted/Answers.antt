-- The names of the types.
use Rattle.paper.specs.Words.{bytes}
use Rattle.print.proofs.Laws.{named, ◌then◌}
use Rattle.print.proofs.Bodies.{conversion_opens}
use Rattle.print.proofs.body.converted.Goals as goal

pub returns : goal.returns
unfolding bytes
returns c =
    named (conversion_opens _ _) (c.type_name-a.ensures then c.put-b.ensures then c.type_name-c.ensures then c.put.ensures)
