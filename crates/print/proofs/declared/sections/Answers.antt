-- `print::declared::sections` meets its contract.
use Rattle.paper.specs.Words.{bytes}
use Rattle.print.proofs.Laws.{named, ◌then◌}
use Rattle.print.proofs.Sections.{sections_headed}
use Rattle.print.proofs.declared.sections.Goals as goal

pub returns : goal.returns
unfolding bytes
returns c =
    named (sections_headed _) (c.headed-a.ensures then c.headed-b.ensures then c.headed.ensures)
