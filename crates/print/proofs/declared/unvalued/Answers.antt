-- `print::declared::unvalued` meets its contract.
use Rattle.paper.specs.Words.{bytes}
use Rattle.print.proofs.Laws.{◌then◌}
use Rattle.print.proofs.declared.unvalued.Goals as goal

pub returns : goal.returns
unfolding bytes
returns c =
    c.type_name-a.ensures then c.put.ensures
