-- `print::body::list` meets its contract.
use Rattle.print.proofs.Laws.{◌then◌}
use Rattle.print.proofs.body.list.Goals as goal

pub returns : goal.returns
returns c =
    c.statements-a.ensures then c.semicolon.ensures
