-- `table::records::push` meets its contract: the row has the number of the rows before it.
use Rattle.table.proofs.Pushing.{pushed}
use Rattle.table.proofs.records.push.Goals as goal

pub returns : goal.returns
returns c =
    pushed _ _ c.args.count _ _ _ _ _ c.emit_row.ensures
