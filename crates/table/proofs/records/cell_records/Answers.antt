-- From the last cell to the first.
use Rattle.std.proofs.Common.{arith, ap, ◌∙◌}
use Rattle.paper.specs.Tables.{cell_record}
use Rattle.table.proofs.Cells.{ends_none, ends_one}
use Rattle.table.proofs.records.cell_records.Goals as goal

pub loop-i-preserved : goal.loop-i-preserved
loop-i-preserved c cells kept later =
    let A = c.args in
    let L = c.loop-i in
    L.invariant cells kept
    (ends_one L.i A.infos.now A.env.now L.cells cells c.cell_record.result (omega arith) c.requires.0 (omega arith) (omega arith)
    (λ j says. c.cell_record.ensures j says ∙ ap (cell_record j) c.row_of.ensures) later)

pub returns : goal.returns
returns c =
    let A = c.args in
    let L = c.loop-i in
    L.invariant L.cells (omega arith) (ends_none L.i A.infos.now A.env.now L.cells (omega arith))
