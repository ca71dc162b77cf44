-- From the last cell to the first.
use Rattle.std.proofs.Common.{arith, refl}
use Rattle.table.proofs.Cells.{starts_none, starts_one}
use Rattle.table.proofs.read_cells.Goals as goal

pub loop-i-preserved : goal.loop-i-preserved
loop-i-preserved c env rows r kept later =
    let A = c.args in
    let L = c.loop-i in
    L.invariant env rows r kept
    (starts_one L.i A.infos.now L.env L.rows L.count env _ rows _ r c.push_read-made.result (omega arith) (omega arith) (omega arith) refl c.push_read-made.ensures
    (rw c.set_row.ensures at later))

pub returns : goal.returns
returns c =
    let A = c.args in
    let L = c.loop-i in
    L.invariant L.env L.rows L.count (omega arith) (starts_none L.i A.infos.now L.env L.rows L.count (omega arith) (omega arith))
