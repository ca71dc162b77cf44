-- From the last cell to the first; the cells are marked that the two lists assign.
use Rattle.std.proofs.Common.{arith, refl}
use lib.ListN.{get_or-replicate}
use Rattle.table.proofs.Selecting.{merge_none, merge_kept, merge_select, all_selected}
use Rattle.table.proofs.merging.merge_cells.Goals as goal

pub loop-i-preserved-then-marks-i-eq0 : goal.loop-i-preserved-then-marks-i-eq0
loop-i-preserved-then-marks-i-eq0 c env rows r kept later =
    let A = c.args in
    let L = c.loop-i in
    L.invariant env rows r kept
    (merge_kept L.i A.test A.infos.now _ L.env env A.other.now L.rows rows L.count r (omega arith) (omega arith) (omega arith) (omega arith) c.if-marks-i-eq0.true later)

pub loop-i-preserved : goal.loop-i-preserved
loop-i-preserved c env rows r kept later =
    let A = c.args in
    let L = c.loop-i in
    L.invariant env rows r kept
    (merge_select L.i A.test A.infos.now _ L.env env A.other.now L.rows rows L.count r (omega arith) (omega arith) (omega arith) (omega arith) _ _ c.push_select-made.result
    c.if-marks-i-eq0.false refl (rw (c.row_of-x.ensures, c.row_of-y.ensures) at c.push_select-made.ensures) (rw c.set_row.ensures at later))

pub returns : goal.returns
returns c =
    let A = c.args in
    let L = c.loop-i in
    all_selected _ _ A.test A.infos.now _ _ _ A.env.now L.env A.other.now A.rows.now L.rows A.count L.count (omega arith)
    (λ i l. get_or-replicate 64 i 0 0 (omega arith)) c.mark.ensures c.mark-2.ensures
    (L.invariant L.env L.rows L.count (omega arith) (merge_none L.i A.test A.infos.now _ L.env A.other.now L.rows L.count (omega arith) (omega arith)))
