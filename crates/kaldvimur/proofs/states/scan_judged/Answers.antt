-- `kaldvimur::states::scan_judged` meets its contract: the cells, the tests of room and values, and the list carried out.
use mathlib.Core.Path.{sym}
use native.Mathlib.Omega.{arith}
use borrow.Author.Tests.{ltb-true, ltb-false}
use lib.ListN.{length}
use lib.Seq.{length-take-le}
use Rattle.kaldvimur.proofs.Scanning.{listed_room, state_short, inputs_short, scan_unfit, scan_done}
use Rattle.kaldvimur.proofs.states.scan_judged.Goals as goal
use Rattle.kaldvimur.proofs.states.scan_judged.Goals.{then-state-n-via-else-state-n+then-inputs-n, then-state-n-via-then-state-n}

pub returns-then-state-n : goal.returns-then-state-n
returns-then-state-n c =
    let A = c.args in
    let f = c.cells_of-n in
    rw c.refused.ensures
    (elim c.then-state-n.branch [ then-state-n-via-then-state-n w ↦ state_short A.program.pool.now A.program.table.now A.program.plain.now A.program.judged A.inputs.now A.state.now _ _ f.result (omega arith) f.ensures w.if-state-n.true | then-state-n-via-else-state-n+then-inputs-n w ↦ inputs_short A.program.pool.now A.program.table.now A.program.plain.now A.program.judged A.inputs.now A.state.now _ _ f.result (omega arith) f.ensures w.if-state-n.false (ltb-true (length A.inputs.now) f.result w.if-inputs-n.true-raw) ])

pub slice_bounds-cells-end : goal.slice_bounds-cells-end
slice_bounds-cells-end c =
    listed_room _ _ _ _ _ c.cells_of-n.ensures c.cells_of-n.auto.cells

pub slice_bounds-fit-end : goal.slice_bounds-fit-end
slice_bounds-fit-end c =
    sym (length-take-le _ _ (listed_room _ _ _ _ _ c.cells_of-n.ensures c.cells_of-n.auto.cells))

pub returns-then-not-fit : goal.returns-then-not-fit
returns-then-not-fit c =
    let A = c.args in
    let f = c.cells_of-n in
    rw c.refused-then-not-fit.ensures
    (scan_unfit A.program.pool.now A.program.table.now A.program.plain.now A.program.judged A.inputs.now A.state.now _ _ f.result (omega arith) f.ensures c.if-state-n.false (ltb-false (length A.inputs.now) f.result c.if-inputs-n.false-raw) c.fit.result c.fit.ensures c.if-not-fit.true-raw)

pub slice_bounds-cells-end-2 : goal.slice_bounds-cells-end-2
slice_bounds-cells-end-2 c =
    listed_room _ _ _ _ _ c.cells_of-n.ensures c.cells_of-n.auto.cells

pub slice_bounds-carry_out-end : goal.slice_bounds-carry_out-end
slice_bounds-carry_out-end c =
    sym (length-take-le _ _ (listed_room _ _ _ _ _ c.cells_of-n.ensures c.cells_of-n.auto.cells))

pub returns : goal.returns
returns c =
    let A = c.args in
    let f = c.cells_of-n in
    scan_done A.program.pool.now A.program.table.now A.program.plain.now A.program.judged A.inputs.now A.state.now _ _ f.result (omega arith) f.ensures c.if-state-n.false (ltb-false (length A.inputs.now) f.result c.if-inputs-n.false-raw) c.fit.result c.fit.ensures c.if-not-fit.false-raw _ _ c.carry_out.ensures
