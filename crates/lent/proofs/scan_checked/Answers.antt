-- `lent::scan_checked` meets its contract.
use mathlib.Core.Path.{ap}
use Rattle.std.specs.Prelude.{Err}
use Prim.Native.Nat.{◌*◌}
use Rattle.paper.specs.Judge.{scan_checked}
use Rattle.paper.specs.Tables.{total_in}
use Rattle.rows.proofs.Total.{total_front}
use Rattle.lent.proofs.Checking.{have_room, reads_checked, scan_no_room, scan_no_values, scan_broken, scannable, scan_goes}
use Rattle.lent.proofs.scan_checked.Goals as goal

pub returns-then-not-has_room : goal.returns-then-not-has_room
returns-then-not-has_room c =
    let A = c.args in
    scan_no_room scan_checked total_in reads_checked A.rows.now A.cells.now A.n_rows A.n_cells A.inputs.now A.state.now _ c.has_room.ensures c.if-not-has_room.true-raw _ (ap Err c.refused.ensures)

pub returns-then-not-has_values : goal.returns-then-not-has_values
returns-then-not-has_values c =
    let A = c.args in
    let room = have_room A.rows.now A.cells.now (4 * A.n_rows) A.n_cells _ c.has_room.ensures c.if-not-has_room.false-raw in
    scan_no_values scan_checked total_in reads_checked A.rows.now A.cells.now A.n_rows A.n_cells A.inputs.now A.state.now room _ c.has_values.ensures c.if-not-has_values.true-raw _ (ap Err c.refused-then-not-has_values.ensures)

pub returns-then-not-is_readable : goal.returns-then-not-is_readable
returns-then-not-is_readable c =
    let A = c.args in
    let room = have_room A.rows.now A.cells.now (4 * A.n_rows) A.n_cells _ c.has_room.ensures c.if-not-has_room.false-raw in
    let values = have_room A.state.now A.inputs.now A.n_cells A.n_cells _ c.has_values.ensures c.if-not-has_values.false-raw in
    let tested = c.is_readable in
    scan_broken scan_checked total_in reads_checked A.rows.now A.cells.now A.n_rows A.n_cells A.inputs.now A.state.now room values (total_front _ _ _ _ room.1) tested.result (tested.ensures A.rows.now) c.if-not-is_readable.true-raw _ (ap Err c.refused-then-not-is_readable.ensures)

pub scan_by-requires : goal.scan_by-requires
scan_by-requires c =
    let A = c.args in
    let room = have_room A.rows.now A.cells.now (4 * A.n_rows) A.n_cells _ c.has_room.ensures c.if-not-has_room.false-raw in
    let values = have_room A.state.now A.inputs.now A.n_cells A.n_cells _ c.has_values.ensures c.if-not-has_values.false-raw in
    let tested = c.is_readable in
    scannable total_in (λ t u e. e) A.rows.now A.cells.now A.n_rows A.n_cells A.inputs.now A.state.now room values tested.result (tested.ensures A.rows.now) c.if-not-is_readable.false-raw

pub returns : goal.returns
returns c =
    let A = c.args in
    let room = have_room A.rows.now A.cells.now (4 * A.n_rows) A.n_cells _ c.has_room.ensures c.if-not-has_room.false-raw in
    let values = have_room A.state.now A.inputs.now A.n_cells A.n_cells _ c.has_values.ensures c.if-not-has_values.false-raw in
    let tested = c.is_readable in
    scan_goes scan_checked total_in reads_checked A.rows.now A.cells.now A.n_rows A.n_cells A.inputs.now A.state.now room values (total_front _ _ _ _ room.1) tested.result (tested.ensures A.rows.now) c.if-not-is_readable.false-raw (λ u e. e) _ _ c.scan_by.ensures
