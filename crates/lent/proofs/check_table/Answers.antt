-- `lent::check_table` meets its contract.
use mathlib.Core.Path.{ap}
use Rattle.std.specs.Prelude.{Err}
use Prim.Native.Nat.{◌*◌}
use Rattle.lent.proofs.Checking.{have_room, check_no_room, check_broken, check_kept}
use Rattle.lent.proofs.check_table.Goals as goal

pub returns-then-not-has_room : goal.returns-then-not-has_room
returns-then-not-has_room c =
    let A = c.args in
    check_no_room A.rows.now A.cells.now A.n_rows A.n_cells _ c.has_room.ensures c.if-not-has_room.true-raw _ (ap Err c.refused.ensures)

pub returns-then-not-table_keeps : goal.returns-then-not-table_keeps
returns-then-not-table_keeps c =
    let A = c.args in
    let room = have_room A.rows.now A.cells.now (4 * A.n_rows) A.n_cells _ c.has_room.ensures c.if-not-has_room.false-raw in
    let keeps = c.table_keeps in
    check_broken A.rows.now A.cells.now A.n_rows A.n_cells room keeps.result keeps.ensures c.if-not-table_keeps.true-raw _ (ap Err c.refused-then-not-table_keeps.ensures)

pub returns : goal.returns
returns c =
    let A = c.args in
    let room = have_room A.rows.now A.cells.now (4 * A.n_rows) A.n_cells _ c.has_room.ensures c.if-not-has_room.false-raw in
    let keeps = c.table_keeps in
    check_kept A.rows.now A.cells.now A.n_rows A.n_cells room keeps.result keeps.ensures c.if-not-table_keeps.false-raw
