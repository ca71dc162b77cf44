-- `kaldvimur::tables::table_in` meets its contract: judging, room for the largest table of its weight, and the table.
use Rattle.std.proofs.lemmas.Result.{err_from_is_err_and}
use Rattle.kaldvimur.proofs.Holding.{standing}
use Rattle.kaldvimur.proofs.Tabling.{table_refused, table_no_room, table_done}
use Rattle.kaldvimur.proofs.tables.table_in.Goals as goal

pub returns-in_err-program : goal.returns-in_err-program
returns-in_err-program c =
    let exit = err_from_is_err_and c.from_residual.result c.from_residual.ensures.1 in
    rw (exit.1, exit.2) (table_refused _ _ c.in_err-program.ensures _ _)

pub returns-then-not-has_room : goal.returns-then-not-has_room
returns-then-not-has_room c =
    let A = c.args in
    rw c.refused.ensures
    (table_no_room _ _ _ _ _ (standing _ _ c.in_ok-program.ensures) A.rows.now A.cells.now _ c.has_room.ensures c.if-not-has_room.true-raw)

pub returns : goal.returns
returns c =
    let A = c.args in
    table_done _ _ _ _ _ (standing _ _ c.in_ok-program.ensures) A.rows.now A.cells.now _ c.has_room.ensures c.if-not-has_room.false-raw _ _ _
    c.write-n.ensures
