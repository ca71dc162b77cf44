-- Four stores, where there is room.
use Rattle.std.proofs.Common.{arith}
use Rattle.table.proofs.Growing.{emit_written}
use Rattle.table.proofs.records.emit_row.Goals as goal

pub returns : goal.returns
returns c =
    let A = c.args in
    emit_written A.rows.now A.count A.head A.a A.b A.c (omega arith) (omega arith)
