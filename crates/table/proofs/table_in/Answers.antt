-- The three walks, one behind another.
use Rattle.table.proofs.Whole.{whole_table}
use Rattle.table.proofs.table_in.Goals as goal

pub returns : goal.returns
returns c =
    let A = c.args in
    whole_table A.list.pool.now A.list.at A.infos.now A.env.now c.read_cells-reads.new.env c.list_rows-count.new.env A.rows.now _ _ A.cells.now _ _ _
    c.read_cells-reads.ensures c.list_rows-count.ensures c.cell_records.ensures
