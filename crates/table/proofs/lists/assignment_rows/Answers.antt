-- The right side's rows, and its row stands for the cell.
use Rattle.table.proofs.Binding.{assign_binds}
use Rattle.table.proofs.lists.assignment_rows.Goals as goal

pub returns : goal.returns
returns c =
    let A = c.args in
    let v = c.expression_rows-made.result.at in
    assign_binds A.infos.now A.n.pool.now A.env.now A.n.at _ _ _ A.count _ c.requires v
    (rw c.cell_of.ensures at c.set_row.ensures) (rw (c.child.ensures.0, c.child.ensures.1) at c.expression_rows-made.ensures)
