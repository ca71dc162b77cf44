-- The proof of the cycle of calls {choice_rows, list_rows}. The measure is the node, a list's above its own IF's: a child is an earlier one.
use Rattle.table.proofs.Binding.{nil_binds, both_binds, choice_binds}
use Rattle.table.proofs.lists.+lists.Goals as goal

pub choice_rows-returns : goal.choice_rows-returns
choice_rows-returns t c =
    let A = c.args in
    let a = c.child-a.ensures in
    let b = c.child-b.ensures in
    choice_binds A.infos.now A.n.pool.now A.env.now A.n.at c.merge_cells.new.env A.rows.now _ A.count _ c.requires.0
    _ _ _ _ _ c.list_rows-y.new.env c.list_rows-z.new.env _ _
    (rw (c.child.ensures.0, c.child.ensures.1) at c.expression_rows-test.ensures) (rw (a.0, a.1) at c.list_rows-y.ensures)
    c.copy_from_slice.ensures.after (rw (b.0, b.1) at c.list_rows-z.ensures) (rw (a.0, a.1, b.0, b.1) at c.merge_cells.ensures)

pub list_rows-returns-in-Nothing : goal.list_rows-returns-in-Nothing
list_rows-returns-in-Nothing t c =
    let A = c.args in nil_binds A.infos.now A.n.pool.now A.env.now A.n.at c.in-Nothing.ensures A.rows.now A.count

pub list_rows-returns-in-List : goal.list_rows-returns-in-List
list_rows-returns-in-List t c =
    let A = c.args in
    both_binds A.infos.now A.n.pool.now A.env.now A.n.at c.list_rows.new.env A.rows.now _ A.count _ c.in-List.ensures c.list_rows-y.new.env _ _
    (rw (c.child.ensures.0, c.child.ensures.1) at c.list_rows-y.ensures) (rw (c.child-in-List.ensures.0, c.child-in-List.ensures.1) at c.list_rows.ensures)
