-- `constants::cell_at` meets its contract.
use mathlib.Core.Path.{sym, ◌∙◌}
use Rattle.tree.specs.Trees.{name_at}
use Rattle.variables.specs.Table.{listed_in}
use Rattle.constants.proofs.Types.{type_of_name_lem}
use Rattle.constants.proofs.Cells.{bounds_array, element_cell_lem}
use Rattle.constants.proofs.cell_at.Goals as goal

pub returns : goal.returns
returns c =
    let A = c.args in
    let vs = listed_in A.vars.text.now A.vars.pool.now A.vars.table.now in
    let n = name_at A.vars.text.now A.place in
    let node = c.declaration-declared.ensures in
    let listed = c.in_ok-v.ensures.listed A.vars.pool.now in
    let array = sym (rw (node.0, node.1) at c.is_array.ensures) ∙ c.if-not-is_array.false in
    let b = c.bounds_of-bounds.ensures in
    let lo = rw (c.child.ensures.0, c.child.ensures.1, b.0, b.1, node.0, node.1) at c.wide-lo.ensures in
    let hi = rw (c.child-2.ensures.0, c.child-2.ensures.1, b.0, b.1, node.0, node.1) at c.wide-hi.ensures in
    record {
      cell = element_cell_lem vs n _ listed _ _ _ _ A.n _ (bounds_array A.vars.pool.now _ array) (rw (lo, hi, c.first_cell.ensures) at c.in_ok-cell.ensures);
      ty = (rw (node.0, node.1) at c.type_of.ensures) ∙ type_of_name_lem vs n _ listed;
    }
