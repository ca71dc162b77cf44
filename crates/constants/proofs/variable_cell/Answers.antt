-- `constants::variable_cell` meets its contract.
use mathlib.Core.Path.{◌≡◌, ap, ◌∙◌}
use Rattle.tree.specs.Nodes.{word_of}
use Rattle.tree.specs.Trees.{name_at}
use Rattle.variables.specs.Table.{type_at, node_in, listed_in}
use Rattle.constants.proofs.Types.{type_of_name_lem}
use Rattle.constants.proofs.Cells.{the_cell, variable_cell_lem}
use Rattle.constants.proofs.variable_cell.Goals as goal

pub returns : goal.returns
returns c =
    let A = c.args in
    let vs = listed_in A.vars.text.now A.vars.pool.now A.vars.table.now in
    let n = name_at A.vars.text.now A.place in
    let node = c.declaration-declared.ensures in
    let listed = c.in_ok-v.ensures.listed A.vars.pool.now in
    let ty : c.type_of.result ≡ type_at A.vars.pool.now (node_in A.vars.pool.now (word_of A.vars.table.now c.in_ok-v.v 1)) = rw (node.0, node.1) at c.type_of.ensures in
    let first : the_cell c.first_cell.result ≡ the_cell (word_of A.vars.table.now c.in_ok-v.v 2) = ap the_cell c.first_cell.ensures in
    record {
      cell = first ∙ variable_cell_lem vs n _ listed _ (rw (node.0, node.1) at c.is_array.ensures) c.if-is_array.false;
      ty = ty ∙ type_of_name_lem vs n _ listed;
    }
