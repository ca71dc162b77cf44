-- The variable's name, and the subscript.
use Rattle.std.proofs.Common.{arith, ◌∙◌, ◌/◌, ◌<◌, length}
use Rattle.print.proofs.Laws.{named, ◌then◌}
use Rattle.print.proofs.Cells.{variable_cell_lem}
use Rattle.print.proofs.body.cell.Goals as goal

pub returns : goal.returns
returns c =
    let V = c.args.names.variables in
    let v = c.variable_of-v in
    let at = c.declaration.ensures in
    let l : v.result < length V.table.now / 4 = omega arith in
    named (λ k. v.ensures.found l V.text.now k
    ∙ variable_cell_lem V.text.now V.pool.now V.table.now v.result c.args.c _ _ k at.1 c.first_cell-first.ensures)
    (c.named-a.ensures then rw (at.0) at c.subscripted.ensures)
