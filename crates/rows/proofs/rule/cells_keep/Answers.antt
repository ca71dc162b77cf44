-- By the tests of all cells.
use Rattle.std.proofs.Common.{rules, tests, ◌∙◌}
use Rattle.std.proofs.lemmas.Iterator.{YieldsList-from_slice}
use Rattle.std.proofs.lemmas.Iterator.Search.{all_from_yields_List}
use Rattle.paper.specs.Tables.{lines_in}
use Rattle.rows.specs.Lent.{cell_passes}
use Rattle.rows.proofs.Infos.{cells_every}
use Rattle.rows.proofs.rule.cells_keep.Goals as goal

pub returns : goal.returns
returns c =
    let A = c.args in
    let ls = lines_in A.n A.rows.now in
    all_from_yields_List (cell_passes ls) _ _ c.all.result c.all.ensures.ran (YieldsList-from_slice A.cells.now cc) (λ x b q k. search (rules, tests))
    ∙ cells_every ls A.cells.now
