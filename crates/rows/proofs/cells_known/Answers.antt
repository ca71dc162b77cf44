-- By the tests of all numbers.
use Rattle.std.proofs.Common.{rules, tests, sym}
use Rattle.std.proofs.lemmas.Iterator.{YieldsList-from_slice}
use Rattle.std.proofs.lemmas.Iterator.Search.{all_from_yields_List}
use Rattle.rows.specs.Lent.{is_type}
use Rattle.rows.proofs.Infos.{infos_answer}
use Rattle.rows.proofs.cells_known.Goals as goal

pub returns : goal.returns
returns c =
    let xs = c.args.cells.now in
    infos_answer xs c.all.result (sym (all_from_yields_List is_type _ _ c.all.result c.all.ensures.ran (YieldsList-from_slice xs cc) (λ x b q k. search (rules, tests))))
