-- `judge::rules::rules` meets its contract, one rule after another.
use Rattle.std.proofs.lemmas.Result.{err_from_is_err_and}
use Rattle.judge.proofs.Ruling.{bad_name, bad_type, too_high, keeps}
use Rattle.judge.proofs.rules.rules.Goals as goal

pub returns-in_err-refuse : goal.returns-in_err-refuse
returns-in_err-refuse c room =
    let n = c.first_bad_name-named in
    let exit = err_from_is_err_and c.from_residual.result c.from_residual.ensures.1 in
    rw (exit.1, exit.2) (bad_name _ _ _ _ _ _ _ room n.ensures _ c.in_err-refuse.ensures)

pub returns-in_err-refuse-2 : goal.returns-in_err-refuse-2
returns-in_err-refuse-2 c room =
    let n = c.first_bad_name-named in
    let exit = err_from_is_err_and c.from_residual-in_err-refuse-2.result c.from_residual-in_err-refuse-2.ensures.1 in
    rw (exit.1, exit.2)
    (bad_type _ _ _ _ _ _ _ room n.ensures _ c.in_ok-refuse.ensures _ c.first_bad_type.ensures.0 _ c.in_err-refuse-2.ensures)

pub returns-in_err-refuse-3 : goal.returns-in_err-refuse-3
returns-in_err-refuse-3 c room =
    let n = c.first_bad_name-named in
    let exit = err_from_is_err_and c.from_residual-in_err-refuse-3.result c.from_residual-in_err-refuse-3.ensures.1 in
    rw (exit.1, exit.2)
    (too_high _ _ _ _ _ _ _ room n.ensures _ c.in_ok-refuse.ensures _ c.first_bad_type.ensures.0 _ c.in_ok-refuse-2.ensures _ (c.first_too_high.ensures _) _ c.in_err-refuse-3.ensures)

pub returns : goal.returns
returns c room =
    let n = c.first_bad_name-named in
    keeps _ _ _ _ _ _ _ room n.ensures _ c.in_ok-refuse.ensures _ c.first_bad_type.ensures.0 _ c.in_ok-refuse-2.ensures _ (c.first_too_high.ensures _) _ c.in_ok-refuse-3.ensures c.requires.0 n.auto.table
