-- `kaldvimur::arrays::accepted` meets its contract.
use Rattle.std.proofs.lemmas.Result.{err_from_is_err_and}
use Rattle.kaldvimur.proofs.Holding.{held, refused_judging}
use Rattle.kaldvimur.proofs.arrays.accepted.Goals as goal

pub returns-in_err-judged : goal.returns-in_err-judged
returns-in_err-judged c =
    let exit = err_from_is_err_and c.from_residual.result c.from_residual.ensures.1 in
    rw (exit.1, exit.2) (refused_judging _ _ _ _ _ c.in_err-judged.ensures)

pub returns : goal.returns
returns c = held _ _ c.in_ok-judged.ensures
