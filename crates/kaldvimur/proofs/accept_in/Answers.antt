-- `kaldvimur::accept_in` meets its contract: judging, and then the figure and the count of bytes.
use Rattle.std.proofs.lemmas.Result.{err_from_is_err_and}
use Rattle.kaldvimur.proofs.Holding.{standing}
use Rattle.kaldvimur.proofs.Answers.{verdict_refused, verdict_given}
use Rattle.kaldvimur.proofs.accept_in.Goals as goal

pub returns-in_err-program : goal.returns-in_err-program
returns-in_err-program c =
    let exit = err_from_is_err_and c.from_residual.result c.from_residual.ensures.1 in
    rw (exit.1, exit.2) (verdict_refused _ _ c.in_err-program.ensures)

pub returns : goal.returns
returns c =
    verdict_given _ _ _ _ _ (standing _ _ c.in_ok-program.ensures) _ c.counted-length.result (rw (c.node_at.ensures.0, c.node_at.ensures.1) at c.figure_of-figure.ensures) c.counted-length.ensures
