-- `kaldvimur::states::start_in` meets its contract: judging, the test of room, and the declared values.
use Rattle.std.proofs.lemmas.Result.{err_from_is_err_and}
use Rattle.kaldvimur.proofs.Holding.{standing}
use Rattle.kaldvimur.proofs.Starting.{start_refused, start_no_room, start_done}
use Rattle.kaldvimur.proofs.states.start_in.Goals as goal

pub returns-in_err-program : goal.returns-in_err-program
returns-in_err-program c =
    let exit = err_from_is_err_and c.from_residual.result c.from_residual.ensures.1 in
    rw (exit.1, exit.2) (start_refused _ _ c.in_err-program.ensures _)

pub returns-then-state-judged : goal.returns-then-state-judged
returns-then-state-judged c =
    rw c.refused.ensures (start_no_room _ _ _ _ _ (standing _ _ c.in_ok-program.ensures) _ c.if-state-judged.true)

pub returns : goal.returns
returns c =
    start_done _ _ _ _ _ (standing _ _ c.in_ok-program.ensures) _ c.if-state-judged.false _ c.start.ensures
