-- `kaldvimur::print_in` meets its contract: judging, the count of bytes, and the bytes where they have room.
use native.Mathlib.Omega.{arith}
use Rattle.std.proofs.lemmas.Result.{err_from_is_err_and}
use Rattle.kaldvimur.proofs.Holding.{standing}
use Rattle.kaldvimur.proofs.Answers.{print_refused, print_no_room, print_done}
use Rattle.kaldvimur.proofs.print_in.Goals as goal

pub returns-in_err-program : goal.returns-in_err-program
returns-in_err-program c =
    let exit = err_from_is_err_and c.from_residual.result c.from_residual.ensures.1 in
    rw (exit.1, exit.2) (print_refused _ _ c.in_err-program.ensures _)

pub returns-then-out-counted : goal.returns-then-out-counted
returns-then-out-counted c =
    rw c.refused.ensures (print_no_room _ _ _ _ _ (standing _ _ c.in_ok-program.ensures) c.counted.result c.counted.ensures _ c.if-out-counted.true)

pub returns : goal.returns
returns c =
    print_done _ _ _ _ _ (standing _ _ c.in_ok-program.ensures) c.counted.result c.counted.ensures _ _ _ c.if-out-counted.false
    (omega (arith, c.well_formed)) c.printed.ensures
