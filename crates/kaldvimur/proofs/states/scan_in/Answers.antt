-- `kaldvimur::states::scan_in` meets its contract: judging, and the scan of the judged program.
use Rattle.std.proofs.lemmas.Result.{err_from_is_err_and}
use Rattle.kaldvimur.proofs.Holding.{standing}
use Rattle.kaldvimur.proofs.Scanning.{scan_refused, scan_judged}
use Rattle.kaldvimur.proofs.states.scan_in.Goals as goal

pub returns-in_err-program : goal.returns-in_err-program
returns-in_err-program c =
    let exit = err_from_is_err_and c.from_residual.result c.from_residual.ensures.1 in
    rw (exit.1, exit.2) (scan_refused _ _ c.in_err-program.ensures _ _)

pub returns : goal.returns
returns c =
    scan_judged _ _ _ _ _ (standing _ _ c.in_ok-program.ensures) _ _ _ _ c.scan_judged.ensures
