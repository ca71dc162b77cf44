-- `judge::judge` meets its contract: 1 to 7, then 8 and 9.
use native.Mathlib.Omega.{arith}
use Rattle.std.proofs.lemmas.Result.{err_from_is_err_and}
use Rattle.judge.proofs.Finishing.{refused_early, refused_walking, stands}
use Rattle.judge.proofs.judge.Goals as goal

pub returns-in_err-s : goal.returns-in_err-s
returns-in_err-s c =
    let exit = err_from_is_err_and c.from_residual.result c.from_residual.ensures.1 in
    rw (exit.1, exit.2) (refused_early _ _ _ _ _ c.in_err-s.ensures)

pub returns-in_err-u : goal.returns-in_err-u
returns-in_err-u c =
    let exit = err_from_is_err_and c.from_residual-in_err-u.result c.from_residual-in_err-u.ensures.1 in
    rw (exit.1, exit.2) (refused_walking _ _ _ _ c.in_ok-s.ensures _ _ _ c.in_err-u.ensures)

pub returns : goal.returns
returns c =
    stands _ _ _ _ c.in_ok-s.ensures _ _ _ c.in_ok-u.ensures (omega (arith, c.ruled.auto.scratch, c.requires.plain))
