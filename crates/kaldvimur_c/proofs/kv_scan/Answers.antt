-- `kaldvimur_c::kv_scan` meets its contract.
use mathlib.Core.Path.{sym, ◌∙◌}
use native.Mathlib.Omega.{arith}
use Rattle.kaldvimur_c.proofs.Bounds.{place, value, scanned}
use Rattle.kaldvimur_c.proofs.Answers.{was_refused, was_given}
use Rattle.kaldvimur_c.proofs.Counting.{scan_short, scan_refused, scan_done}
use Rattle.kaldvimur_c.proofs.kv_scan.Goals as goal

pub returns-then-steps-lt1 : goal.returns-then-steps-lt1
returns-then-steps-lt1 c =
    scan_short _ _ _ _ (omega arith) _ c.no_room.ensures

pub code-requires : goal.code-requires
code-requires c =
    place (scanned _ _ _) (was_refused _ _ (sym c.scan.ensures.answer ∙ c.in-Err.is))

pub overflow_cast-steps : goal.overflow_cast-steps
overflow_cast-steps c =
    let (s, e, k) = was_given _ _ (sym c.scan.ensures.answer ∙ c.in-Ok.is) in omega (arith, k, value (scanned _ _ _) e)

pub returns-in-Err : goal.returns-in-Err
returns-in-Err c =
    scan_refused _ _ _ _ (omega arith) c.scan.ensures c.in-Err.is _ c.code.ensures

pub returns-in-Ok : goal.returns-in-Ok
returns-in-Ok c =
    scan_done _ _ _ _ (omega arith) c.scan.ensures c.in-Ok.is
