-- `kaldvimur_c::kv_accept` meets its contract.
use native.Mathlib.Omega.{arith}
use mathlib.Core.Path.{sym, ◌∙◌}
use Rattle.kaldvimur_c.proofs.Bounds.{verdict_told}
use Rattle.kaldvimur_c.proofs.Counting.{accept_short, accept_refused, accept_given}
use Rattle.kaldvimur_c.proofs.kv_accept.Goals as goal

pub returns-then-four-lt4 : goal.returns-then-four-lt4
returns-then-four-lt4 c =
    accept_short _ _ (omega arith) _ c.no_room.ensures

pub code-requires : goal.code-requires
code-requires c =
    verdict_told _ (sym c.accept.ensures ∙ c.in-Err.is)

pub overflow_cast-four : goal.overflow_cast-four
overflow_cast-four c =
    omega (arith, (verdict_told _ (sym c.accept.ensures ∙ c.in-Ok.is)).cells)

pub overflow_cast-four-in-Ok : goal.overflow_cast-four-in-Ok
overflow_cast-four-in-Ok c =
    omega (arith, (verdict_told _ (sym c.accept.ensures ∙ c.in-Ok.is)).weight)

pub overflow_cast-four-in-Ok-2 : goal.overflow_cast-four-in-Ok-2
overflow_cast-four-in-Ok-2 c =
    omega (arith, (verdict_told _ (sym c.accept.ensures ∙ c.in-Ok.is)).figure)

pub overflow_cast-four-in-Ok-3 : goal.overflow_cast-four-in-Ok-3
overflow_cast-four-in-Ok-3 c =
    omega (arith, (verdict_told _ (sym c.accept.ensures ∙ c.in-Ok.is)).length)

pub returns-in-Err : goal.returns-in-Err
returns-in-Err c =
    accept_refused _ _ (omega arith) (sym c.accept.ensures ∙ c.in-Err.is) _ c.code.ensures

pub returns-in-Ok : goal.returns-in-Ok
returns-in-Ok c =
    accept_given _ _ (omega arith) (sym c.accept.ensures ∙ c.in-Ok.is)
