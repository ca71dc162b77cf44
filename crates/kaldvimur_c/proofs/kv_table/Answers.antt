-- `kaldvimur_c::kv_table` meets its contract.
use mathlib.Core.Path.{sym, ap, ◌∙◌}
use native.Mathlib.Omega.{arith}
use Rattle.kaldvimur_c.proofs.Bounds.{place, value, tabled}
use Rattle.kaldvimur_c.proofs.Answers.{was_refused, was_given}
use Rattle.kaldvimur.specs.declared.tables.Sizes.{Sizes}
use Rattle.kaldvimur_c.proofs.Counting.{table_short, table_refused, table_made}
use Rattle.kaldvimur_c.proofs.kv_table.Goals as goal

pub returns-then-two-lt2 : goal.returns-then-two-lt2
returns-then-two-lt2 c =
    table_short _ _ _ _ (omega arith) _ c.no_room.ensures

pub code-requires : goal.code-requires
code-requires c =
    place (tabled _ _ _) (was_refused _ _ (sym c.table.ensures.answer ∙ c.in-Err.is))

pub overflow_cast-two : goal.overflow_cast-two
overflow_cast-two c =
    let (q, e, s) = was_given _ _ (sym c.table.ensures.answer ∙ c.in-Ok.is) in omega (arith, ap (λ (z : Sizes). z.rows) s, (value (tabled _ _ _) e).0)

pub overflow_cast-two-in-Ok : goal.overflow_cast-two-in-Ok
overflow_cast-two-in-Ok c =
    let (q, e, s) = was_given _ _ (sym c.table.ensures.answer ∙ c.in-Ok.is) in omega (arith, ap (λ (z : Sizes). z.cells) s, (value (tabled _ _ _) e).1)

pub returns-in-Err : goal.returns-in-Err
returns-in-Err c =
    table_refused _ _ _ _ (omega arith) c.table.ensures c.in-Err.is _ c.code.ensures

pub returns-in-Ok : goal.returns-in-Ok
returns-in-Ok c =
    table_made _ _ _ _ (omega arith) c.table.ensures c.in-Ok.is
