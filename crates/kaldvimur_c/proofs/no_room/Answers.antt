-- `kaldvimur_c::no_room` meets its contract.
use mathlib.Core.Path.{sym, ◌∙◌}
use Rattle.kaldvimur_c.proofs.Bounds.{verdict_told}
use Rattle.kaldvimur_c.proofs.Counting.{no_room_refused, no_room_given}
use Rattle.kaldvimur_c.proofs.no_room.Goals as goal

pub code-requires : goal.code-requires
code-requires c = verdict_told _ (sym c.accept.ensures ∙ c.in-Err.is)

pub returns-in-Err : goal.returns-in-Err
returns-in-Err c = no_room_refused _ (sym c.accept.ensures ∙ c.in-Err.is) c.code.ensures

pub returns : goal.returns
returns c = no_room_given _ (sym c.accept.ensures ∙ c.in_default.is) (rw c.refused.ensures at c.code-2.ensures)
