-- `try_texts::answer` meets its contract.
use mathlib.Core.Path.{sym}
use lib.Seq.{length-take-le}
use Rattle.try_texts.proofs.Answers.{answered_print}
use Rattle.kaldvimur.proofs.Fits.{print_done}
use Rattle.try_texts.proofs.answer.Goals as goal

pub slice_bounds-out-end : goal.slice_bounds-out-end
slice_bounds-out-end c = (print_done _ _ _ _ (rw c.in-Ok.is at c.print.ensures)).2

pub slice_bounds-printed_as-end : goal.slice_bounds-printed_as-end
slice_bounds-printed_as-end c = sym (length-take-le _ _ (print_done _ _ _ _ (rw c.in-Ok.is at c.print.ensures)).2)

pub returns-in-Ok : goal.returns-in-Ok
returns-in-Ok c = answered_print _ _ _ _ _ (rw c.in-Ok.is at c.print.ensures) c.printed_as.ensures
