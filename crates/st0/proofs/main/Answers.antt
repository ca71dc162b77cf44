-- `st0::main`: what was printed lies in the buffer.
use mathlib.Core.Path.{sym}
use lib.Seq.{length-take-le}
use Rattle.kaldvimur.proofs.Fits.{print_done}
use Rattle.st0.proofs.main.Goals as goal

pub slice_bounds-out-end : goal.slice_bounds-out-end
slice_bounds-out-end c = (print_done _ _ _ _ (rw c.in-Ok.is at c.print.ensures)).2

pub slice_bounds-write_all-end : goal.slice_bounds-write_all-end
slice_bounds-write_all-end c = sym (length-take-le _ _ (print_done _ _ _ _ (rw c.in-Ok.is at c.print.ensures)).2)
