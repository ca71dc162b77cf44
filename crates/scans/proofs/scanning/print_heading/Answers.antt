-- `scans::scanning::print_heading`: what was printed lies in the buffer.
use mathlib.Core.Path.{sym}
use lib.Seq.{length-take-le}
use Rattle.kaldvimur.proofs.Fits.{print_done}
use Rattle.scans.proofs.scanning.print_heading.Goals as goal

pub slice_bounds-out-end : goal.slice_bounds-out-end
slice_bounds-out-end g c = (print_done _ _ _ _ (rw c.in-Ok.is at c.print.ensures)).2

pub slice_bounds-print-end-2 : goal.slice_bounds-print-end-2
slice_bounds-print-end-2 g c = sym (length-take-le _ _ (print_done _ _ _ _ (rw c.in-Ok.is at c.print.ensures)).2)
