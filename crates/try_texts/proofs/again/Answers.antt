-- `try_texts::again` meets its contract.
use mathlib.Core.Path.{◌≡◌, sym, ◌∙◌}
use Rattle.std.proofs.Common.{rules}
use Rattle.std.specs.Prelude.{Result}
use Rattle.paper.specs.declared.Accepted.{Accepted}
use Rattle.paper.specs.declared.Refusal.{Refusal}
use lib.Seq.{length-take-le}
use Rattle.std.proofs.lemmas.Bool.Decides.{Decides-eqb}
use Rattle.std.proofs.lemmas.Slice.Eq.{slice_eq-Decides}
use Rattle.kaldvimur.proofs.Fits.{print_done}
use Rattle.try_texts.proofs.again.Goals as goal

pub slice_bounds-out-end : goal.slice_bounds-out-end
slice_bounds-out-end c = (print_done _ _ _ _ (rw c.in-Ok.is at c.print.ensures)).2

pub slice_bounds-eq-end : goal.slice_bounds-eq-end
slice_bounds-eq-end c = sym (length-take-le _ _ (print_done _ _ _ _ (rw c.in-Ok.is at c.print.ensures)).2)

pub returns-then-eq : goal.returns-then-eq
returns-then-eq c e =
    let v : ◌≡◌ {A = Result Accepted Refusal} c.accept.result c.args.v = search rules in
    let w = print_done _ _ _ _ (rw c.in-Ok.is at c.print.ensures) in
    (w.0, w.1, sym w.3 ∙ (slice_eq-Decides Decides-eqb _ _ _ c.eq.ensures).0 c.if-eq.true, sym c.accept.ensures ∙ v)
