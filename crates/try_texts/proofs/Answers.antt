-- A text's answer, by what printing it gave.
use mathlib.Core.Path.{◌≡◌, ap, ◌∙◌, subst}
use mathlib.Core.List.{List}
use Prim.Native.Nat.{ℕ}
use lib.ListN.{take, replicate}
use Rattle.std.specs.Prelude.{Ok}
use Rattle.tally.specs.declared.Answer.{Answer}
use Rattle.tally.specs.declared.Answer.TheVariants as A
use Rattle.kaldvimur.specs.Outcomes.{printed, PrintDid}
use Rattle.paper.specs.Judge.{judge}
use Rattle.lent.specs.Outcomes.{outcome}
use Rattle.try_texts.specs.Prints.{PrintedAs, Answered}
use Rattle.kaldvimur.proofs.Fits.{print_done}

pub answered_print : (t x new : List ℕ) (r : Answer) (n : ℕ) → PrintDid t (replicate 65536 0) new (Ok n) → (r ≡ A.Passed → PrintedAs t (take n new) x) → Answered t x r
answered_print t x new r n d h =
    let p = print_done t (replicate 65536 0) new n d in
    record {
      bad = λ w q e. let f = d.answer ∙ ap (outcome (λ _. printed (judge t))) e in cc;
      good = λ e. (p.0, p.1, subst (λ y. PrintedAs t y x) p.3 (h e));
    }
