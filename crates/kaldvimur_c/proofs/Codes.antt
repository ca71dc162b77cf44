-- An outcome's code is that of the answer.
use mathlib.Core.Path.{◌≡◌, refl, sym, ap, ◌∙◌, subst}
use Prim.Native.Nat.{ℕ}
use Rattle.paper.specs.Refusals.{Answer, refused, given}
use Rattle.demands.proofs.Placed.{Answers, stopped, gave}
use Rattle.lent.specs.Outcomes.{Outcome, outcome, left}
use Rattle.kaldvimur_c.specs.Codes.{answered, told, Near, Did}
use Rattle.kaldvimur_c.proofs.Bounds.{Low}

module _ {A : Type 0} (f : A → ℕ) where
  told_is : (o : Answer A) → told (outcome f o) ≡ answered o
  told_is (refused w p) = refl
  told_is (given x) = refl

  outcome_near : {Q : A → Type 0} {o : Answer A} → Answers Low Q o → Near (outcome f o)
  outcome_near (stopped h) = h
  outcome_near (gave h) = tt

  -- an outcome that stands for an answer
  pub is_near : {Q : A → Type 0} {o : Answer A} (x : Outcome) → Answers Low Q o → x ≡ outcome f o → Near x
  is_near x h e = subst Near (sym e) (outcome_near h)

  pub tells : (o : Answer A) {x : Outcome} {r : ℕ} → x ≡ outcome f o → r ≡ told x → r ≡ answered o
  tells o e h = h ∙ ap told e ∙ told_is o

  pub tells_all : (g : A → Answer A) {old new : A} {x : Outcome} {r : ℕ} → x ≡ outcome f (g old) → new ≡ left old (g old) → r ≡ told x → Did g old new r
  tells_all g {old} e l h = record { answer = tells (g old) e h; lent = l }
