-- From what a public function answered back to the definition's answer.
use mathlib.Core.List.{List}
use mathlib.Core.Path.{◌≡◌, refl, ap}
use Prim.Native.Nat.{ℕ}
use Rattle.std.specs.Prelude.{Ok, Err}
use Rattle.paper.specs.declared.Refusal.{Refusal}
use Rattle.paper.specs.Refusals.{Answer, refused, given, refusal}
use Rattle.paper.specs.Judge.{Sound, judge, accepted, verdict_on, verdict}
use Rattle.lent.specs.Outcomes.{outcome}

module _ {A T : Type 0} (f : A → T) where
  pub was_refused : (o : Answer A) {e : Refusal} → outcome f o ≡ Err e → o ≡ refused e.why e.place
  was_refused (refused w p) {e} h = let same : refusal w p ≡ e = cc in ap (λ (x : Refusal). refused x.why x.place) same
  was_refused (given x) h = absurd cc

  pub was_given : (o : Answer A) {y : T} → outcome f o ≡ Ok y → (x : A) × (o ≡ given x) × (y ≡ f x)
  was_given (refused w p) h = absurd cc
  was_given (given x) h = (x, refl, cc)

-- a verdict is such an answer
pub verdict_is : (t : List ℕ) → verdict t ≡ outcome accepted (judge t)
unfolding verdict
verdict_is t = go (judge t)
  where
    go : (o : Answer Sound) → verdict_on o ≡ outcome accepted o
    go (refused w p) = refl
    go (given a) = refl
