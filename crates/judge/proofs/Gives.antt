-- A stage that answers by a result, and the stages behind it.
use mathlib.Core.Path.{◌≡◌, refl, ap}
use Prim.Native.Nat.{ℕ}
use Rattle.std.specs.Prelude.{Result, Ok, Err}
use Rattle.paper.specs.declared.Why.{Why}
use Rattle.paper.specs.declared.Refusal.{Refusal}
use Rattle.paper.specs.Refusals.{Answer, refused, given, refusal, Gives, ◌>>=◌}

module _ {A B T U : Type 0} (P : A → T → Type 0) (Q : B → U → Type 0) (f : A → Answer B) where
  -- its refusal is the answer of all
  pub stops : (a : Answer A) (e : Refusal) → Gives P a (Err e) → Gives Q (a >>= f) (Err e)
  stops (refused w p) e h = let same : e ≡ refusal w p = cc in ap Err same
  stops (given x) e h = absurd h

  -- or they answer
  pub goes : (a : Answer A) (t : T) (r : Result U Refusal) → Gives P a (Ok t) → ((x : A) → a ≡ given x → P x t → Gives Q (f x) r) → Gives Q (a >>= f) r
  goes (refused w p) t r h k = absurd cc
  goes (given x) t r h k = k x refl h

-- what was asked for
pub gave : {A T : Type 0} (P : A → T → Type 0) (a : Answer A) (t : T) → Gives P a (Ok t) → (x : A) × (a ≡ given x) × P x t
gave P (refused w p) t h = absurd cc
gave P (given x) t h = (x, refl, h)

-- or why it was refused, and where
pub record Refuses {A : Type 0} (a : Answer A) (e : Refusal) : Type 0 where
  pub why : Why
  pub place : ℕ
  pub is : a ≡ refused why place
  pub same : e ≡ refusal why place

pub refuses : {A T : Type 0} (P : A → T → Type 0) (a : Answer A) (e : Refusal) → Gives P a (Err e) → Refuses a e
refuses P (refused w p) e h = record { why = w; place = p; is = refl; same = cc }
refuses P (given x) e h = absurd h
