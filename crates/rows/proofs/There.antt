-- What is there or not: an element of a list, and an answer that a test decides.
use mathlib.Core.Bool.{Bool, true, false, cond, ◌&&◌}
use mathlib.Core.List.{List, [], ◌∷◌}
use mathlib.Core.Option.{Option, none, some}
use mathlib.Core.Path.{◌≡◌, refl, sym, ◌∙◌}
use Prim.Native.Nat.{ℕ, zero, suc, ◌<◌, ◌≤◌}
use native.Mathlib.Omega.{arith}
use borrow.Author.Tests.{ltb-true, ltb-false}
use lib.Dec.{ltb}
use lib.ListN.{length, get_or, get_elem?}
use Rattle.paper.specs.Meaning.{◌>>=◌}
use Rattle.rows.specs.Lent.{Answers}

-- ---- an element of a list

module _ {A : Type 0} where
  pub there : (l : List A) (k : ℕ) (d : A) → k < length l → get_elem? l k ≡ some (get_or l k d)
  there [] k d h = absurd (omega arith)
  there (a ∷ l) zero d h = refl
  there (a ∷ l) (suc k) d h = there l k d (omega arith)

  pub missing : (l : List A) (k : ℕ) → length l ≤ k → get_elem? l k ≡ none
  missing [] k h = refl
  missing (a ∷ l) zero h = absurd (omega arith)
  missing (a ∷ l) (suc k) h = missing l k (omega arith)

  pub found : (l : List A) (k : ℕ) (d : A) → get_elem? l k ≡ cond (ltb k (length l)) (some (get_or l k d)) none
  found l k d = go (ltb k (length l)) refl
    where
      go : (b : Bool) → ltb k (length l) ≡ b → get_elem? l k ≡ cond b (some (get_or l k d)) none
      go true e = there l k d (ltb-true k (length l) e)
      go false e = missing l k (ltb-false k (length l) e)

-- ---- an answer that a test decides

module _ {A : Type 0} where
  pub answered : {o : Option A} (b : Bool) (u : A) → o ≡ cond b (some u) none → Answers o b
  answered true u e = (u, e)
  answered false u e = e

  -- nothing is no answer
  pub no_answer : {a : A} → none ≡ some a → ⊥
  no_answer e = let z : ◌≡◌ {A = ℕ} 0 1 = cc in omega arith

  -- where a test says what is there, nothing else is
  pub certain : {o : Option A} {a u : A} (b : Bool) → o ≡ cond b (some a) none → o ≡ some u → a ≡ u
  certain true p q = cc
  certain false p q = absurd (no_answer (sym p ∙ q))

  pub both : (p q : Bool) (a : A) → cond p (cond q (some a) none) none ≡ cond (p && q) (some a) none
  both true q a = refl
  both false q a = refl

pub then : {A B : Type 0} (p : Bool) (a : A) (f : A → Option B) → (cond p (some a) none >>= f) ≡ cond p (f a) none
then true a f = refl
then false a f = refl

-- two answers as one
pub joined : {A B C : Type 0} (p q : Bool) (a : A) (b : B) (f : A → B → C)
    → (cond p (some a) none >>= λ x. cond q (some b) none >>= λ y. some (f x y)) ≡ cond (p && q) (some (f a b)) none
joined true true a b f = refl
joined true false a b f = refl
joined false q a b f = refl
