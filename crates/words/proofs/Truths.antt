-- Tests taken together, a test of all entries of a list, and a number looked for in a list.
use mathlib.Core.Path.{◌≡◌, refl, sym, subst}
use mathlib.Core.Bool.{Bool, true, false, not, ◌&&◌, ◌||◌, true≢false, and_comm, and-eq-true_iff}
use mathlib.Core.List.{List, [], ◌∷◌}
use Prim.Native.Nat.{ℕ, zero, suc, ◌<◌}
use native.Mathlib.Omega.{arith}
use lib.ListN.{length, get_or}
use lib.Dec.{T}
use mir.Val.{has_key}
use types.Run.{OneOf, hit}
use Rattle.words.specs.Keys.{NoneOf}

-- two tests that hold together hold
pub both : (x y : Bool) → (x && y) ≡ true → (x ≡ true) × (y ≡ true)
both x y h = (and-eq-true_iff x y).0 h

-- the order of the last two of three tests
pub and_swap : (x y z : Bool) → (x && y && z) ≡ (x && z && y)
and_swap true y z = and_comm y z
and_swap false y z = refl

-- where none of three tests holds, the middle one doesn't
pub or_middle : (x y z : Bool) → (x || y || z) ≡ false → y ≡ false
or_middle true y z h = absurd (true≢false h)
or_middle false true z h = absurd (true≢false h)
or_middle false false z h = refl

-- a test that fails or another that holds: not the one without the other
pub not_both : (x y : Bool) → (not x || y) ≡ not (x && not y)
not_both true true = refl
not_both true false = refl
not_both false y = refl

module _ {A : Type 0} (p : A → Bool) where
  abbrev pub all : List A → Bool
  all [] = true
  all (x ∷ xs) = p x && all xs

  pub all_at : (xs : List A) (i : ℕ) (d : A) → all xs ≡ true → i < length xs → p (get_or xs i d) ≡ true
  all_at [] i d h l = absurd (omega arith)
  all_at (x ∷ xs) zero d h l = (both (p x) (all xs) h).0
  all_at (x ∷ xs) (suc i) d h l = all_at xs i d (both (p x) (all xs) h).1 (omega arith)

-- ---- a number among the keys of a `match`

abbrev pub among : List (List ℕ) → ℕ → Bool
among [] a = false
among (ks ∷ arms) a = has_key ks a || among arms a

besides : (arms : List (List ℕ)) (a : ℕ) (N : Type 0) → NoneOf arms a N → N
besides [] a N n = n
besides (ks ∷ arms) a N n = (besides arms a (N × (OneOf ks a → ⊥)) n).0

no_key : (ks : List ℕ) (a : ℕ) → (OneOf ks a → ⊥) → has_key ks a ≡ false
no_key ks a n = go (has_key ks a) refl
  where
    go : (b : Bool) → has_key ks a ≡ b → b ≡ false
    go true h = absurd (n (hit ks a (subst T (sym h) tt)))
    go false h = refl

-- what the last arm knows is that the number isn't among them
pub none_among : (arms : List (List ℕ)) (a : ℕ) (N : Type 0) → NoneOf arms a N → among arms a ≡ false
none_among [] a N n = refl
none_among (ks ∷ arms) a N n = rw (no_key ks a (besides arms a (N × (OneOf ks a → ⊥)) n).1) (none_among arms a (N × (OneOf ks a → ⊥)) n)
