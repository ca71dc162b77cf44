-- Lists: how long they are, and what stands at a place.
use mathlib.Core.Path.{◌≡◌, refl, ap}
use mathlib.Core.Option.{some}
use mathlib.Core.List.{List, [], ◌∷◌, ◌++◌, map}
use Prim.Native.Nat.{ℕ, zero, suc, ◌+◌, ◌<◌}
use native.Mathlib.Nat.{suc-add, zero-add, le_of_suc-le-suc, not-suc-le-zero}
use native.Mathlib.Omega.{arith}
use lib.ListN.{length, set, get_elem?, replicate, length-append}
use Rattle.demands.specs.InTypes.{All}
use Rattle.demands.proofs.Answers.{none_some}

module _ {A : Type 0} where
  pub length_snoc : (xs : List A) (a : A) → length (xs ++ a ∷ []) ≡ suc (length xs)
  length_snoc xs a = omega (arith, length-append xs (a ∷ []))

  -- an element that is there has its place
  pub some_inside : (xs : List A) (i : ℕ) (x : A) → get_elem? xs i ≡ some x → i < length xs
  some_inside [] i x h = none_some h
  some_inside (y ∷ xs) zero x h = omega arith
  some_inside (y ∷ xs) (suc i) x h = let k = some_inside xs i x h in omega arith

  -- what stands right behind a list
  pub at_seam : (xs : List A) (y : A) (ys : List A) → get_elem? (xs ++ y ∷ ys) (length xs) ≡ some y
  at_seam [] y ys = refl
  at_seam (x ∷ xs) y ys = at_seam xs y ys

  -- n times a, then t: one of the first n is a
  pub copies_front : (n : ℕ) (a : A) (t : List A) (i : ℕ) → i < n → get_elem? (replicate n a ++ t) i ≡ some a
  copies_front zero a t i h = absurd (not-suc-le-zero h)
  copies_front (suc n) a t zero h = refl
  copies_front (suc n) a t (suc i) h = copies_front n a t i (le_of_suc-le-suc h)

  -- and behind them stands t
  pub copies_behind : (n : ℕ) (a : A) (t : List A) (i : ℕ) → get_elem? (replicate n a ++ t) (n + i) ≡ get_elem? t i
  copies_behind zero a t i = rw zero-add
  copies_behind (suc n) a t i = rw suc-add (copies_behind n a t i)

  -- a map goes through an assignment to a place
  pub map_set : {B : Type 0} (f : A → B) (l : List A) (i : ℕ) (a : A) → map f (set l i a) ≡ set (map f l) i (f a)
  map_set f [] i a = refl
  map_set f (x ∷ xs) zero a = refl
  map_set f (x ∷ xs) (suc i) a = ap (λ r. f x ∷ r) (map_set f xs i a)

  -- what holds of every element of two lists
  pub both_all : (Q : A → Type 0) (xs ys : List A) → All Q xs → All Q ys → All Q (xs ++ ys)
  both_all Q [] ys h k = k
  both_all Q (x ∷ xs) ys h k = (h.0, both_all Q xs ys h.1 k)
