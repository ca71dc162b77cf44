-- What is written over the front of a list: element by element, and many of one element.
use mathlib.Core.Path.{◌≡◌, refl, sym, ap, ap₂, ◌∙◌}
use mathlib.Core.List.{List, [], ◌∷◌, ◌++◌}
use Prim.Native.Nat.{ℕ, zero, suc, ◌+◌, ◌-◌, ◌≤◌, ◌<◌, min}
use native.Mathlib.Nat.{suc-add, zero-add}
use native.Mathlib.Numerals.{add-one}
use native.Mathlib.Omega.{arith}
use lib.ListN.{length, get_or, take, drop, set, replicate, length-append, length-drop, length-replicate, take-append-drop, replicate-append-replicate}
use lib.Seq.{length-take-le, take_all, take-suc, take-append_seam}
use Rattle.paper.specs.Judge.{over}
use Rattle.cells.specs.Pour.{pour, Poured, Filled}

module _ {A : Type 0} where
  pour_none : (xs : List A) → pour xs [] ≡ []
  unfolding pour
  pour_none [] = refl
  pour_none (x ∷ xs) = refl

  pub length_pour : (xs c : List A) → length (pour xs c) ≡ length c
  unfolding pour
  length_pour [] c = refl
  length_pour (x ∷ xs) [] = refl
  length_pour (x ∷ xs) (y ∷ c) = ap suc (length_pour xs c)

  -- where there is room for all
  pub pour_over : (xs c : List A) → length xs ≤ length c → pour xs c ≡ over xs c
  unfolding pour
  pour_over [] c l = refl
  pour_over (x ∷ xs) [] l = absurd (omega arith)
  pour_over (x ∷ xs) (y ∷ c) l = ap (λ r. x ∷ r) (pour_over xs c (omega arith))

  -- one element more
  pour_more : (xs c : List A) (x : A) → set (pour xs c) (length xs) x ≡ pour (xs ++ x ∷ []) c
  unfolding pour
  pour_more [] [] x = refl
  pour_more [] (y ∷ c) x = refl
  pour_more (z ∷ xs) [] x = refl
  pour_more (z ∷ xs) (y ∷ c) x = ap (λ r. z ∷ r) (pour_more xs c x)

  -- two lists, one behind the other
  pour_append : (xs ys c : List A) (n : ℕ) → n ≡ min (length xs) (length c) → pour (xs ++ ys) c ≡ take n (pour xs c) ++ pour ys (drop n (pour xs c))
  unfolding pour
  pour_append [] ys c n e = let z : n ≡ 0 = omega arith in rw z
  pour_append (x ∷ xs) ys [] n e = let z : n ≡ 0 = omega arith in rw z (sym (pour_none ys))
  pour_append (x ∷ xs) ys (y ∷ c) zero e = absurd (omega arith)
  pour_append (x ∷ xs) ys (y ∷ c) (suc n) e = ap (λ r. x ∷ r) (pour_append xs ys c n (omega arith))

  -- ---- a list, element by element

  pub pour_start : (c : List A) → c ≡ pour [] c
  unfolding pour
  pour_start c = refl

  pub pour_step : (xs c v : List A) (i : ℕ) (d r : A) → i < length xs → v ≡ pour (take i xs) c → r ≡ get_or xs i d → set v i r ≡ pour (take (i + 1) xs) c
  pour_step xs c v i d r l h e =
      ap₂ (λ w y. set w i y) h e
      ∙ ap (λ n. set (pour (take i xs) c) n (get_or xs i d)) (sym (length-take-le i xs (omega arith)))
      ∙ pour_more (take i xs) c (get_or xs i d)
      ∙ ap (λ w. pour w c) (sym (take-suc xs i d l) ∙ ap (λ n. take n xs) (sym (add-one i)))

  pub pour_end : (xs c v : List A) (i : ℕ) → length xs ≤ i → length xs ≤ length c → v ≡ pour (take i xs) c → v ≡ over xs c
  pour_end xs c v i l m h = h ∙ ap (λ w. pour w c) (take_all i xs l) ∙ pour_over xs c m

  -- ---- many of one element, from a place on

  set_behind : (xs ys : List A) (k : ℕ) (x : A) → set (xs ++ ys) (length xs + k) x ≡ xs ++ set ys k x
  set_behind [] ys k x = rw zero-add
  set_behind (y ∷ xs) ys k x = rw suc-add (ap (λ r. y ∷ r) (set_behind xs ys k x))

  -- the list after n of them
  abbrev pub filled_to : ℕ → ℕ → A → List A → List A
  filled_to at n x c = take at c ++ pour (replicate n x) (drop at c)

  pub fill_start : (at : ℕ) (x : A) (c : List A) → c ≡ filled_to at (at - at) x c
  unfolding pour
  fill_start at x c = let z : at - at ≡ 0 = omega arith in rw z (sym (take-append-drop at c))

  pub fill_step : (at i : ℕ) (x : A) (c v : List A) → at ≤ i → i < length c → v ≡ filled_to at (i - at) x c → set v i x ≡ filled_to at (i + 1 - at) x c
  fill_step at i x c v l m h =
      let k : ℕ = i - at in
      let p : List A = take at c in
      let q : List A = pour (replicate k x) (drop at c) in
      let e : i ≡ length p + k = omega (arith, length-take-le at c (omega arith)) in
      let next : k + 1 ≡ i + 1 - at = omega arith in
      ap₂ (λ w n. set w n x) h e
      ∙ set_behind p q k x
      ∙ ap (λ n. p ++ set q n x) (sym (length-replicate k x))
      ∙ ap (λ w. p ++ w) (pour_more (replicate k x) (drop at c) x)
      ∙ ap (λ w. p ++ pour w (drop at c)) (replicate-append-replicate k 1 x)
      ∙ ap (λ n. filled_to at n x c) next

  -- as many as there is room for
  pour_same : (m n : ℕ) (x : A) (c : List A) → min m (length c) ≡ min n (length c) → pour (replicate m x) c ≡ pour (replicate n x) c
  unfolding pour
  pour_same m n x [] e = pour_none (replicate m x) ∙ sym (pour_none (replicate n x))
  pour_same zero zero x (y ∷ c) e = refl
  pour_same zero (suc n) x (y ∷ c) e = absurd (omega arith)
  pour_same (suc m) zero x (y ∷ c) e = absurd (omega arith)
  pour_same (suc m) (suc n) x (y ∷ c) e = ap (λ r. x ∷ r) (pour_same m n x c (omega arith))

  pub fill_end : (at n i : ℕ) (x : A) (c v : List A) → at ≤ length c → i ≡ min (at + n) (length c) → v ≡ filled_to at (i - at) x c → Filled at n x c v i
  fill_end at n i x c v l e h =
      record {
        poured = h ∙ ap (λ w. take at c ++ w) (pour_same (i - at) n x (drop at c) (rw (length-drop at c) (omega arith)));
        behind = e;
      }

  -- behind what has been written already
  pub poured_start : (c : List A) → Poured [] c c 0
  unfolding pour
  poured_start c = record { poured = refl; behind = omega arith }

  pub poured_more : (xs c v new : List A) (at n r : ℕ) (x : A) → Poured xs c v at → Filled at n x v new r → Poured (xs ++ replicate n x) c new r
  poured_more xs c v new at n r x h f =
      record {
        poured = f.poured ∙ ap (filled_to at n x) h.poured ∙ sym (pour_append xs (replicate n x) c at h.behind);
        behind = omega (arith, f.behind, h.behind, length-append xs (replicate n x), length-replicate n x, ap length h.poured, length_pour xs c);
      }

  pub poured_kept : (xs c v : List A) (r : ℕ) → Poured xs c v r → length v ≡ length c
  poured_kept xs c v r h = ap length h.poured ∙ length_pour xs c

  -- where there was room for all: what has been written
  pub poured_front : (xs c v : List A) (r : ℕ) → Poured xs c v r → length xs ≤ length c → take r v ≡ xs
  poured_front xs c v r h l =
      let e : r ≡ length xs = omega (arith, h.behind) in
      ap₂ take e (h.poured ∙ pour_over xs c l) ∙ take-append_seam xs _
