-- Values of cells by their numbers: whether they fit, as held, and as lent.
use mathlib.Core.Path.{◌≡◌, refl, sym, ap, ◌∙◌}
use mathlib.Core.Bool.{Bool, true, false, not, ◌&&◌}
use mathlib.Core.List.{List, [], ◌∷◌, map}
use Prim.Native.Nat.{ℕ, zero, suc, ◌+◌, ◌^◌, ◌≤◌, ◌<◌}
use native.Mathlib.Numerals.{add-one}
use native.Mathlib.Omega.{arith}
use lib.IntN.{ℤ, pos}
use lib.Signed.{mag}
use lib.ListN.{length, get_or, drop, drop_of_length-le}
use lib.Seq.{drop-cons}
use mir.Syntax.{w64}
use mir.Val.{to_z, of_z}
use mir.Facts.{to_z-of_z}
use borrow.Author.Tests.{not-true, not-false}
use Rattle.paper.specs.Types.{decode}
use Rattle.paper.specs.Names.{Info}
use Rattle.paper.specs.Plain.{State}
use Rattle.paper.specs.Judge.{cell_fits, all_fit, held, lent, put_readings}
use Rattle.cells.specs.Numbers.{info_of, held_of, read_in}

-- a value in a buffer, and as the machine reads it
pub as_read : (z : ℤ) → mag z < 2 ^ 63 → to_z w64 (of_z w64 z) ≡ z
as_read z l = to_z-of_z {w = w64} {z = z} (record { sfits = l })

-- ---- whether all fit, from a place on

abbrev pub fit_from : ℕ → List ℕ → List ℤ → List ℤ → Bool
fit_from i xs zs ys = all_fit (map info_of (drop i xs)) (drop i zs) (drop i ys)

module _ (xs : List ℕ) (zs ys : List ℤ) (l : length xs ≤ length zs) (m : length xs ≤ length ys) where
  abbrev here_fits : ℕ → Bool
  here_fits i = cell_fits (info_of (get_or xs i 0)) (get_or zs i (pos 0)) (get_or ys i (pos 0))

  fit_cons : (i : ℕ) → i < length xs → fit_from i xs zs ys ≡ here_fits i && fit_from (suc i) xs zs ys
  unfolding all_fit
  fit_cons i b =
      let dx = drop-cons xs i 0 b in
      let dz = drop-cons zs i (pos 0) (omega arith) in
      let dy = drop-cons ys i (pos 0) (omega arith) in
      rw (dx, dz, dy)

  pub fit_stops : (i : ℕ) (r all : Bool) → i < length xs → r ≡ here_fits i → not r ≡ true → fit_from i xs zs ys ≡ all → false ≡ all
  fit_stops i r all b h e g =
      sym (ap (λ c. c && fit_from (suc i) xs zs ys) (sym h ∙ not-true r e)) ∙ sym (fit_cons i b) ∙ g

  pub fit_goes : (i : ℕ) (r all : Bool) → i < length xs → r ≡ here_fits i → not r ≡ false → fit_from i xs zs ys ≡ all → fit_from (i + 1) xs zs ys ≡ all
  fit_goes i r all b h e g =
      ap (λ n. fit_from n xs zs ys) (add-one i)
      ∙ sym (ap (λ c. c && fit_from (suc i) xs zs ys) (sym h ∙ not-false r e))
      ∙ sym (fit_cons i b)
      ∙ g

pub fit_ends : (xs : List ℕ) (zs ys : List ℤ) (i : ℕ) (all : Bool) → length xs ≤ i → fit_from i xs zs ys ≡ all → true ≡ all
unfolding all_fit
fit_ends xs zs ys i all l g =
    let e : drop i xs ≡ [] = drop_of_length-le xs l in
    rw e at g

-- ---- as held

pub length_read : (is : List Info) (zs ys : List ℤ) → length is ≤ length zs → length is ≤ length ys → length (read_in is zs ys) ≡ length is
unfolding put_readings held
length_read [] zs ys l m = refl
length_read (i ∷ is) [] ys l m = absurd (omega arith)
length_read (i ∷ is) (z ∷ zs) [] l m = absurd (omega arith)
length_read (i ∷ is) (z ∷ zs) (y ∷ ys) l m = ap suc (length_read is zs ys (omega arith) (omega arith))

pub read_at : (xs : List ℕ) (zs ys : List ℤ) (i : ℕ) → length xs ≤ length zs → length xs ≤ length ys → i < length xs
    → held_of (info_of (get_or xs i 0)) (get_or zs i (pos 0)) (get_or ys i (pos 0)) ≡ get_or (read_in (map info_of xs) zs ys) i 0
unfolding put_readings held
read_at [] zs ys i l m b = absurd (omega arith)
read_at (x ∷ xs) [] ys i l m b = absurd (omega arith)
read_at (x ∷ xs) (z ∷ zs) [] i l m b = absurd (omega arith)
read_at (x ∷ xs) (z ∷ zs) (y ∷ ys) zero l m b = refl
read_at (x ∷ xs) (z ∷ zs) (y ∷ ys) (suc i) l m b = read_at xs zs ys i (omega arith) (omega arith) (omega arith)

-- ---- as lent

pub length_lent : (is : List Info) (vs : State) → length is ≤ length vs → length (lent is vs) ≡ length is
unfolding lent
length_lent [] vs l = refl
length_lent (i ∷ is) [] l = absurd (omega arith)
length_lent (i ∷ is) (v ∷ vs) l = ap suc (length_lent is vs (omega arith))

pub lent_at : (xs : List ℕ) (vs : State) (i : ℕ) → length xs ≤ length vs → i < length xs
    → decode (info_of (get_or xs i 0)).ty (get_or vs i 0) ≡ get_or (lent (map info_of xs) vs) i (pos 0)
unfolding lent
lent_at [] vs i l b = absurd (omega arith)
lent_at (x ∷ xs) [] i l b = absurd (omega arith)
lent_at (x ∷ xs) (v ∷ vs) zero l b = refl
lent_at (x ∷ xs) (v ∷ vs) (suc i) l b = lent_at xs vs i (omega arith) (omega arith)
