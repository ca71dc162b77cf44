-- A number's digits are one word: the number.
use mathlib.Core.Path.{◌≡◌, refl, ap, ◌∙◌}
use mathlib.Core.Bool.{Bool, true, false, false≢true}
use mathlib.Core.List.{List, [], ◌∷◌, ◌++◌}
use Prim.Native.Nat.{ℕ, zero, suc, ◌+◌, ◌*◌, ◌/◌, ◌%◌, ◌≤◌, ◌<◌}
use native.Mathlib.Omega.{arith}
use borrow.Author.Tests.{ltb-true, ltb-false, leb-true, le-leb, ne_eqb}
use lib.Dec.{leb, ltb}
use lib.IntN.{ℤ, pos, negsuc, nat_abs}
use lib.ListN.{length}
use Rattle.paper.specs.declared.Ty.{Ty}
use Rattle.paper.specs.declared.Ty.TheVariants.{Bool as BOOL, Int as INT, Uint as UINT, Dint as DINT, Udint as UDINT}
use Rattle.paper.specs.Types.{fits}
use Rattle.paper.specs.Words as W
use Rattle.paper.specs.Words.{Word, bytes, words_from, piece_of}
use Rattle.paper.specs.Printing as P
use Rattle.demands.specs.InTypes.{All}
use Rattle.demands.proofs.Truths.{and_true, both}
use Rattle.again.proofs.Wordings.{whole_words}
use Rattle.again.proofs.Spells.{Spells, step, unit, Ends, Run, digit_in_run, number_piece_lem}

-- ten for each digit
unfoldable top : ℕ → ℕ
top zero = 1
top (suc f) = 10 * top f

abbrev Digits : List ℕ → Type 0
Digits s = All (λ c. W.is_digit c ≡ true) s

-- the digits of a number in front of others
digits_append : (f n : ℕ) (a k : List ℕ) → P.digits f n (a ++ k) ≡ P.digits f n a ++ k
unfolding P.digits
digits_append zero n a k = refl
digits_append (suc f) n a k = go (ltb n 10) (digits_append f (n / 10) ((48 + n % 10) ∷ a) k)
  where
    go : (b : Bool) → P.digits f (n / 10) ((48 + n % 10) ∷ (a ++ k)) ≡ P.digits f (n / 10) ((48 + n % 10) ∷ a) ++ k
        → elim b [ true ↦ (48 + n) ∷ (a ++ k) | false ↦ P.digits f (n / 10) ((48 + n % 10) ∷ (a ++ k)) ]
        ≡ elim b [ true ↦ (48 + n) ∷ a | false ↦ P.digits f (n / 10) ((48 + n % 10) ∷ a) ] ++ k
    go true h = refl
    go false h = h

digit : (d : ℕ) → d < 10 → W.is_digit (48 + d) ≡ true
digit d h = both (le-leb 48 (48 + d) (omega arith)) (le-leb (48 + d) 57 (omega arith))

no_underscore : (c : ℕ) → W.is_digit c ≡ true → W.is_underscore c ≡ false
no_underscore c h = ne_eqb c 95 (let k = leb-true c 57 (and_true (leb 48 c) (leb c 57) h).1 in omega arith)

-- what the digits of n in front of acc are worth, and that all are digits
record Decimal (n : ℕ) (acc s : List ℕ) : Type 0 where
  first : ℕ
  rest : List ℕ
  is : s ≡ first ∷ rest
  all : Digits (first ∷ rest)
  value : W.value_from 0 (first ∷ rest) ≡ W.value_from n acc

some_left : (f n : ℕ) → 10 ≤ n → n < 10 * top f → 0 < f
unfolding top
some_left zero n h l = absurd (omega arith)
some_left (suc f) n h l = omega arith

decimal : (f n : ℕ) (acc : List ℕ) → n < top f → 0 < f → Digits acc → Decimal n acc (P.digits f n acc)
unfolding P.digits top W.value_from
decimal zero n acc h z d = absurd (omega arith)
decimal (suc f) n acc h z d = go (ltb n 10) refl (λ l k. decimal f (n / 10) ((48 + n % 10) ∷ acc) l k (digit (n % 10) (omega arith), d))
  where
    go : (b : Bool) → ltb n 10 ≡ b
        → (n / 10 < top f → 0 < f → Decimal (n / 10) ((48 + n % 10) ∷ acc) (P.digits f (n / 10) ((48 + n % 10) ∷ acc)))
        → Decimal n acc (elim b [ true ↦ (48 + n) ∷ acc | false ↦ P.digits f (n / 10) ((48 + n % 10) ∷ acc) ])
    go true e ih =
        let l = ltb-true n 10 e in
        record {
          first = 48 + n;
          rest = acc;
          is = refl;
          all = (digit n l, d);
          value = rw (no_underscore (48 + n) (digit n l)) (ap (λ m. W.value_from m acc) (omega arith));
        }
    go false e ih =
        let l = ltb-false n 10 e in
        let k = ih (omega arith) (some_left f n l h) in
        record {
          first = k.first;
          rest = k.rest;
          is = k.is;
          all = k.all;
          value =
              k.value ∙ rw (no_underscore (48 + n % 10) (digit (n % 10) (omega arith))) (ap (λ m. W.value_from m acc) (omega arith));
        }

parted : (s : List ℕ) → Digits s → W.parted s ≡ true
unfolding W.parted
parted [] h = refl
parted (c ∷ []) h = rw (no_underscore c h.0) refl
parted (c ∷ d ∷ s) h = rw (no_underscore c h.0, parted (d ∷ s) h.1) refl

all_digits_lem : (s : List ℕ) → Digits s → W.all_digits s ≡ true
unfolding W.all_digits
all_digits_lem [] h = refl
all_digits_lem (c ∷ s) h = rw (h.0, all_digits_lem s h.1) refl

in_run_lem : (s : List ℕ) → Digits s → Run s
in_run_lem [] h = tt
in_run_lem (c ∷ s) h = (digit_in_run c h.0, in_run_lem s h.1)

digits_piece : (c : ℕ) (u : List ℕ) (n : ℕ) → Digits (c ∷ u) → W.value_from 0 (c ∷ u) ≡ n → n ≤ 4294967295
    → W.number_piece (c ∷ u) ≡ W.word (length u) (W.number n)
unfolding W.number_piece
digits_piece c u n d v h =
    rw (all_digits_lem (c ∷ u) d, parted (c ∷ u) d, v, le-leb n 4294967295 h) (ap (λ m. W.word m (W.number n)) (omega arith))

-- a number
pub natural_word : (n : ℕ) (k : List ℕ) {ws : List Word} → n ≤ 4294967295 → Ends k → Spells k ws → Spells (P.natural n k) (W.number n ∷ ws)
unfolding top W.value_from
natural_word n k {ws} h e s =
    let x = decimal 10 n [] (omega arith) (omega arith) tt in
    let same : P.natural n k ≡ (x.first ∷ x.rest) ++ k = digits_append 10 n [] k ∙ ap (λ l. l ++ k) x.is in
    rw same
    (unit x.first x.rest k (W.number n)
    (number_piece_lem x.first x.rest k (in_run_lem (x.first ∷ x.rest) x.all) x.all.0 e ∙ digits_piece x.first x.rest n x.all x.value h)
    s)

-- a number, with its minus if it has one
pub whole_words_lem : (z : ℤ) (k : List ℕ) {ws : List Word} → nat_abs z ≤ 4294967295 → Ends k → Spells k ws → Spells (P.whole z k) (whole_words z ws)
unfolding words_from piece_of bytes W.begins W.sign_piece W.signs
whole_words_lem (pos n) k h e s = natural_word n k h e s
whole_words_lem (negsuc n) k h e s = λ p. step p (natural_word (suc n) k h e s _)

-- a number begins with a digit
pub natural_digit : (n : ℕ) (k : List ℕ) → n ≤ 4294967295 → (c : ℕ) × (u : List ℕ) × (P.natural n k ≡ c ∷ u) × (W.is_digit c ≡ true)
unfolding top W.value_from
natural_digit n k h =
    let x = decimal 10 n [] (omega arith) (omega arith) tt in
    (x.first, x.rest ++ k, digits_append 10 n [] k ∙ ap (λ l. l ++ k) x.is, x.all.0)

-- a number of a type is small enough to be a word
pub fits_small : (t : Ty) (z : ℤ) → fits t z ≡ true → nat_abs z ≤ 4294967295
unfolding fits
fits_small BOOL (pos n) h = let k = leb-true n 1 (and_true (leb 0 n) (leb n 1) h).1 in omega arith
fits_small BOOL (negsuc n) h = absurd (false≢true h)
fits_small INT (pos n) h = let k = leb-true n 32767 h in omega arith
fits_small INT (negsuc n) h = let k = leb-true n 32767 (and_true (leb n 32767) true h).0 in omega arith
fits_small UINT (pos n) h = let k = leb-true n 65535 (and_true (leb 0 n) (leb n 65535) h).1 in omega arith
fits_small UINT (negsuc n) h = absurd (false≢true h)
fits_small DINT (pos n) h = let k = leb-true n 2147483647 h in omega arith
fits_small DINT (negsuc n) h = let k = leb-true n 2147483647 (and_true (leb n 2147483647) true h).0 in omega arith
fits_small UDINT (pos n) h = let k = leb-true n 4294967295 (and_true (leb 0 n) (leb n 4294967295) h).1 in omega arith
fits_small UDINT (negsuc n) h = absurd (false≢true h)
