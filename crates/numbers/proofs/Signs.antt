-- Digits up to ten, and a whole number by its digits and its sign.
use mathlib.Core.Path.{◌≡◌, refl, sym, ap, ◌∙◌}
use Rattle.std.specs.Prelude.{Option, None, Some, MatchOption}
use mathlib.Core.Bool.{true, false, false≢true}
use mathlib.Core.List.{List, [], ◌∷◌, ◌++◌}
use Prim.Native.Nat.{ℕ, zero, suc, ◌+◌, ◌-◌, ◌*◌, ◌≤◌, ◌<◌}
use native.Mathlib.Numerals.{add-one}
use native.Mathlib.Omega.{arith}
use lib.IntN.{ℤ, pos, negsuc, neg_ℤ, nat_abs, ◌-ℤ◌, +ℤ_idl}
use lib.ListN.{length, get_or, take, length-take}
use mir.Syntax.{w64}
use mir.Val.{SFits, to_z, of_z}
use mir.Facts.{to_z-of_z, to_z_pos}
use Rattle.paper.specs.Words.{is_digit, begins}
use Rattle.pack.specs.Records.{Decimal, none, more, NoDigit, Spells}
use Rattle.pack.specs.declared.Spelled.{Spelled as Digits}
use Rattle.pack.proofs.Numbers.{range, one_more}
use Rattle.pack.proofs.Beginnings.{begun}
use Rattle.numbers.specs.declared.Whole.{Whole}
use Rattle.numbers.specs.Spellings.{plain, minus, IsTen, IsPlain, IsWhole, digit_first, number_first}

-- ---- up to ten digits

module _ (s : List ℕ) (n : Digits) (h : Spells s n) where
  pub with_tenth : n.count < length s → is_digit (get_or s n.count 0) ≡ true
      → IsTen s (record { value = n.value * 10 + (get_or s n.count 0 - 48); count = n.count + 1 })
  with_tenth l g =
      record {
        some = omega arith;
        within = omega arith;
        small = omega (arith, range (get_or s n.count 0) g);
        digits = one_more s n.count n.value l g h.digits;
        stops = λ _ b. let low : n.value < 100000000 = omega arith in absurd (false≢true (sym (h.stops l low) ∙ g));
      }

  pub no_tenth : (n.count < length s → is_digit (get_or s n.count 0) ≡ false) → IsTen s n
  no_tenth f = record { some = h.some; within = h.within; small = omega arith; digits = h.digits; stops = λ l _. f l }

-- ---- where a number stands

-- digits have a digit first
snoc_first : (s : List ℕ) (c : ℕ) → is_digit c ≡ true → (0 < length s → digit_first s ≡ true) → digit_first (s ++ (c ∷ [])) ≡ true
snoc_first [] c g f = g
snoc_first (x ∷ s) c g f = f (omega arith)

first_digit : {s : List ℕ} {n : ℕ} → Decimal s n → 0 < length s → digit_first s ≡ true
first_digit none l = absurd (omega arith)
first_digit (more {s} d c g) l = snoc_first s c g (λ k. first_digit d k)

take_first : (k : ℕ) (s : List ℕ) → 0 < k → digit_first (take k s) ≡ digit_first s
take_first zero s l = absurd (omega arith)
take_first (suc k) [] l = refl
take_first (suc k) (x ∷ s) l = refl

none_first : (s : List ℕ) → NoDigit s → digit_first s ≡ false
none_first [] f = refl
none_first (x ∷ s) f = f (omega arith)

-- ---- with its sign

minus_size : (n : ℕ) → nat_abs (neg_ℤ (pos n)) ≡ n
minus_size zero = refl
minus_size (suc n) = refl

-- its negation is far from the ends of i64
pub minus_fits : (n : ℕ) → n < 10000000000 → SFits w64 (neg_ℤ (pos n))
minus_fits zero h = record { sfits = omega arith }
minus_fits (suc n) h = record { sfits = omega arith }

-- as the machine negates it, and reads it back
pub negation : (n : ℕ) (z : ℤ) → n < 10000000000 → z ≡ pos n → pos 0 -ℤ to_z w64 (of_z w64 z) ≡ neg_ℤ (pos n)
negation n z h e = rw (e, to_z_pos w64 {n = n} (omega arith)) (+ℤ_idl (neg_ℤ (pos n)))

pub negated : (n : ℕ) (z : ℤ) → n < 10000000000 → z ≡ pos n → to_z w64 (of_z w64 (pos 0 -ℤ to_z w64 (of_z w64 z))) ≡ neg_ℤ (pos n)
negated n z h e = rw (negation n z h e) (to_z-of_z (minus_fits n h))

pub read_back : (z : ℤ) → nat_abs z ≤ 9999999999 → to_z w64 (of_z w64 z) ≡ z
read_back (pos n) h = to_z-of_z {w = w64} {z = pos n} (record { sfits = omega arith })
read_back (negsuc n) h = to_z-of_z {w = w64} {z = negsuc n} (record { sfits = omega arith })

module _ (s : List ℕ) (n : Whole) (h : IsPlain s n) where
  counted : 0 < length (take n.count s)
  counted = omega (arith, length-take n.count s, h.digits.within, h.digits.some)

  first : digit_first s ≡ true
  first = sym (take_first n.count s h.digits.some) ∙ first_digit h.digits.digits counted

  -- no minus stands in front
  pub plain_whole : begins (45 ∷ []) s ≡ false → IsWhole s n
  plain_whole b =
      record {
        first = rw b first;
        within = h.digits.within;
        small = rw h.as_whole (omega (arith, h.digits.small));
        spelled = rw h.as_whole (plain counted h.digits.digits);
        stops = λ l m. h.digits.stops l (rw h.as_whole at m);
      }

  -- one does
  pub minus_whole : (t : List ℕ) → t ≡ 45 ∷ s → (z : ℤ) → z ≡ neg_ℤ (pos h.value) → IsWhole t (record { value = z; count = n.count + 1 })
  minus_whole t c z g =
      record {
        first = rw (c, begun (45 ∷ []) s) first;
        within = omega (arith, ap length c, h.digits.within);
        small = rw (g, minus_size h.value) (omega (arith, h.digits.small));
        spelled = rw (g, c, add-one) (minus counted h.digits.digits);
        stops = λ l m. rw (c, add-one) (h.digits.stops (omega (arith, ap length c)) (rw (g, minus_size h.value) at m));
      }

-- what was read where no minus stands in front
pub unsigned : (s : List ℕ) → begins (45 ∷ []) s ≡ false → (r : Option Whole) → MatchOption r (NoDigit s) (IsPlain s) → MatchOption r (number_first s ≡ false) (IsWhole s)
unsigned s b None h = rw b (none_first s h)
unsigned s b (Some n) h = plain_whole s n h b
