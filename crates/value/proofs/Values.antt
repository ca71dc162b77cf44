-- The value that a residue stands for: it is small, so that a quotient of two fits 64 bits; and it follows from its place among
-- the type's values.
use mathlib.Core.Path.{◌≡◌, refl, sym, ap, ◌∙◌}
use mathlib.Core.Bool.{Bool, true, false, cond, ◌&&◌}
use Prim.Native.Nat.{ℕ, zero, suc, ◌+◌, ◌-◌, ◌/◌, ◌%◌, ◌^◌, ◌<◌, ◌≤◌}
use native.Mathlib.Nat.{div-zero, div-le_self, zero-mod, add-zero, mod-lt, mod-eq_of_lt, mod-add-mod, mod-eq-sub-mod}
use native.Mathlib.Omega.{arith}
use borrow.Author.Tests.{leb-true, leb-false, lt-ltb, le-ltb}
use lib.Dec.{leb}
use lib.IntN.{ℤ, pos, negsuc, neg_ℤ, nat_abs, sub_ℕ, ◌-ℤ◌}
use lib.Signed.{mag, quot_z}
use mir.Syntax.{w64}
use mir.Val.{SFits, to_z, of_z}
use mir.Facts.{to_z-of_z, to_z_pos}
use Rattle.paper.specs.declared.Ty.{Ty}
use Rattle.paper.specs.Types.{width, signed, below, reading, encode, decode, quotient}
use Rattle.value.proofs.Residues.{modulus_above, modulus_small, wrapped_below, halves}

-- ---- sizes: `mag z` is n for n and for -(n + 1)

minus_mag : (n : ℕ) → mag (neg_ℤ (pos n)) ≤ n
minus_mag zero = omega arith
minus_mag (suc n) = omega arith

-- a quotient is no further from 0 than its dividend
quot_mag : (x y : ℤ) → mag (quot_z x y) ≤ nat_abs x
quot_mag (pos a) (pos b) = div-le_self a b
quot_mag (pos a) (negsuc b) = omega (arith, minus_mag (a / suc b), div-le_self a (suc b))
quot_mag (negsuc a) (pos b) = omega (arith, minus_mag (suc a / b), div-le_self (suc a) b)
quot_mag (negsuc a) (negsuc b) = div-le_self (suc a) (suc b)

-- a distance from 0 is at most one more than the size
nat_abs_mag : (z : ℤ) → nat_abs z ≤ suc (mag z)
nat_abs_mag (pos n) = omega arith
nat_abs_mag (negsuc n) = omega arith

-- ---- from the place of a value among those of a type, the lowest first, whose modulus is m and half of it h

minus_pos : (a b : ℕ) → pos a -ℤ pos b ≡ sub_ℕ a b
minus_pos a zero = rw (le-ltb a 0 (omega arith)) (ap pos (omega arith))
minus_pos a (suc b) = refl

from_place : (s : Bool) (m h r : ℕ)
    → m ≡ h + h
    → 0 < m
    → pos ((r + cond s h 0) % m) -ℤ pos (cond s h 0) ≡ reading (s && leb m (r % m + r % m)) m (r % m)
from_place false m h r e k = rw (add-zero r, add-zero (r % m))
from_place true m h r e k = go (leb m (x + x)) refl
  where
    x : ℕ
    x = r % m

    l : x < m
    l = mod-lt r k

    place : (n : ℕ) → (x + h) % m ≡ n → pos ((r + h) % m) -ℤ pos h ≡ sub_ℕ n h
    place n q = rw (← (mod-add-mod r m h), q) (minus_pos n h)

    go : (b : Bool) → leb m (x + x) ≡ b → pos ((r + h) % m) -ℤ pos h ≡ reading b m x
    go true q =
        let u = leb-true m (x + x) q in
        let v : (x + h) % m ≡ x + h - m = mod-eq-sub-mod {n = x + h} {m = m} (omega arith) ∙ mod-eq_of_lt {n = x + h - m} {m = m} (omega (arith, l)) in
        place (x + h - m) v ∙ rw (lt-ltb (x + h - m) h (omega (arith, l))) (ap negsuc (omega (arith, l)))
    go false q =
        let u = leb-false m (x + x) q in
        place (x + h) (mod-eq_of_lt {n = x + h} {m = m} (omega arith)) ∙ rw (le-ltb (x + h) h (omega arith)) (ap pos (omega arith))

-- ---- what fits i64

module _ (t : Ty) where
  -- any value has 33 bits, with its sign
  value_small : (r : ℕ) → mag (decode t r) < 2 ^ 32
  unfolding decode
  value_small r = go (below t (r % 2 ^ width t))
    where
      go : (s : Bool) → mag (reading s (2 ^ width t) (r % 2 ^ width t)) < 2 ^ 32
      go true = omega (arith, modulus_small t, modulus_above t)
      go false = omega (arith, modulus_small t, wrapped_below t r)

  pub value_fits : (r : ℕ) → SFits w64 (decode t r)
  value_fits r = record { sfits = omega (arith, value_small r) }

  -- a value is read back from its bits
  pub read_back : (r : ℕ) {z : ℤ} → z ≡ decode t r → to_z w64 (of_z w64 z) ≡ decode t r
  read_back r e = rw e (to_z-of_z (value_fits r))

  pub quotient_fits : (a b : ℕ) → SFits w64 (quot_z (decode t a) (decode t b))
  quotient_fits a b =
      record { sfits = omega (arith, quot_mag (decode t a) (decode t b), nat_abs_mag (decode t a), value_small a) }

  -- ---- how many values of the type are below 0

  abbrev lows : ℕ
  lows = cond (signed t) (2 ^ (width t - 1)) 0

  pub lows_small : lows ≤ 2 ^ 31
  lows_small = go (signed t)
    where
      go : (s : Bool) → cond s (2 ^ (width t - 1)) 0 ≤ 2 ^ 31
      go true = omega (arith, modulus_small t, halves t)
      go false = omega arith

  pub from_lowest : (r : ℕ) → to_z w64 ((r + lows) % 2 ^ width t) -ℤ to_z w64 lows ≡ decode t r
  unfolding decode
  from_lowest r =
      rw (to_z_pos w64 {n = (r + lows) % 2 ^ width t} (omega (arith, wrapped_below t (r + lows), modulus_small t)), to_z_pos w64 {n = lows} (omega (arith, lows_small)))
      (from_place (signed t) (2 ^ width t) (2 ^ (width t - 1)) r (halves t) (modulus_above t))

  -- ---- a divisor of 0

  zero_bits : (z : ℤ) → mag z < 2 ^ 32 → of_z w64 z ≡ 0 → z ≡ pos 0
  zero_bits (pos n) h e = ap pos e
  zero_bits (negsuc n) h e = absurd (omega arith)

  quotient_by_zero : (x : ℤ) → encode t (quot_z x (pos 0)) ≡ 0
  unfolding encode
  quotient_by_zero (pos a) = rw (div-zero a, zero-mod (2 ^ width t))
  quotient_by_zero (negsuc a) = rw (div-zero (suc a), zero-mod (2 ^ width t))

  pub quotient_zero : (a b : ℕ) → of_z w64 (decode t b) ≡ 0 → 0 ≡ quotient t a b
  quotient_zero a b e = rw (zero_bits (decode t b) (value_small b) e) (sym (quotient_by_zero (decode t a)))
