-- A type's residues: what is computed from them, brought in, is the residue of what is computed from the values.
use mathlib.Core.Path.{◌≡◌, refl, sym, ap, ◌∙◌}
use mathlib.Core.Bool.{Bool, true, false, ◌&&◌, true≢false}
use Prim.Native.Nat.{ℕ, ◌+◌, ◌-◌, ◌*◌, ◌%◌, ◌^◌, ◌<◌, ◌≤◌}
use native.Mathlib.Nat.{mod-lt}
use native.Mathlib.Omega.{arith}
use borrow.Author.Tests.{leb-true, le-leb, le-ltb, eqb-true, eqb-false}
use lib.Bits.{bit_and, and_mask}
use lib.Dec.{T, leb, eqb, lit<, lit≤}
use lib.IntN.{ℤ, pos, negsuc, neg_ℤ, ◌-ℤ◌}
use lib.Signed.{lt_z, non_neg}
use mir.Syntax.{w64}
use mir.Val.{SFits, to_z, of_z}
use mir.Facts.{to_z_pos}
use Rattle.paper.specs.declared.Ty.{Ty}
use Rattle.paper.specs.declared.Ty.TheVariants.{Bool as BOOL, Int as INT, Uint as UINT, Dint as DINT, Udint as UDINT}
use Rattle.paper.specs.Types.{width, below, encode, decode, add, sub, mul, negate, equal}
use Rattle.value.proofs.Modulo.{Alike, Stands, alike_mul, stands_add, stands_mul, stands_negate, residue_stands, reading_stands}

-- ---- a type's modulus

pub modulus_above : (t : Ty) → 0 < 2 ^ width t
modulus_above BOOL = lit< tt
modulus_above INT = lit< tt
modulus_above UINT = lit< tt
modulus_above DINT = lit< tt
modulus_above UDINT = lit< tt

pub modulus_small : (t : Ty) → 2 ^ width t ≤ 2 ^ 32
modulus_small BOOL = lit≤ tt
modulus_small INT = lit≤ tt
modulus_small UINT = lit≤ tt
modulus_small DINT = lit≤ tt
modulus_small UDINT = lit≤ tt

pub wrapped_below : (t : Ty) (n : ℕ) → n % 2 ^ width t < 2 ^ width t
wrapped_below t n = mod-lt n (modulus_above t)

-- it is even
pub halves : (t : Ty) → 2 ^ width t ≡ 2 ^ (width t - 1) + 2 ^ (width t - 1)
halves BOOL = refl
halves INT = refl
halves UINT = refl
halves DINT = refl
halves UDINT = refl

-- a multiple of every modulus
multiple : (t : Ty) → Alike (2 ^ width t) (2 ^ 32) 0
multiple BOOL = record { up = 0; down = 2 ^ 31; same = refl }
multiple INT = record { up = 0; down = 2 ^ 16; same = refl }
multiple UINT = record { up = 0; down = 2 ^ 16; same = refl }
multiple DINT = record { up = 0; down = 1; same = refl }
multiple UDINT = record { up = 0; down = 1; same = refl }

-- what isn't below 0 is a natural
pub not_below : (z : ℤ) → lt_z z (pos 0) ≡ false → T (non_neg z)
not_below (pos n) h = tt
not_below (negsuc n) h = absurd (true≢false h)

-- ---- equality, by the order

equal_self : (z : ℤ) → equal z z ≡ true
equal_self (pos n) = rw (le-leb n n (omega arith))
equal_self (negsuc n) = rw (le-leb n n (omega arith))

both : (p q : Bool) → (p && q) ≡ true → (p ≡ true) × (q ≡ true)
both true q h = (refl, h)
both false q h = absurd (true≢false (sym h))

equal_same : (x y : ℤ) → equal x y ≡ true → x ≡ y
equal_same (pos a) (pos b) h =
    let k = both (leb a b) (leb b a) h in
    ap pos (omega (arith, leb-true a b k.0, leb-true b a k.1))
equal_same (pos a) (negsuc b) h = absurd (true≢false (sym h))
equal_same (negsuc a) (pos b) h = absurd (true≢false (sym h))
equal_same (negsuc a) (negsuc b) h =
    let k = both (leb b a) (leb a b) h in
    ap negsuc (omega (arith, leb-true b a k.0, leb-true a b k.1))

unequal : {x y : ℤ} → (x ≡ y → ⊥) → equal x y ≡ false
unequal {x} {y} n = go (equal x y) refl
  where
    go : (s : Bool) → equal x y ≡ s → s ≡ false
    go true e = absurd (n (equal_same x y e))
    go false e = refl

-- ---- operations on residues

module _ (t : Ty) where
  decoded : (a : ℕ) → Stands (2 ^ width t) (decode t a) a
  unfolding decode
  decoded a = reading_stands (below t (a % 2 ^ width t)) a (modulus_above t)

  encoded : {z : ℤ} {n : ℕ} → Stands (2 ^ width t) z n → n % 2 ^ width t ≡ encode t z
  unfolding encode
  encoded {z} h = residue_stands z (modulus_above t) h

  -- 2 ^ 32 - b stands for the opposite of b's value
  opposite : (b : ℕ) → b < 2 ^ 32 → Stands (2 ^ width t) (neg_ℤ (decode t b)) (2 ^ 32 - b)
  opposite b h = let m = multiple t in stands_negate (2 ^ 32 - b) (decoded b) (record { up = m.up; down = m.down; same = omega arith })

  pub sum_residue : (a b : ℕ) → (a + b) % 2 ^ width t ≡ add t a b
  sum_residue a b = encoded (stands_add (decoded a) (decoded b))

  pub product_residue : (a b : ℕ) → a * b % 2 ^ width t ≡ mul t a b
  product_residue a b = encoded (stands_mul (decoded a) (decoded b))

  pub negation_residue : (a : ℕ) → a < 2 ^ 32 → (2 ^ 32 - a) % 2 ^ width t ≡ negate t a
  negation_residue a h = encoded (opposite a h)

  pub difference_residue : (a b : ℕ) → b < 2 ^ 32 → (2 ^ 32 + a - b) % 2 ^ width t ≡ sub t a b
  difference_residue a b h =
      let e : 2 ^ 32 + a - b ≡ a + (2 ^ 32 - b) = omega arith in
      ap (λ (n : ℕ). n % 2 ^ width t) e ∙ encoded (stands_add (decoded a) (opposite b h))

  -- ---- the low bits of a 64-bit integer

  -- its 64 bits stand for it
  bits_stand : (z : ℤ) → SFits w64 z → Stands (2 ^ width t) z (of_z w64 z)
  bits_stand (pos n) f = record { by = record { up = 0; down = 0; same = refl } }
  bits_stand (negsuc n) f =
      let m = alike_mul (2 ^ 32) (multiple t) in
      let k = f.sfits in
      record { by = record { up = m.up; down = m.down; same = omega arith } }

  pub low_bits : (z : ℤ) → SFits w64 z → of_z w64 z % 2 ^ width t ≡ encode t z
  low_bits z f = encoded (bits_stand z f)

  -- the modulus less 1, by which they are cut out
  pub mask : to_z w64 (2 ^ width t) -ℤ pos 1 ≡ pos (2 ^ width t - 1)
  mask =
      rw (to_z_pos w64 {n = 2 ^ width t} (omega (arith, modulus_small t)), le-ltb (2 ^ width t) 1 (modulus_above t))

  pub masked : (z : ℤ) → to_z w64 (bit_and (of_z w64 z) (of_z w64 (to_z w64 (2 ^ width t) -ℤ pos 1))) ≡ pos (of_z w64 z % 2 ^ width t)
  masked z =
      rw (mask, and_mask (of_z w64 z) (width t)) (to_z_pos w64 (omega (arith, wrapped_below t (of_z w64 z), modulus_small t)))

  -- ---- one value, one residue

  pub same_residues : (a b : ℕ) → eqb (a % 2 ^ width t) (b % 2 ^ width t) ≡ equal (decode t a) (decode t b)
  unfolding decode
  same_residues a b = go (eqb (a % 2 ^ width t) (b % 2 ^ width t)) refl
    where
      go : (s : Bool) → eqb (a % 2 ^ width t) (b % 2 ^ width t) ≡ s → s ≡ equal (decode t a) (decode t b)
      go true e = rw (eqb-true (a % 2 ^ width t) (b % 2 ^ width t) e) (sym (equal_self (decode t b)))
      go false e = sym (unequal (λ k. eqb-false _ _ e (encoded (decoded a) ∙ ap (encode t) k ∙ sym (encoded (decoded b)))))
