-- Residues: what the operations leave lies in its type, and a value that fits is the one that its residue stands for.
use mathlib.Core.Path.{◌≡◌, refl, sym, ap, ◌∙◌}
use mathlib.Core.Bool.{Bool, true, false, not, cond, ◌&&◌, ◌||◌, and-true, true≢false, false≢true}
use Prim.Native.Nat.{ℕ, zero, suc, ◌+◌, ◌-◌, ◌%◌, ◌^◌, ◌<◌, ◌≤◌}
use native.Mathlib.Nat.{mod-lt, mod-eq_of_lt}
use native.Mathlib.Omega.{arith}
use borrow.Author.Tests.{leb-true, leb-false, lt-ltb, le-leb, lt-leb, ne_eqb}
use lib.Dec.{leb, eqb, lit<, leb-zero, leb-suc-suc}
use lib.IntN.{ℤ, pos, negsuc, neg_ℤ, ◌+ℤ◌, ◌-ℤ◌, nat_abs, +ℤ_assoc, +ℤ_comm, neg_ℤ-+ℤ, neg_ℤ-neg_ℤ, +ℤ-neg_ℤ_cancel, -ℤ-+ℤ_cancel}
use lib.Signed.{le_z, lt_z, non_neg}
use Rattle.paper.specs.declared.Ty.{Ty}
use Rattle.paper.specs.declared.Ty.TheVariants.{Bool as BOOL, Int as INT, Uint as UINT, Dint as DINT, Udint as UDINT}
use Rattle.paper.specs.declared.Op.{Op}
use Rattle.paper.specs.declared.Op.TheVariants.{Mul, Div, Mod, Add, Sub, Lt, Gt, Le, Ge, Eq, Ne, And, Xor, Or}
use Rattle.paper.specs.Types.{width, signed, residue, reading, below, fits, encode, decode, bit, is_true, differ, equal, apply, sort_of, gives}
use Rattle.paper.specs.Typing.{is_zero}
use Rattle.paper.specs.Meaning.{passed}

-- ---- over an even modulus m, of which h is the half

-- z lies between the ends of a type, signed or not
abbrev within : ℕ → ℕ → Bool → ℤ → Bool
within m h s z = le_z (cond s (negsuc (h - 1)) (pos 0)) z && le_z z (cond s (pos (h - 1)) (pos (m - 1)))

module _ (m h : ℕ) (even : m ≡ h + h) (above : 0 < h) where
  -- a residue is below its modulus
  residue_lt : (z : ℤ) → residue m z < m
  residue_lt (pos n) = mod-lt n (omega arith)
  residue_lt (negsuc n) = let k : n % m < m = mod-lt n (omega arith) in omega arith

  -- a number below m, read with or without its sign, has itself as residue
  residue_reading : (b : Bool) (r : ℕ) → r < m → residue m (reading b m r) ≡ r
  residue_reading false r k = mod-eq_of_lt k
  residue_reading true r k = rw (mod-eq_of_lt {n = m - suc r} {m = m} (omega arith)) (omega arith)

  -- an integer between the ends is its residue's reading
  reading_residue : (s : Bool) (z : ℤ) → within m h s z ≡ true
      → reading (s && leb m (residue m z + residue m z)) m (residue m z) ≡ z
  reading_residue true (pos n) k =
      let l : n ≤ h - 1 = leb-true n (h - 1) k in
      rw (mod-eq_of_lt {n = n} {m = m} (omega arith), lt-leb m (n + n) (omega arith))
  reading_residue true (negsuc n) k =
      let l : n ≤ h - 1 = leb-true n (h - 1) (rw and-true at k) in
      let r = m - suc n in
      rw (mod-eq_of_lt {n = n} {m = m} (omega arith), le-leb m (r + r) (omega arith)) (ap negsuc (omega arith))
  reading_residue false (pos n) k =
      let l : n ≤ m - 1 = leb-true n (m - 1) (rw leb-zero at k) in
      ap pos (mod-eq_of_lt (omega arith))
  reading_residue false (negsuc n) k = absurd (false≢true k)

  -- the reading of a number below m lies between the ends
  reading_within : (s : Bool) (r : ℕ) → r < m → within m h s (reading (s && leb m (r + r)) m r) ≡ true
  reading_within false r k = rw (leb-zero r, le-leb r (m - 1) (omega arith))
  reading_within true r k = go (leb m (r + r)) refl
    where
      go : (b : Bool) → leb m (r + r) ≡ b → within m h true (reading b m r) ≡ true
      go true e = rw (le-leb (m - suc r) (h - 1) (omega (arith, leb-true m (r + r) e)))
      go false e = le-leb r (h - 1) (omega (arith, leb-false m (r + r) e))

-- ---- the five types

-- half of a type's modulus, which is even
half : Ty → ℕ
half t = 2 ^ (width t - 1)

halves : (t : Ty) → 2 ^ width t ≡ half t + half t
unfolding half
halves BOOL = refl
halves INT = refl
halves UINT = refl
halves DINT = refl
halves UDINT = refl

half_above : (t : Ty) → 0 < half t
unfolding half
half_above BOOL = lit< tt
half_above INT = lit< tt
half_above UINT = lit< tt
half_above DINT = lit< tt
half_above UDINT = lit< tt

pub encode_below : (t : Ty) (z : ℤ) → encode t z < 2 ^ width t
unfolding encode
encode_below t z = residue_lt (2 ^ width t) (half t) (halves t) (half_above t) z

pub decode_encode : (t : Ty) (z : ℤ) → fits t z ≡ true → decode t (encode t z) ≡ z
unfolding encode decode fits half
decode_encode t z h =
    rw (mod-eq_of_lt (encode_below t z)) (reading_residue (2 ^ width t) (half t) (halves t) (half_above t) (signed t) z h)

pub encode_decode : (t : Ty) (r : ℕ) → r < 2 ^ width t → encode t (decode t r) ≡ r
unfolding encode decode
encode_decode t r h =
    rw (mod-eq_of_lt h) (residue_reading (2 ^ width t) (half t) (halves t) (half_above t) (below t r) r h)

-- the value that a residue stands for fits its type
pub decode_fits : (t : Ty) (r : ℕ) → fits t (decode t r) ≡ true
unfolding decode fits half
decode_fits t r =
    reading_within (2 ^ width t) (half t) (halves t) (half_above t) (signed t) (r % 2 ^ width t) (mod-lt r (omega (arith, halves t, half_above t)))

pub bit_below : (b : Bool) → bit b < 2
bit_below true = lit< tt
bit_below false = lit< tt

pub apply_below : (o : Op) (t : Ty) (a b : ℕ) → apply o t a b < 2 ^ width (gives (sort_of o) t)
unfolding apply
apply_below Mul t a b = encode_below t _
apply_below Div t a b = encode_below t _
apply_below Mod t a b = encode_below t _
apply_below Add t a b = encode_below t _
apply_below Sub t a b = encode_below t _
apply_below Lt t a b = bit_below (lt_z (decode t a) (decode t b))
apply_below Gt t a b = bit_below (lt_z (decode t b) (decode t a))
apply_below Le t a b = bit_below (le_z (decode t a) (decode t b))
apply_below Ge t a b = bit_below (le_z (decode t b) (decode t a))
apply_below Eq t a b = bit_below (equal (decode t a) (decode t b))
apply_below Ne t a b = bit_below (not (equal (decode t a) (decode t b)))
apply_below And t a b = bit_below (is_true a && is_true b)
apply_below Xor t a b = bit_below (differ (is_true a) (is_true b))
apply_below Or t a b = bit_below (is_true a || is_true b)

-- zero is the value that the residue zero stands for
decode_zero : (t : Ty) → decode t 0 ≡ pos 0
unfolding decode
decode_zero BOOL = refl
decode_zero INT = refl
decode_zero UINT = refl
decode_zero DINT = refl
decode_zero UDINT = refl

-- a number that fits and isn't zero has no residue of zero
pub encode_nonzero : (t : Ty) (z : ℤ) → fits t z ≡ true → is_zero z ≡ false → eqb (encode t z) 0 ≡ false
encode_nonzero t z h n =
    ne_eqb (encode t z) 0 (λ e. true≢false (sym (ap is_zero (sym (decode_encode t z h) ∙ ap (decode t) e ∙ decode_zero t)) ∙ n))

-- ---- the distance to a FOR's bound

-- where v isn't above b, the difference isn't negative
sub_non_neg : (b v : ℤ) → lt_z b v ≡ false → non_neg (b -ℤ v) ≡ true
sub_non_neg (pos b) (pos zero) h = refl
sub_non_neg (pos b) (pos (suc v)) h = rw h
sub_non_neg (pos b) (negsuc v) h = refl
sub_non_neg (negsuc b) (pos v) h = absurd (true≢false h)
sub_non_neg (negsuc b) (negsuc v) h = rw (leb-suc-suc (suc v) b, h)

-- which a positive number makes larger
grows : (d : ℤ) (n : ℕ) → non_neg d ≡ true → 0 < n → nat_abs d < nat_abs (d +ℤ pos n)
grows (pos d) n h k = omega arith
grows (negsuc d) n h k = absurd (false≢true h)

-- a number is as far from zero as its negation
nat_abs_neg : (z : ℤ) → nat_abs (neg_ℤ z) ≡ nat_abs z
nat_abs_neg (pos zero) = refl
nat_abs_neg (pos (suc n)) = refl
nat_abs_neg (negsuc n) = refl

-- the distance is the same both ways
distance_sym : (a b : ℤ) → nat_abs (a -ℤ b) ≡ nat_abs (b -ℤ a)
distance_sym a b =
    ap nat_abs (+ℤ_comm a (neg_ℤ b) ∙ ap (λ x. neg_ℤ b +ℤ x) (sym (neg_ℤ-neg_ℤ a)) ∙ sym (neg_ℤ-+ℤ b (neg_ℤ a)))
    ∙ nat_abs_neg (b -ℤ a)

-- the difference to the next value and the step make up the difference to this one, from either end
step_to : (b v c : ℤ) → b -ℤ (v +ℤ c) +ℤ c ≡ b -ℤ v
step_to b v c =
    ap (λ x. x +ℤ c) (ap (λ x. b +ℤ x) (neg_ℤ-+ℤ v c) ∙ sym (+ℤ_assoc b (neg_ℤ v) (neg_ℤ c))) ∙ -ℤ-+ℤ_cancel (b -ℤ v) c

step_from : (b v c : ℤ) → v +ℤ c -ℤ b -ℤ c ≡ v -ℤ b
step_from b v c =
    ap (λ x. x -ℤ c) (+ℤ_comm (v +ℤ c) (neg_ℤ b) ∙ sym (+ℤ_assoc (neg_ℤ b) v c))
    ∙ +ℤ-neg_ℤ_cancel (neg_ℤ b +ℤ v) c
    ∙ +ℤ_comm (neg_ℤ b) v

-- a FOR's next value, where it hasn't passed b, is nearer to b
pub nearer : (c b v : ℤ)
    → is_zero c ≡ false
    → passed c b v ≡ false
    → passed c b (v +ℤ c) ≡ false
    → nat_abs (b -ℤ (v +ℤ c)) < nat_abs (b -ℤ v)
nearer (pos zero) b v hc hv hn = absurd (true≢false hc)
nearer (pos (suc n)) b v hc hv hn =
    let next = v +ℤ pos (suc n) in
    let h : lt_z b next ≡ false = rw (lt-ltb 0 (suc n) (omega arith)) at hn in
    rw (← (step_to b v (pos (suc n)))) (grows (b -ℤ next) (suc n) (sub_non_neg b next h) (omega arith))
nearer (negsuc n) b v hc hv hn =
    let next = v +ℤ negsuc n in
    rw (distance_sym b next, distance_sym b v, ← (step_from b v (negsuc n)))
    (grows (next -ℤ b) (suc n) (sub_non_neg next b hn) (omega arith))
