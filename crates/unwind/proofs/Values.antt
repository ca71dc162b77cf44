-- The values of a FOR: the next one, and a value that comes back from its 64 bits.
use mathlib.Core.Path.{◌≡◌, refl, sym, ap, ap₂, ◌∙◌}
use mathlib.Core.Bool.{Bool, true, false, cond, true≢false}
use Prim.Native.Nat.{ℕ, zero, suc, ◌+◌, ◌-◌, ◌<◌}
use native.Mathlib.Omega.{arith}
use mir.Syntax.{w64}
use mir.Val.{SFits, to_z, of_z}
use mir.Facts.{to_z-of_z}
use borrow.Author.Tests.{lt-ltb, ltb-true, ltb-false}
use lib.Dec.{ltb}
use lib.IntN.{ℤ, pos, negsuc, sub_ℕ, ◌+ℤ◌, nat_abs}
use Rattle.paper.specs.Typing.{is_zero}
use Rattle.paper.specs.Meaning.{passed}
use Rattle.unwind.specs.Loops.{Small}

-- ---- the next value

sub_within : (a b n : ℕ) → a < n → b < n → nat_abs (sub_ℕ a b) < n
sub_within a b n l m = go (ltb a b) refl
  where
    go : (t : Bool) → ltb a b ≡ t → nat_abs (cond t (negsuc (b - suc a)) (pos (a - b))) < n
    go true e = omega (arith, ltb-true a b e)
    go false e = omega arith

-- which lies between the value and the end, or between the value and the step
pub next_small : (c v b : ℤ) → is_zero c ≡ false → Small c → Small v → Small b → passed c b (v +ℤ c) ≡ false → Small (v +ℤ c)
next_small (pos zero) v b z lc lv lb h = absurd (true≢false z)
next_small (pos (suc n)) (pos v) (pos b) z lc lv lb h =
    let k : ltb b (v + suc n) ≡ false = rw (lt-ltb 0 (suc n) (omega arith)) at h in
    omega (arith, ltb-false b (v + suc n) k)
next_small (pos (suc n)) (pos v) (negsuc b) z lc lv lb h =
    let k : true ≡ false = rw (lt-ltb 0 (suc n) (omega arith)) at h in
    absurd (true≢false k)
next_small (pos (suc n)) (negsuc v) b z lc lv lb h = sub_within (suc n) (suc v) _ lc lv
next_small (negsuc n) (pos v) b z lc lv lb h = sub_within v (suc n) _ lv lc
next_small (negsuc n) (negsuc v) (pos b) z lc lv lb h = absurd (true≢false h)
next_small (negsuc n) (negsuc v) (negsuc b) z lc lv lb h = omega (arith, ltb-false b (suc (v + n)) h)

-- ---- in 64 bits

pub small_fits : (z : ℤ) → Small z → SFits w64 z
small_fits (pos n) l = record { sfits = omega arith }
small_fits (negsuc n) l = record { sfits = omega arith }

sum_fits : (v c : ℤ) → Small v → Small c → SFits w64 (v +ℤ c)
sum_fits (pos v) (pos c) lv lc = record { sfits = omega arith }
sum_fits (pos v) (negsuc c) lv lc = small_fits (sub_ℕ v (suc c)) (sub_within v (suc c) _ lv lc)
sum_fits (negsuc v) (pos c) lv lc = small_fits (sub_ℕ c (suc v)) (sub_within c (suc v) _ lc lv)
sum_fits (negsuc v) (negsuc c) lv lc = record { sfits = omega arith }

-- a value as it comes back from its bits
abbrev pub back : ℤ → ℤ
back z = to_z w64 (of_z w64 z)

pub back_small : (z : ℤ) → Small z → back z ≡ z
back_small z l = to_z-of_z (small_fits z l)

pub next_back : (v c : ℤ) → Small v → Small c → back (v +ℤ back c) ≡ v +ℤ c
next_back v c lv lc = rw (back_small c lc) (to_z-of_z (sum_fits v c lv lc))

pub passed_back : (c b v : ℤ) (t : Bool) → Small c → Small b → Small v → passed (back c) (back b) (back (v +ℤ back c)) ≡ t → passed c b (v +ℤ c) ≡ t
passed_back c b v t lc lb lv e =
    sym (ap (λ x. passed x b (v +ℤ c)) (back_small c lc))
    ∙ sym (ap₂ (passed (back c)) (back_small b lb) (next_back v c lv lc))
    ∙ e
