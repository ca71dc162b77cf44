-- How many records may be left.
use mathlib.Core.Path.{◌≡◌, refl}
use mathlib.Core.Bool.{Bool, true, false, cond}
use Prim.Native.Nat.{ℕ, suc, ◌+◌, ◌-◌, ◌≤◌, ◌<◌}
use native.Mathlib.Omega.{arith}
use Rattle.tally.specs.declared.Tally.{Tally}
use Rattle.tally.specs.Counts.{Went}

abbrev pub left : Tally → ℕ
left t = cond t.more (suc (100000 - t.tried)) 0

fewer : (m : Bool) (a b : ℕ) → (m ≡ true → a ≡ b + 1) → b < 100000 → cond m (suc (100000 - a)) 0 < suc (100000 - b)
fewer true a b h l = let e = h refl in omega arith
fewer false a b h l = omega arith

pub went_on : (t r : Tally) → t.more ≡ true → t.tried < 100000 → Went t r → left r < left t
went_on t r m l w = rw m (fewer r.more r.tried t.tried w.tried l)

no_more : (m : Bool) (a b : ℕ) → (m ≡ true → a ≡ b + 1) → (m ≡ false → a ≡ b) → a ≤ b + 1
no_more true a b h k = let e = h refl in omega arith
no_more false a b h k = let e = k refl in omega arith

pub one_at_most : (t r : Tally) → Went t r → r.tried ≤ t.tried + 1
one_at_most t r w = no_more r.more r.tried t.tried w.tried (λ e. (w.ended e).0)
