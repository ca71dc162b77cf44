-- The values of a FOR between bounds of a type are of that type.
use mathlib.Core.Path.{◌≡◌, refl}
use mathlib.Core.Bool.{Bool, true, false, cond, true≢false, false≢true}
use Prim.Native.Nat.{ℕ, zero, suc, ◌+◌, ◌-◌}
use native.Mathlib.Omega.{arith}
use borrow.Author.Tests.{leb-true, le-leb, ltb-false, lt-ltb}
use lib.Dec.{ltb}
use lib.IntN.{ℤ, pos, negsuc, ◌+ℤ◌}
use lib.Signed.{le_z, lt_z}
use Rattle.paper.specs.declared.Ty.{Ty}
use Rattle.paper.specs.Types.{fits, lowest, highest}
use Rattle.paper.specs.Typing.{is_zero}
use Rattle.paper.specs.Meaning.{passed}
use Rattle.demands.proofs.Truths.{and_true, both}

le_trans : (a b c : ℤ) → le_z a b ≡ true → le_z b c ≡ true → le_z a c ≡ true
le_trans (pos a) (pos b) (pos c) h k = le-leb a c (let x = leb-true a b h in let y = leb-true b c k in omega arith)
le_trans (pos a) (pos b) (negsuc c) h k = absurd (false≢true k)
le_trans (pos a) (negsuc b) c h k = absurd (false≢true h)
le_trans (negsuc a) b (pos c) h k = refl
le_trans (negsuc a) (pos b) (negsuc c) h k = absurd (false≢true k)
le_trans (negsuc a) (negsuc b) (negsuc c) h k = le-leb c a (let x = leb-true b a h in let y = leb-true c b k in omega arith)

-- what isn't below is not less
not_below : (a b : ℤ) → lt_z a b ≡ false → le_z b a ≡ true
not_below (pos a) (pos b) h = le-leb b a (ltb-false a b h)
not_below (pos a) (negsuc b) h = refl
not_below (negsuc a) (pos b) h = absurd (true≢false h)
not_below (negsuc a) (negsuc b) h = le-leb a b (ltb-false b a h)

-- a step up, and a step down
step_up : (v : ℤ) (n : ℕ) → le_z v (v +ℤ pos n) ≡ true
step_up (pos a) n = le-leb a (a + n) (omega arith)
step_up (negsuc a) n = go (ltb n (suc a))
  where
    go : (b : Bool) → le_z (negsuc a) (cond b (negsuc (suc a - suc n)) (pos (n - suc a))) ≡ true
    go true = le-leb (suc a - suc n) a (omega arith)
    go false = refl

step_down : (v : ℤ) (n : ℕ) → le_z (v +ℤ negsuc n) v ≡ true
step_down (pos a) n = go (ltb a (suc n))
  where
    go : (b : Bool) → le_z (cond b (negsuc (suc n - suc a)) (pos (a - suc n))) (pos a) ≡ true
    go true = refl
    go false = le-leb (a - suc n) a (omega arith)
step_down (negsuc a) n = le-leb a (suc (a + n)) (omega arith)

between : (t : Ty) (z : ℤ) → fits t z ≡ true → (le_z (lowest t) z ≡ true) × (le_z z (highest t) ≡ true)
unfolding fits
between t z h = and_true (le_z (lowest t) z) (le_z z (highest t)) h

pub next_fits : (t : Ty) (c b v : ℤ) → is_zero c ≡ false → fits t b ≡ true → fits t v ≡ true → passed c b (v +ℤ c) ≡ false → fits t (v +ℤ c) ≡ true
unfolding fits
next_fits t (pos zero) b v z hb hv h = absurd (true≢false z)
next_fits t (pos (suc n)) b v z hb hv h =
    let next = v +ℤ pos (suc n) in
    let not-passed : lt_z b next ≡ false = rw (lt-ltb 0 (suc n) (omega arith)) at h in
    both
    (le_trans (lowest t) v next (between t v hv).0 (step_up v (suc n)))
    (le_trans next b (highest t) (not_below b next not-passed) (between t b hb).1)
next_fits t (negsuc n) b v z hb hv h =
    let next = v +ℤ negsuc n in
    both
    (le_trans (lowest t) b next (between t b hb).0 (not_below next b h))
    (le_trans next v (highest t) (step_down v n) (between t v hv).1)
