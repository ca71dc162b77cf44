-- The soonest so far, through faults that come one after the other.
use mathlib.Core.Path.{◌≡◌, refl, sym, ap, ◌∙◌}
use mathlib.Core.Bool.{Bool, true, false, cond, ◌&&◌}
use mathlib.Core.List.{List, [], ◌++◌}
use Prim.Native.Nat.{ℕ}
use Rattle.std.specs.Prelude.{Option, Some}
use Rattle.paper.specs.Names.{at}
use Rattle.faults.specs.Soonest.{soonest, sooner, matter}
use Rattle.faults.proofs.Soonest.{sooner_none, sooner_comm, sooner_assoc, soonest_none, soonest_append, soonest_at, sooner_matter, not_sooner}
use Rattle.names.specs.Walks.{after}

pub after_none : (b : Option ℕ) → after b [] ≡ b
unfolding after
after_none b = ap (sooner b) soonest_none ∙ sooner_none b

pub after_append : (b : Option ℕ) (xs ys : List ℕ) → after b (xs ++ ys) ≡ after (after b xs) ys
unfolding after
after_append b xs ys = ap (sooner b) (soonest_append xs ys) ∙ sym (sooner_assoc b (soonest xs) (soonest ys))

-- in the other order
pub after_swap : (b : Option ℕ) (xs ys : List ℕ) → after b (xs ++ ys) ≡ after (after b ys) xs
unfolding after
after_swap b xs ys =
    ap (sooner b) (soonest_append xs ys ∙ sooner_comm (soonest xs) (soonest ys)) ∙ sym (sooner_assoc b (soonest ys) (soonest xs))

-- ---- one name, where a test holds

-- a fault that matters stands alone, one that doesn't changes nothing
pub after_at : (b : Option ℕ) (p : ℕ) (t : Bool) → after b (at p t) ≡ cond (matter b p && t) (Some p) b
unfolding after
after_at b p false = after_none b ∙ sym (go (matter b p))
  where
    go : (m : Bool) → cond (m && false) (Some p) b ≡ b
    go true = refl
    go false = refl
after_at b p true = ap (sooner b) (soonest_at p true) ∙ go (matter b p) refl
  where
    go : (m : Bool) → matter b p ≡ m → sooner b (Some p) ≡ cond (m && true) (Some p) b
    go true e = sooner_matter b p e
    go false e = not_sooner b p e

-- ---- one walk after another

pub stays : (b : Option ℕ) (zs : List ℕ) → zs ≡ [] → b ≡ after b zs
stays b zs e = sym (ap (after b) e ∙ after_none b)

pub alone : (b r : Option ℕ) (xs zs : List ℕ) → r ≡ after b xs → zs ≡ xs → r ≡ after b zs
alone b r xs zs h e = h ∙ ap (after b) (sym e)

pub then : (b x r : Option ℕ) (xs ys zs : List ℕ) → x ≡ after b xs → r ≡ after x ys → zs ≡ xs ++ ys → r ≡ after b zs
then b x r xs ys zs h g e = g ∙ ap (λ a. after a ys) h ∙ sym (after_append b xs ys) ∙ ap (after b) (sym e)

-- the later part walked first
pub before : (b x r : Option ℕ) (xs ys zs : List ℕ) → x ≡ after b ys → r ≡ after x xs → zs ≡ xs ++ ys → r ≡ after b zs
before b x r xs ys zs h g e = g ∙ ap (λ a. after a xs) h ∙ sym (after_swap b xs ys) ∙ ap (after b) (sym e)
