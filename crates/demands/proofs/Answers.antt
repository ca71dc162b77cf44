-- What follows from an answer that is given, and from a list of faults that is empty.
use mathlib.Core.Path.{◌≡◌, refl, sym, ap}
use mathlib.Core.Bool.{Bool, true, false, not}
use mathlib.Core.Option.{Option, none, some}
use mathlib.Core.List.{List, [], ◌∷◌, ◌++◌}
use Prim.Native.Nat.{ℕ, ◌+◌, ◌≤◌}
use native.Mathlib.Omega.{arith}
use borrow.Author.Tests.{not-false, leb-true}
use lib.Dec.{leb}
use Rattle.paper.specs.declared.Why.{Why}
use Rattle.paper.specs.Refusals.{Answer, refused, given, ◌>>=◌}
use Rattle.paper.specs.Names.{at}
use Rattle.paper.specs.Typing.{or_else}
use Rattle.paper.specs.Meaning as M
use Rattle.paper.specs.Unwinding.{heavier, found}

-- ---- equations that can't hold

pub none_some : {A X : Type 0} {a : A} → ◌≡◌ {A = Option A} none (some a) → X
none_some h = let z : ◌≡◌ {A = ℕ} 0 1 = cc in absurd (omega arith)

pub cons_nil : {A X : Type 0} {a : A} {as' : List A} → a ∷ as' ≡ [] → X
cons_nil h = let z : ◌≡◌ {A = ℕ} 0 1 = cc in absurd (omega arith)

pub refused_given : {A X : Type 0} {a : A} {w : Why} {p : ℕ} → refused w p ≡ given a → X
refused_given h = let z : ◌≡◌ {A = ℕ} 0 1 = cc in absurd (omega arith)

-- ---- answers that are given

pub given_same : {A : Type 0} {a b : A} → given a ≡ given b → a ≡ b
given_same h = cc

-- the first stage and then the second have given something
pub bind_given : {A B : Type 0} (x : Answer A) (f : A → Answer B) (b : B) → (x >>= f) ≡ given b
    → (a : A) × (x ≡ given a) × (f a ≡ given b)
bind_given (refused w p) f b h = refused_given h
bind_given (given a) f b h = (a, refl, h)

pub bind_some : {A B : Type 0} (x : Option A) (f : A → Option B) (b : B) → M.◌>>=◌ x f ≡ some b
    → (a : A) × (x ≡ some a) × (f a ≡ some b)
bind_some none f b h = none_some h
bind_some (some a) f b h = (a, refl, h)

pub found_given : {A : Type 0} (p : ℕ) (o : Option A) (a : A) → found p o ≡ given a → o ≡ some a
found_given p none a h = refused_given h
found_given p (some b) a h = ap some (given_same h)

-- v is w and n more, within the limit
pub record Heavier (n w v : ℕ) : Type 0 where
  pub is : v ≡ w + n
  pub light : v ≤ 3000

pub heavier_given : (p n w v : ℕ) → heavier p n w ≡ given v → Heavier n w v
heavier_given p n w v h = go (leb (w + n) 3000) refl
  where
    go : (b : Bool) → leb (w + n) 3000 ≡ b → Heavier n w v
    go true e =
        let same : w + n ≡ v = let k = rw e at h in cc in
        record { is = sym same; light = rw (← same) (leb-true (w + n) 3000 e) }
    go false e = refused_given (rw e at h)

-- ---- lists of faults that are empty

-- an empty list of faults has empty parts
pub no_fault : {A : Type 0} (xs ys : List A) → xs ++ ys ≡ [] → (xs ≡ []) × (ys ≡ [])
no_fault [] ys h = (refl, h)
no_fault (x ∷ xs) ys h = cons_nil h

pub no_fault₃ : {A : Type 0} (xs ys zs : List A) → xs ++ ys ++ zs ≡ [] → (xs ≡ []) × (ys ≡ []) × (zs ≡ [])
no_fault₃ xs ys zs h =
    let (f, z) = no_fault (xs ++ ys) zs h in
    let (x, y) = no_fault xs ys f in
    (x, y, z)

pub no_fault₄ : {A : Type 0} (ws xs ys zs : List A) → ws ++ xs ++ ys ++ zs ≡ []
    → (ws ≡ []) × (xs ≡ []) × (ys ≡ []) × (zs ≡ [])
no_fault₄ ws xs ys zs h =
    let (f, y, z) = no_fault₃ (ws ++ xs) ys zs h in
    let (w, x) = no_fault ws xs f in
    (w, x, y, z)

-- neither a part nor the rule itself has a fault
pub no_fault_else : (ps own : List ℕ) → or_else ps own ≡ [] → (ps ≡ []) × (own ≡ [])
no_fault_else [] own h = (refl, h)
no_fault_else (p ∷ ps) own h = cons_nil h

-- a test that marks no fault at p failed
pub no_fault_at : (p : ℕ) (b : Bool) → at p b ≡ [] → b ≡ false
no_fault_at p true h = cons_nil h
no_fault_at p false h = refl

-- a test that was asked for passed
pub test_passed : (p : ℕ) (b : Bool) → at p (not b) ≡ [] → b ≡ true
test_passed p b h = not-false b (no_fault_at p (not b) h)
