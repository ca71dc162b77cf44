-- How the soonest fault of a list comes from those of its parts.
use mathlib.Core.Path.{◌≡◌, refl, sym, ap, ◌∙◌}
use mathlib.Core.Bool.{Bool, true, false, true≢false}
use mathlib.Core.Option as Math
use mathlib.Core.Option.{none, some}
use mathlib.Core.List.{List, [], ◌∷◌, ◌++◌}
use Prim.Native.Nat.{ℕ, ◌≤◌, ◌<◌, min}
use native.Mathlib.Omega.{arith}
use borrow.Author.Tests.{ltb-true, ltb-false}
use Rattle.std.specs.Prelude.{Option, None, Some}
use Rattle.std.specs.Bool.{then_some}
use Rattle.std.specs.Option.{option_or}
use Rattle.paper.specs.declared.Why.{Why}
use Rattle.paper.specs.Refusals.{Answer, refused, given}
use Rattle.paper.specs.Names.{at}
use Rattle.paper.specs.Typing.{or_else}
use Rattle.paper.specs.Judge.{smallest, faultless}
use Rattle.faults.specs.Soonest.{carried, soonest, sooner, matter}

-- ---- the sooner of two

pub sooner_none : (a : Option ℕ) → sooner a None ≡ a
sooner_none None = refl
sooner_none (Some p) = refl

pub sooner_same : (a : Option ℕ) → sooner a a ≡ a
sooner_same None = refl
sooner_same (Some p) = let e : min p p ≡ p = omega arith in cc

pub sooner_comm : (a b : Option ℕ) → sooner a b ≡ sooner b a
sooner_comm None None = refl
sooner_comm None (Some q) = refl
sooner_comm (Some p) None = refl
sooner_comm (Some p) (Some q) = let e : min p q ≡ min q p = omega arith in cc

pub sooner_assoc : (a b c : Option ℕ) → sooner (sooner a b) c ≡ sooner a (sooner b c)
sooner_assoc None b c = refl
sooner_assoc (Some p) None c = refl
sooner_assoc (Some p) (Some q) None = refl
sooner_assoc (Some p) (Some q) (Some r) = let e : min (min p q) r ≡ min p (min q r) = omega arith in cc

-- ---- the soonest of a list

pub soonest_none : soonest [] ≡ None
unfolding soonest smallest
soonest_none = refl

pub soonest_more : (p : ℕ) (ps : List ℕ) → soonest (p ∷ ps) ≡ sooner (Some p) (soonest ps)
unfolding soonest smallest
soonest_more p ps = go (smallest ps)
  where
    go : (o : Math.Option ℕ) → carried (elim o [ none ↦ some p | some q ↦ some (min p q) ]) ≡ sooner (Some p) (carried o)
    go none = refl
    go (some q) = refl

pub soonest_append : (xs ys : List ℕ) → soonest (xs ++ ys) ≡ sooner (soonest xs) (soonest ys)
soonest_append [] ys = sym (ap (λ a. sooner a (soonest ys)) soonest_none)
soonest_append (x ∷ xs) ys =
    soonest_more x (xs ++ ys)
    ∙ ap (sooner (Some x)) (soonest_append xs ys)
    ∙ sym (sooner_assoc (Some x) (soonest xs) (soonest ys))
    ∙ sym (ap (λ a. sooner a (soonest ys)) (soonest_more x xs))

pub soonest_one : (p : ℕ) → soonest (p ∷ []) ≡ Some p
soonest_one p = soonest_more p [] ∙ ap (sooner (Some p)) soonest_none

-- where there is none, the list is empty
pub soonest_empty : (ps : List ℕ) → soonest ps ≡ None → ps ≡ []
soonest_empty [] h = refl
soonest_empty (p ∷ ps) h = absurd (go (soonest ps) (sym (soonest_more p ps) ∙ h))
  where
    go : (a : Option ℕ) → sooner (Some p) a ≡ None → ⊥
    go None e = cc
    go (Some q) e = cc

-- ---- tests and rules

pub soonest_at : (p : ℕ) (b : Bool) → soonest (at p b) ≡ then_some b p
soonest_at p true = soonest_one p
soonest_at p false = soonest_none

pub soonest_or_else : (xs ys : List ℕ) → soonest (or_else xs ys) ≡ option_or (soonest xs) (soonest ys)
soonest_or_else [] ys = ap (λ a. option_or a (soonest ys)) (sym soonest_none)
soonest_or_else (x ∷ xs) ys = go (soonest (x ∷ xs)) refl
  where
    go : (a : Option ℕ) → soonest (x ∷ xs) ≡ a → a ≡ option_or a (soonest ys)
    go None e = let z = soonest_empty (x ∷ xs) e in cc
    go (Some p) e = refl

-- a fault that matters is the soonest, and one that doesn't changes nothing
pub sooner_matter : (best : Option ℕ) (p : ℕ) → matter best p ≡ true → sooner best (Some p) ≡ Some p
sooner_matter None p h = refl
sooner_matter (Some q) p h = let l : p < q = ltb-true p q h in let e : min q p ≡ p = omega arith in cc

pub not_sooner : (best : Option ℕ) (p : ℕ) → matter best p ≡ false → sooner best (Some p) ≡ best
not_sooner None p h = absurd (true≢false h)
not_sooner (Some q) p h = let l : q ≤ p = ltb-false p q h in let e : min q p ≡ q = omega arith in cc

-- all of these that go from a list to its parts
pub ruleset soonest_steps = (sooner_none, sooner_assoc, soonest_none, soonest_one, soonest_append, soonest_at, soonest_or_else)

-- ---- refusals

pub none_refused : (w : Why) (ps : List ℕ) → soonest ps ≡ None → faultless w ps ≡ given tt
unfolding smallest
none_refused w ps h = ap (faultless w) (soonest_empty ps h)

pub soonest_refused : (w : Why) (ps : List ℕ) (p : ℕ) → soonest ps ≡ Some p → faultless w ps ≡ refused w p
unfolding soonest
soonest_refused w ps p h = go (smallest ps) h
  where
    go : (o : Math.Option ℕ) → carried o ≡ Some p → ◌≡◌ {A = Answer (Unit {0})} (elim o [ none ↦ given tt | some q ↦ refused w q ]) (refused w p)
    go none e = cc
    go (some q) e = let s : q ≡ p = cc in ap (refused w) s
