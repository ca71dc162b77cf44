-- Two operands joined, by the cases of what is said of them.
use mathlib.Core.Path.{◌≡◌, refl, sym, ap, ap₂, ◌∙◌}
use mathlib.Core.Bool.{true, false}
use mathlib.Core.List.{List}
use Prim.Native.Nat.{ℕ}
use Rattle.std.specs.Prelude.{Option, None, Some}
use Rattle.paper.specs.declared.Ty.{Ty}
use Rattle.paper.specs.declared.Op.{Op}
use Rattle.paper.specs.Types as Y
use Rattle.paper.specs.Typing as T
use Rattle.tree.specs.Nodes.{child_of}
use Rattle.faults.specs.Soonest.{sooner}
use Rattle.faults.proofs.Soonest.{soonest_none, soonest_append}
use Rattle.types.specs.declared.parts.Judged.{Judged}
use Rattle.types.specs.declared.parts.Judged.TheVariants.{Typed, Numbers, Faulty}
use Rattle.types.specs.declared.parts.Settled.{Settled}
use Rattle.types.specs.Says.{Says, fault_of, is_open, Settling}
use Rattle.types.specs.Joins.{offered_by, OperatedAs, JoinedAs}
use Rattle.types.proofs.Judging.{first_of}

typed_is : (u : Ty) (j : T.Judged) → Says (Typed u) j → j ≡ T.typed u
typed_is u (T.faulty ps) a = absurd a
typed_is u T.numbers a = absurd a
typed_is u (T.typed v) a = ap T.typed (sym a)

numbers_is : (j : T.Judged) → Says Numbers j → j ≡ T.numbers
numbers_is (T.faulty ps) a = absurd a
numbers_is T.numbers a = refl
numbers_is (T.typed v) a = absurd a

some_sooner : (f : ℕ) (b : Option ℕ) → sooner (Some f) b ≡ None → ⊥
some_sooner f None e = cc
some_sooner f (Some g) e = cc

module _ (p : List ℕ) (i : ℕ) (o : Op) where
  -- the soonest fault of both
  pub joined_faulty : (x y : Judged) (q : ℕ) → sooner (fault_of x) (fault_of y) ≡ Some q → JoinedAs p i o x y (Faulty q)
  joined_faulty x y q e t (T.faulty ps) l a b = sym e ∙ ap₂ sooner (first_of x (T.faulty ps) a) (first_of y l b) ∙ sym (soonest_append ps (T.faults_of l))
  joined_faulty (Typed u) y q e t T.numbers l a b = absurd a
  joined_faulty (Faulty f) y q e t T.numbers l a b = absurd a
  joined_faulty Numbers y q e t T.numbers (T.faulty qs) a b = sym e ∙ first_of y (T.faulty qs) b
  joined_faulty Numbers y q e t T.numbers T.numbers a b = let z = sym e ∙ first_of y T.numbers b ∙ soonest_none in cc
  joined_faulty Numbers y q e t T.numbers (T.typed v) a b = let z = sym e ∙ first_of y (T.typed v) b ∙ soonest_none in cc
  joined_faulty Numbers y q e t (T.typed u) l a b = absurd a
  joined_faulty (Faulty f) y q e t (T.typed u) l a b = absurd a
  joined_faulty (Typed w) y q e t (T.typed u) (T.faulty qs) a b = sym e ∙ first_of y (T.faulty qs) b
  joined_faulty (Typed w) y q e t (T.typed u) T.numbers a b = let z = sym e ∙ first_of y T.numbers b ∙ soonest_none in cc
  joined_faulty (Typed w) y q e t (T.typed u) (T.typed v) a b = let z = sym e ∙ first_of y (T.typed v) b ∙ soonest_none in cc

  pub joined_operated : (x y : Judged) (v w : Settled) (r : Judged)
      → Settling p (offered_by x y) (child_of p i 1) x v
      → Settling p (offered_by x y) (child_of p i 2) y w
      → OperatedAs p i o v w r
      → sooner (fault_of x) (fault_of y) ≡ None
      → (is_open x ≡ true → is_open y ≡ true → Y.is_arithmetic (Y.sort_of o) ≡ false) → JoinedAs p i o x y r
  joined_operated (Typed u) (Typed m) v w r first second own n h t j l a b =
      rw (typed_is u j a, typed_is m l b) (own t _ _ (first t (T.typed u) refl) (second t (T.typed m) refl))
  joined_operated (Typed u) Numbers v w r first second own n h t j l a b =
      rw (typed_is u j a, numbers_is l b) (own t _ _ (first t (T.typed u) refl) (second t T.numbers tt))
  joined_operated (Typed u) (Faulty g) v w r first second own n h t j l a b = cc
  joined_operated Numbers (Typed m) v w r first second own n h t j l a b =
      rw (numbers_is j a, typed_is m l b) (own t _ _ (first t T.numbers tt) (second t (T.typed m) refl))
  joined_operated Numbers Numbers v w r first second own n h t j l a b =
      rw (numbers_is j a, numbers_is l b, h refl refl) (own t _ _ (first t T.numbers tt) (second t T.numbers tt))
  joined_operated Numbers (Faulty g) v w r first second own n h t j l a b = cc
  joined_operated (Faulty f) y v w r first second own n h t j l a b = absurd (some_sooner f (fault_of y) n)
