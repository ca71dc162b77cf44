-- Numbers, divisors and scan constants of a node, from those of its children.
use mathlib.Core.Path.{◌≡◌, refl, sym, ap, ap₂, ◌∙◌}
use mathlib.Core.Bool.{Bool, true, false, not, cond, ◌&&◌}
use mathlib.Core.Logic.{◌⊎◌, inl, inr}
use mathlib.Core.Option as Math
use mathlib.Core.Option.{none, some}
use mathlib.Core.List.{List, [], ◌++◌}
use Prim.Native.Nat.{ℕ, zero, suc}
use native.Mathlib.Omega.{arith}
use borrow.Author.Tests.{ne_eqb}
use lib.Dec.{eqb}
use lib.IntN.{pos, neg_ℤ}
use Rattle.std.specs.Prelude.{Option, None}
use Rattle.std.specs.Bool.{then_some}
use Rattle.std.specs.Option.{option_or}
use Rattle.paper.specs.declared.Ty.{Ty}
use Rattle.paper.specs.declared.Op.{Op}
use Rattle.paper.specs.Source.{Name, Expr}
use Rattle.paper.specs.Types as Y
use Rattle.paper.specs.Names.{at, is_among}
use Rattle.paper.specs.Typing as T
use Rattle.tree.specs.Nodes.{word_of, child_of}
use Rattle.tree.specs.Trees.{expr_at, name_at, place_at, wide, whole_at}
use Rattle.tree.specs.Kinds.{operand, expression_of, IsExpression}
use Rattle.tree.specs.declared.kinds.Expression.{Expression}
use Rattle.tree.specs.declared.kinds.Expression.TheVariants.{Nothing, Number, Truth, Variable, Element, Minus, Complement, Brackets, Conversion, Binary}
use Rattle.faults.specs.Soonest.{soonest, sooner}
use Rattle.faults.proofs.Soonest.{soonest_none, soonest_append, soonest_at, soonest_or_else}
use Rattle.types.specs.Says.{IsNumber, IsNumberFaults, IsDivisorFault, IsGoodDivisor}

-- ---- faults

-- a rule's own fault, beside those of two operands and of a divisor
pub own_rule : (xs ys ds : List ℕ) (q : ℕ) (g : Bool)
    → soonest (T.or_else (xs ++ ys ++ ds) (at q (not g))) ≡ option_or (sooner (sooner (soonest xs) (soonest ys)) (soonest ds)) (then_some (not g) q)
own_rule xs ys ds q g =
    soonest_or_else (xs ++ ys ++ ds) (at q (not g))
    ∙ ap₂ option_or
    (soonest_append (xs ++ ys) ds ∙ ap (λ a. sooner a (soonest ds)) (soonest_append xs ys))
    (soonest_at q (not g))

-- ---- a plain number

abbrev is_plain : Expr → Bool
is_plain e = elim (T.plain_number e) [ none ↦ false | some n ↦ true ]

module _ (p : List ℕ) (i : ℕ) where
  plain_by_view : (e : Expression) → IsExpression p i e → (r : Bool) → ((t : List ℕ) → r ≡ is_plain (expression_of p i t e)) → IsNumber p i r
  plain_by_view e v r h t = h t ∙ sym (ap is_plain (v.tree t))

  pub plain_number_lem : IsExpression p i Number → IsNumber p i true
  plain_number_lem v = plain_by_view Number v true (λ t. refl)

  pub no_plain_number : (e : Expression) → IsExpression p i e → (e ≡ Number → ⊥) → IsNumber p i false
  no_plain_number Nothing v n = plain_by_view Nothing v false (λ t. refl)
  no_plain_number Number v n = absurd (n refl)
  no_plain_number (Truth x) v n = plain_by_view (Truth x) v false (λ t. refl)
  no_plain_number Variable v n = plain_by_view Variable v false (λ t. refl)
  no_plain_number Element v n = plain_by_view Element v false (λ t. refl)
  no_plain_number Minus v n = plain_by_view Minus v false (λ t. refl)
  no_plain_number Complement v n = plain_by_view Complement v false (λ t. refl)
  no_plain_number Brackets v n = plain_by_view Brackets v false (λ t. refl)
  no_plain_number (Conversion x y) v n = plain_by_view (Conversion x y) v false (λ t. refl)
  no_plain_number (Binary x) v n = plain_by_view (Binary x) v false (λ t. refl)

  -- ---- divisors

  zero_whole : T.is_zero (whole_at p i) ≡ eqb (wide p i) 0
  zero_whole = go (eqb (word_of p i 0) 2) (wide p i)
    where
      go : (b : Bool) (n : ℕ) → T.is_zero (cond b (neg_ℤ (pos n)) (pos n)) ≡ eqb n 0
      go true zero = refl
      go true (suc n) = sym (ne_eqb (suc n) 0 (omega arith))
      go false n = refl

  module _ (o : Op) where
    pub divisor_number : Y.divides o ≡ true → IsExpression p i Number → IsDivisorFault p o i (then_some (eqb (wide p i) 0) (place_at p i))
    divisor_number d v t = rw (v.tree t, d, zero_whole) (sym (soonest_at (place_at p i) (eqb (wide p i) 0)))

    pub divisor_other : Y.divides o ≡ false → IsDivisorFault p o i None
    divisor_other d t = rw d (sym soonest_none)

    pub divisor_no_number : IsNumber p i false → IsDivisorFault p o i None
    divisor_no_number n t = go (Y.divides o) (T.plain_number (expr_at t p i)) (n t)
      where
        go : (d : Bool) (m : Math.Option T.Numeral) → false ≡ elim m [ none ↦ false | some n ↦ true ]
            → None ≡ soonest (cond d (elim m [ none ↦ [] | some n ↦ at n.place (T.is_zero n.value) ]) [])
        go d (some n) h = cc
        go true none h = sym soonest_none
        go false none h = sym soonest_none

    pub divisor_kind : (e : Expression) → IsExpression p i e → (e ≡ Number → ⊥) → IsDivisorFault p o i None
    divisor_kind e v n = divisor_no_number (no_plain_number e v n)

  -- ---- the faults of a node, from those of its children

  module _ (u : Ty) where
    faults_by_view : (e : Expression) → IsExpression p i e → (x : Option ℕ)
        → ((t : List ℕ) → x ≡ soonest (T.number_faults u (expression_of p i t e))) → IsNumberFaults p u i x
    faults_by_view e v x h t = h t ∙ sym (ap (λ y. soonest (T.number_faults u y)) (v.tree t))

    pub number_faults_lem : IsExpression p i Number → IsNumberFaults p u i (then_some (not (Y.fits u (whole_at p i))) (place_at p i))
    unfolding T.number_faults
    number_faults_lem v = faults_by_view Number v _ (λ t. sym (soonest_at (place_at p i) (not (Y.fits u (whole_at p i)))))

    pub no_faults : (e : Expression) → IsExpression p i e → (e ≡ Number → ⊥) → (e ≡ Minus → ⊥) → (e ≡ Brackets → ⊥) → ((o : Op) → e ≡ Binary o → ⊥)
        → IsNumberFaults p u i None
    unfolding T.number_faults
    no_faults Nothing v n m b o = faults_by_view Nothing v None (λ t. sym soonest_none)
    no_faults Number v n m b o = absurd (n refl)
    no_faults (Truth x) v n m b o = faults_by_view (Truth x) v None (λ t. sym soonest_none)
    no_faults Variable v n m b o = faults_by_view Variable v None (λ t. sym soonest_none)
    no_faults Element v n m b o = faults_by_view Element v None (λ t. sym soonest_none)
    no_faults Minus v n m b o = absurd (m refl)
    no_faults Complement v n m b o = faults_by_view Complement v None (λ t. sym soonest_none)
    no_faults Brackets v n m b o = absurd (b refl)
    no_faults (Conversion x y) v n m b o = faults_by_view (Conversion x y) v None (λ t. sym soonest_none)
    no_faults (Binary x) v n m b o = absurd (o x refl)

    module _ (x : Option ℕ) (first : IsNumberFaults p u (child_of p i 1) x) where
      pub brackets_faults : IsExpression p i Brackets → IsNumberFaults p u i x
      unfolding T.number_faults
      brackets_faults v = faults_by_view Brackets v x first

      pub minus_faults : IsExpression p i Minus → IsNumberFaults p u i (option_or x (then_some (not (Y.signed u)) (place_at p i)))
      unfolding T.number_faults
      minus_faults v =
          faults_by_view Minus v _
          (λ t.
          ap₂ option_or (first t) (sym (soonest_at (place_at p i) (not (Y.signed u))))
          ∙ sym (soonest_or_else (T.number_faults u (operand p i t 1)) (at (place_at p i) (not (Y.signed u)))))

      pub binary_faults : (o : Op) → IsExpression p i (Binary o) → (y d : Option ℕ) (g : Bool)
          → IsNumberFaults p u (child_of p i 2) y → IsDivisorFault p o (child_of p i 2) d → IsGoodDivisor p o (child_of p i 2) g
          → IsNumberFaults p u i (option_or (sooner (sooner x y) d) (then_some (not g) (place_at p i)))
      unfolding T.number_faults
      binary_faults o v y d g second divisor good =
          faults_by_view (Binary o) v _
          (λ t.
          let e = operand p i t 1 in
          let f = operand p i t 2 in
          rw (first t, second t, divisor t, good t)
          (sym (own_rule (T.number_faults u e) (T.number_faults u f) (T.divisor_fault o f) (place_at p i) (T.is_good_divisor o f))))

-- ---- scan constants

module _ (t p : List ℕ) (i : ℕ) (loops : List Name) where
  abbrev constant : ℕ → Bool
  constant j = T.is_constant loops (expr_at t p j)

  by_view : (e : Expression) → IsExpression p i e → T.is_constant loops (expression_of p i t e) ≡ constant i
  by_view e v = sym (ap (T.is_constant loops) (v.tree t))

  pub constant_number : IsExpression p i Number → true ≡ constant i
  unfolding T.is_constant
  constant_number v = by_view Number v

  pub constant_name : IsExpression p i Variable → is_among (name_at t (place_at p i)) loops ≡ constant i
  unfolding T.is_constant
  constant_name v = by_view Variable v

  -- minus, brackets and conversions
  pub constant_part : (e : Expression) → IsExpression p i e → (e ≡ Minus) ⊎ ((e ≡ Brackets) ⊎ ((u : Ty) × (w : Ty) × (e ≡ Conversion u w)))
      → constant (child_of p i 1) ≡ constant i
  unfolding T.is_constant
  constant_part e v h =
      elim h [
        | inl q ↦ by_view Minus (rw q at v)
        | inr h ↦ elim h [ inl q ↦ by_view Brackets (rw q at v) | inr q ↦ by_view (Conversion q.0 q.1) (rw q.2 at v) ]
      ]

  -- s says whether the operator may stand there, and a whether the first operand is one
  module _ (o : Op) (v : IsExpression p i (Binary o)) (s : Bool) (may : s ≡ T.is_scan_op o) where
    both : (T.is_scan_op o && constant (child_of p i 1) && constant (child_of p i 2)) ≡ constant i
    unfolding T.is_constant
    both = by_view (Binary o) v

    pub constant_not : s ≡ false → false ≡ constant i
    constant_not h = ap (λ a. a && constant (child_of p i 1) && constant (child_of p i 2)) (sym h ∙ may) ∙ both

    module _ (h : s ≡ true) (a : Bool) (first : a ≡ constant (child_of p i 1)) where
      after_first : (a && constant (child_of p i 2)) ≡ constant i
      after_first = ap₂ (λ s a. s && a && constant (child_of p i 2)) (sym h ∙ may) first ∙ both

      pub constant_first : a ≡ false → false ≡ constant i
      constant_first k = ap (λ a. a && constant (child_of p i 2)) (sym k) ∙ after_first

      pub constant_second : a ≡ true → (r : Bool) → r ≡ constant (child_of p i 2) → r ≡ constant i
      constant_second k r second = second ∙ ap (λ a. a && constant (child_of p i 2)) (sym k) ∙ after_first

  pub constant_none : (e : Expression) → IsExpression p i e → (e ≡ Number → ⊥) → (e ≡ Variable → ⊥) → (e ≡ Minus → ⊥) → (e ≡ Brackets → ⊥)
      → ((u w : Ty) → e ≡ Conversion u w → ⊥) → ((o : Op) → e ≡ Binary o → ⊥) → false ≡ constant i
  unfolding T.is_constant
  constant_none Nothing v n x m b c o = by_view Nothing v
  constant_none Number v n x m b c o = absurd (n refl)
  constant_none (Truth z) v n x m b c o = by_view (Truth z) v
  constant_none Variable v n x m b c o = absurd (x refl)
  constant_none Element v n x m b c o = by_view Element v
  constant_none Minus v n x m b c o = absurd (m refl)
  constant_none Complement v n x m b c o = by_view Complement v
  constant_none Brackets v n x m b c o = absurd (b refl)
  constant_none (Conversion y z) v n x m b c o = absurd (c y z refl)
  constant_none (Binary z) v n x m b c o = absurd (o z refl)

-- ---- all of these, one set for each function

pub ruleset plain_numbers = (plain_number_lem, no_plain_number)

pub ruleset divisors = (divisor_number, divisor_other, divisor_kind)

pub ruleset numbers = (number_faults_lem, no_faults, minus_faults)

pub ruleset constants = (constant_number, constant_name, constant_part, constant_none)
