-- The type of the expression of a node, from those of its operands.
use mathlib.Core.Path.{◌≡◌, refl, sym, ap, ◌∙◌}
use mathlib.Core.Logic.{◌⊎◌, inl, inr}
use mathlib.Core.Bool.{Bool, true, false, cond}
use mathlib.Core.Option.{Option, none, some}
use mathlib.Core.List.{List}
use Prim.Native.Nat.{ℕ, zero, suc, ◌+◌, ◌-◌, ◌≤◌, ◌<◌}
use native.Mathlib.Omega.{arith}
use borrow.Author.Tests.{ltb-true, ltb-false, ne_eqb}
use lib.Dec.{ltb}
use lib.ListN.{get_or, drop}
use lib.Seq.{get_or-drop}
use Rattle.paper.specs.declared.Ty.{Ty}
use Rattle.paper.specs.declared.Ty.TheVariants.{Bool as BOOL, Dint as DINT}
use Rattle.paper.specs.declared.Op.{Op}
use Rattle.paper.specs.declared.Op.TheVariants.{Or}
use Rattle.paper.specs.Types.{Sort, arithmetic, order, equality, logic, sort_of, gives, is_arithmetic}
use Rattle.paper.specs.Source.{Expr, binary}
use Rattle.paper.specs.Names.{Variable, find}
use Rattle.paper.specs.Typing.{either, type_of_name, type_of, type_in, operand_type}
use Rattle.tree.specs.Trees.{name_at, operators, place_at, expr_at}
use Rattle.tree.proofs.Decodes.{none as no_more, ◌&◌, each}
use Rattle.tree.specs.Kinds.{operand, expression_of, IsExpression}
use Rattle.tree.specs.declared.kinds.Expression.{Expression}
use Rattle.tree.specs.declared.kinds.Expression.TheVariants.{Nothing, Number, Truth, Variable as Name, Element, Minus, Complement, Brackets, Conversion, Binary}
use Rattle.constants.specs.Answers.{is_typed, Offers, result_at}

-- ---- a type of its own, else the one offered

abbrev own_or : Ty → Option Ty → Ty
own_or t x = elim x [ none ↦ t | some v ↦ v ]

-- from what the expression says of itself
pub in_of : (vs : List Variable) (t : Ty) (e : Expr) (x : Option Ty) → x ≡ type_of vs e → own_or t x ≡ type_in vs t e
unfolding type_in
in_of vs t e x h = ap (own_or t) h

-- ---- what has two operands, by the sort of its operator

module _ (vs : List Variable) (q : ℕ) (o : Op) (x y : Expr) where
  by_sort : (a : Bool) → is_arithmetic (sort_of o) ≡ a
      → type_of vs (binary q o x y) ≡ elim a [ true ↦ either (type_of vs x) (type_of vs y) | false ↦ some BOOL ]
  unfolding type_of
  by_sort a e = ap (λ b. elim b [ true ↦ either (type_of vs x) (type_of vs y) | false ↦ some BOOL ]) e

  -- it has the type that its operator gives on theirs
  pub two_in : (u : Ty) → gives (sort_of o) (operand_type vs u o x y) ≡ type_in vs u (binary q o x y)
  unfolding type_of type_in operand_type
  two_in u = go (sort_of o) (either (type_of vs x) (type_of vs y))
    where
      go : (s : Sort) (z : Option Ty)
          → gives s (own_or (cond (is_arithmetic s) u DINT) z) ≡ own_or u (elim (is_arithmetic s) [ true ↦ z | false ↦ some BOOL ])
      go arithmetic z = refl
      go order z = refl
      go equality z = refl
      go logic z = refl

-- ---- by the number of a kind

module _ (u : Ty) where
  -- the first five operators keep the type of their operands
  low : (n : ℕ) → n < 5 → gives (sort_of (get_or operators n Or)) u ≡ u
  low zero l = refl
  low (suc zero) l = refl
  low (suc (suc zero)) l = refl
  low (suc (suc (suc zero))) l = refl
  low (suc (suc (suc (suc zero)))) l = refl
  low (suc (suc (suc (suc (suc n))))) l = absurd (omega arith)

  -- the others give BOOL, as what is beyond the last
  high : (n : ℕ) → gives (sort_of (get_or operators (5 + n) Or)) u ≡ BOOL
  high n =
      ap (λ o. gives (sort_of o) u) (sym (get_or-drop 5 operators n Or))
      ∙ each (λ o. gives (sort_of o) u ≡ BOOL) Or refl (drop 5 operators)
      (refl & refl & refl & refl & refl & refl & refl & refl & refl & no_more) n

  -- a kind above those of one operand gives what its operator gives
  pub by_kind : (k w : ℕ) → 10 < k → gives (sort_of (get_or operators (k - 11) Or)) u ≡ result_at k w u
  by_kind k w l = rw (ne_eqb k 8 (λ e. omega arith), ne_eqb k 10 (λ e. omega arith)) (go (ltb 15 k) refl)
    where
      go : (b : Bool) → ltb 15 k ≡ b → gives (sort_of (get_or operators (k - 11) Or)) u ≡ cond (ltb 15 k) BOOL u
      go true e =
          let h : 15 < k = ltb-true 15 k e in
          let v : k - 11 ≡ 5 + (k - 16) = omega arith in
          rw (e, v) (high (k - 16))
      go false e =
          let h : k ≤ 15 = ltb-false 15 k e in
          rw e (low (k - 11) (omega arith))

-- ---- nodes

module _ (vs : List Variable) (t p : List ℕ) (i : ℕ) where
  -- by what the node is
  by_view : (e : Expression) → IsExpression p i e → type_of vs (expression_of p i t e) ≡ type_of vs (expr_at t p i)
  by_view e v = sym (ap (type_of vs) (v.tree t))

  -- q is the place of the name
  pub name_type : (e : Expression) → IsExpression p i e → (e ≡ Name) ⊎ (e ≡ Element) → (q : ℕ) (ty : Ty) → ty ≡ type_of_name vs (name_at t q)
      → q ≡ place_at p i → some ty ≡ type_of vs (expr_at t p i)
  unfolding type_of
  name_type e v h q ty k l =
      ap some (k ∙ ap (λ q. type_of_name vs (name_at t q)) l) ∙ elim h [ inl w ↦ by_view Name (rw w at v) | inr w ↦ by_view Element (rw w at v) ]

  pub number_type : IsExpression p i Number → none ≡ type_of vs (expr_at t p i)
  unfolding type_of
  number_type v = by_view Number v

  -- minus and brackets
  pub inner_type : (e : Expression) → IsExpression p i e → (e ≡ Minus) ⊎ (e ≡ Brackets) → type_of vs (operand p i t 1) ≡ type_of vs (expr_at t p i)
  unfolding type_of
  inner_type e v h = elim h [ inl w ↦ by_view Minus (rw w at v) | inr w ↦ by_view Brackets (rw w at v) ]

  pub conversion_type : (u w : Ty) → IsExpression p i (Conversion u w) → some w ≡ type_of vs (expr_at t p i)
  unfolding type_of
  conversion_type u w v = by_view (Conversion u w) v

  module _ (o : Op) (v : IsExpression p i (Binary o)) where
    -- of a test
    pub test_type : (a : Bool) → a ≡ is_arithmetic (sort_of o) → a ≡ false → some BOOL ≡ type_of vs (expr_at t p i)
    test_type a e h = sym (by_sort vs (place_at p i) o (operand p i t 1) (operand p i t 2) false (sym e ∙ h)) ∙ by_view (Binary o) v

    pub test_own : (a : Bool) → a ≡ is_arithmetic (sort_of o) → a ≡ false → is_typed (type_of vs (expr_at t p i)) ≡ true
    test_own a e h = ap is_typed (sym (test_type a e h))

    -- of arithmetic: the first operand's, else the second's
    module _ (a : Bool) (e : a ≡ is_arithmetic (sort_of o)) (h : a ≡ true) where
      arithmetic_type : either (type_of vs (operand p i t 1)) (type_of vs (operand p i t 2)) ≡ type_of vs (expr_at t p i)
      arithmetic_type = sym (by_sort vs (place_at p i) o (operand p i t 1) (operand p i t 2) true (sym e ∙ h)) ∙ by_view (Binary o) v

      pub left_type : (u : Ty) → some u ≡ type_of vs (operand p i t 1) → some u ≡ type_of vs (expr_at t p i)
      left_type u l = ap (λ x. either x (type_of vs (operand p i t 2))) l ∙ arithmetic_type

      pub right_type : (x : Option Ty) → none ≡ type_of vs (operand p i t 1) → x ≡ type_of vs (operand p i t 2) → x ≡ type_of vs (expr_at t p i)
      right_type x l r = r ∙ ap (λ x. either x (type_of vs (operand p i t 2))) l ∙ arithmetic_type

      pub first_own : is_typed (type_of vs (operand p i t 1)) ≡ true → is_typed (type_of vs (expr_at t p i)) ≡ true
      first_own k = ap is_typed (sym arithmetic_type) ∙ left (type_of vs (operand p i t 1)) k
        where
          left : (x : Option Ty) → is_typed x ≡ true → is_typed (either x (type_of vs (operand p i t 2))) ≡ true
          left none k = cc
          left (some w) k = refl

  -- nil, FALSE, TRUE and NOT
  pub other_type : (e : Expression) → IsExpression p i e → (e ≡ Number → ⊥) → (e ≡ Name → ⊥) → (e ≡ Element → ⊥) → (e ≡ Minus → ⊥)
      → (e ≡ Brackets → ⊥) → ((u w : Ty) → e ≡ Conversion u w → ⊥) → ((o : Op) → e ≡ Binary o → ⊥) → some BOOL ≡ type_of vs (expr_at t p i)
  unfolding type_of
  other_type Nothing v n x l m b c o = by_view Nothing v
  other_type Number v n x l m b c o = absurd (n refl)
  other_type (Truth z) v n x l m b c o = by_view (Truth z) v
  other_type Name v n x l m b c o = absurd (x refl)
  other_type Element v n x l m b c o = absurd (l refl)
  other_type Minus v n x l m b c o = absurd (m refl)
  other_type Complement v n x l m b c o = by_view Complement v
  other_type Brackets v n x l m b c o = absurd (b refl)
  other_type (Conversion y z) v n x l m b c o = absurd (c y z refl)
  other_type (Binary z) v n x l m b c o = absurd (o z refl)

  -- ---- with a type of its own

  pub inner_own : (e : Expression) → IsExpression p i e → (e ≡ Minus) ⊎ (e ≡ Brackets) → is_typed (type_of vs (operand p i t 1)) ≡ true
      → is_typed (type_of vs (expr_at t p i)) ≡ true
  inner_own e v h k = ap is_typed (sym (inner_type e v h)) ∙ k

  pub other_own : (e : Expression) → IsExpression p i e → (e ≡ Nothing → ⊥) → (e ≡ Number → ⊥) → (e ≡ Minus → ⊥) → (e ≡ Brackets → ⊥)
      → ((o : Op) → e ≡ Binary o → ⊥) → is_typed (type_of vs (expr_at t p i)) ≡ true
  unfolding type_of
  other_own Nothing v l n m b o = absurd (l refl)
  other_own Number v l n m b o = absurd (n refl)
  other_own (Truth z) v l n m b o = ap is_typed (sym (by_view (Truth z) v))
  other_own Name v l n m b o = ap is_typed (sym (by_view Name v))
  other_own Element v l n m b o = ap is_typed (sym (by_view Element v))
  other_own Minus v l n m b o = absurd (m refl)
  other_own Complement v l n m b o = ap is_typed (sym (by_view Complement v))
  other_own Brackets v l n m b o = absurd (b refl)
  other_own (Conversion y z) v l n m b o = ap is_typed (sym (by_view (Conversion y z) v))
  other_own (Binary z) v l n m b o = absurd (o z refl)

-- ---- what is made of types

pub type_of_name_lem : (vs : List Variable) (n : List ℕ) (v : Variable) → find n vs ≡ some v → v.declared.ty ≡ type_of_name vs n
unfolding type_of_name
type_of_name_lem vs n v e = rw (e, type_of_name)

pub type_of_none : (vs : List Variable) (n : List ℕ) → find n vs ≡ none → DINT ≡ type_of_name vs n
unfolding type_of_name
type_of_none vs n e = rw (e, type_of_name)

-- what has a type is of it, whatever type is offered
pub known_in : (vs : List Variable) (t : Ty) (e : Expr) (u : Ty) → some u ≡ type_of vs e → u ≡ type_in vs t e
known_in vs t e u h = in_of vs t e (some u) h

-- what has a type of its own is of it, and its operands are of theirs, whatever is offered
module _ (vs : List Variable) (t u : Ty) where
  pub own_in : (e : Expr) → is_typed (type_of vs e) ≡ true → type_in vs t e ≡ type_in vs u e
  unfolding type_in
  own_in e h = go (type_of vs e) h
    where
      go : (x : Option Ty) → is_typed x ≡ true → own_or t x ≡ own_or u x
      go none h = cc
      go (some v) h = refl

  pub own_operands : (q : ℕ) (o : Op) (l r : Expr) → is_typed (type_of vs (binary q o l r)) ≡ true
      → operand_type vs t o l r ≡ operand_type vs u o l r
  unfolding type_of operand_type
  own_operands q o l r h = go (is_arithmetic (sort_of o)) (either (type_of vs l) (type_of vs r)) h
    where
      go : (a : Bool) (x : Option Ty) → is_typed (elim a [ true ↦ x | false ↦ some BOOL ]) ≡ true
          → own_or (cond a t DINT) x ≡ own_or (cond a u DINT) x
      go true none h = cc
      go false none h = refl
      go a (some v) h = refl

module _ (vs : List Variable) (t : Ty) (o : Op) (l r : Expr) where
  abbrev settled : Bool → Option Ty → Ty
  settled a x = own_or (cond a t DINT) x

  -- what the two sides say
  operands : (x : Option Ty) (a : Bool) → x ≡ either (type_of vs l) (type_of vs r) → is_arithmetic (sort_of o) ≡ a
      → settled a x ≡ operand_type vs t o l r
  unfolding operand_type
  operands x a h e = ap (settled a) h ∙ ap (λ a. settled a (either (type_of vs l) (type_of vs r))) (sym e)

  pub operand_left : (u : Ty) → some u ≡ type_of vs l → u ≡ operand_type vs t o l r
  operand_left u left = operands (some u) _ (ap (λ x. either x (type_of vs r)) left) refl

  module _ (no_left : none ≡ type_of vs l) where
    pub operand_right : (u : Ty) → some u ≡ type_of vs r → u ≡ operand_type vs t o l r
    operand_right u right = operands (some u) _ (right ∙ ap (λ x. either x (type_of vs r)) no_left) refl

    -- a says whether the operator is arithmetic
    module _ (no_right : none ≡ type_of vs r) (a : Bool) (e : a ≡ is_arithmetic (sort_of o)) where
      pub operand_offered : a ≡ true → t ≡ operand_type vs t o l r
      operand_offered h = operands none true (no_right ∙ ap (λ x. either x (type_of vs r)) no_left) (sym e ∙ h)

      pub operand_fixed : a ≡ false → DINT ≡ operand_type vs t o l r
      operand_fixed h = operands none false (no_right ∙ ap (λ x. either x (type_of vs r)) no_left) (sym e ∙ h)

  -- the first operand where the one type of both is offered
  pub operand_in : type_in vs (operand_type vs t o l r) l ≡ operand_type vs t o l r
  operand_in = go (type_of vs l) refl
    where
      go : (x : Option Ty) → x ≡ type_of vs l → type_in vs (operand_type vs t o l r) l ≡ operand_type vs t o l r
      go none e = sym (in_of vs (operand_type vs t o l r) l none e)
      go (some v) e = sym (known_in vs (operand_type vs t o l r) l v e) ∙ operand_left v e

  -- what is offered to the first operand
  module _ (u : Ty) (h : Offers vs t o l r u) where
    -- what f makes of it is the same in the one type of both, where f makes the same of any for an operand with a type of its own
    pub offered_as : {A : Type 0} (f : Ty → A) → (is_typed (type_of vs l) ≡ true → f u ≡ f (operand_type vs t o l r))
        → f u ≡ f (operand_type vs t o l r)
    offered_as f own = go (is_typed (type_of vs l)) refl
      where
        go : (b : Bool) → is_typed (type_of vs l) ≡ b → f u ≡ f (operand_type vs t o l r)
        go true e = own e
        go false e = ap f (h e)

    pub offered_in : type_in vs u l ≡ operand_type vs t o l r
    offered_in = offered_as (λ v. type_in vs v l) (own_in vs u (operand_type vs t o l r) l) ∙ operand_in

-- the type of a node, by what it is
pub ruleset types_by_kind = (number_type, inner_type, left_type)
