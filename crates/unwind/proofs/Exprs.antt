-- The plain form of the expression of a node, and its type where one is offered, from those of its children.
use mathlib.Core.Path.{◌≡◌, refl, sym, ap}
use mathlib.Core.Logic.{◌⊎◌, inl, inr}
use mathlib.Core.Bool.{Bool, false}
use mathlib.Core.List.{List}
use Prim.Native.Nat.{ℕ}
use Rattle.paper.specs.declared.Ty.{Ty}
use Rattle.paper.specs.declared.Ty.TheVariants.{Bool as BOOL, Dint as DINT}
use Rattle.paper.specs.declared.Op.{Op}
use Rattle.paper.specs.Refusals.{Answer, given, ◌>>=◌}
use Rattle.paper.specs.Names as Names
use Rattle.paper.specs.Typing.{type_of, type_in, operand_type}
use Rattle.paper.specs.Plain.{Expr, State, number, truth, read, minus, complement, binary, conversion}
use Rattle.paper.specs.Unwinding.{bracket_of, cell_in, plain_of}
use Rattle.tree.specs.Nodes.{word_of}
use Rattle.tree.specs.Kinds.{operand, expression_of, IsExpression}
use Rattle.tree.specs.declared.kinds.Expression.{Expression}
use Rattle.tree.specs.declared.kinds.Expression.TheVariants.{Nothing, Number, Truth, Variable, Element, Minus, Complement, Brackets, Conversion, Binary}
use Rattle.tree.specs.Trees.{place_at, whole_at, expr_at}

module _ (vs : List Names.Variable) (t p : List ℕ) (i : ℕ) (u : Ty) where
  module _ (env : State) where
    abbrev plain : Answer Expr
    plain = plain_of vs env u (expr_at t p i)

    -- by what the node is
    by_view : (e : Expression) → IsExpression p i e → plain ≡ plain_of vs env u (expression_of p i t e)
    by_view e v = ap (plain_of vs env u) (v.tree t)

    -- ---- leaves

    pub nil_plain : IsExpression p i Nothing → plain ≡ given (truth false)
    unfolding plain_of
    nil_plain v = by_view Nothing v

    pub number_plain : IsExpression p i Number → plain ≡ given (number u (whole_at p i))
    unfolding plain_of
    number_plain v = by_view Number v

    pub truth_plain : (b : Bool) → IsExpression p i (Truth b) → plain ≡ given (truth b)
    unfolding plain_of
    truth_plain b v = by_view (Truth b) v

    abbrev Read : Type 0
    Read = plain ≡ (cell_in vs env (expr_at t p i) >>= λ c. given (read c))

    variable_plain : IsExpression p i Variable → Read
    unfolding plain_of
    variable_plain v = rw (v.tree t) refl

    element_plain : IsExpression p i Element → Read
    unfolding plain_of
    element_plain v = rw (v.tree t) refl

    pub read_plain : (e : Expression) → IsExpression p i e → (e ≡ Variable) ⊎ (e ≡ Element) → Read
    read_plain e v h = elim h [ inl w ↦ variable_plain (rw w at v) | inr w ↦ element_plain (rw w at v) ]

    -- ---- operators

    abbrev one : Ty → Answer Expr
    one v = plain_of vs env v (operand p i t 1)

    pub minus_plain : IsExpression p i Minus → plain ≡ (one u >>= λ x. given (minus (type_in vs u (operand p i t 1)) x))
    unfolding plain_of
    minus_plain v = by_view Minus v

    pub complement_plain : IsExpression p i Complement → plain ≡ (one DINT >>= λ x. given (complement x))
    unfolding plain_of
    complement_plain v = by_view Complement v

    pub brackets_plain : IsExpression p i Brackets → plain ≡ one u
    unfolding plain_of
    brackets_plain v = by_view Brackets v

    pub conversion_plain : (a b : Ty) → IsExpression p i (Conversion a b) → plain ≡ (one a >>= λ x. given (conversion a b x))
    unfolding plain_of
    conversion_plain a b v = by_view (Conversion a b) v

    pub binary_plain : (o : Op) → IsExpression p i (Binary o)
        → plain ≡ (one (operand_type vs u o (operand p i t 1) (operand p i t 2)) >>= λ x. plain_of vs env (operand_type vs u o (operand p i t 1) (operand p i t 2)) (operand p i t 2) >>= λ y. given (binary o (operand_type vs u o (operand p i t 1) (operand p i t 2)) x y))
    unfolding plain_of
    binary_plain o v = by_view (Binary o) v

  -- ---- types

  in_view : (e : Expression) → IsExpression p i e → type_in vs u (expression_of p i t e) ≡ type_in vs u (expr_at t p i)
  in_view e v = sym (ap (type_in vs u) (v.tree t))

  pub nil_in : IsExpression p i Nothing → BOOL ≡ type_in vs u (expr_at t p i)
  unfolding type_of type_in
  nil_in v = in_view Nothing v

  pub number_in : IsExpression p i Number → u ≡ type_in vs u (expr_at t p i)
  unfolding type_of type_in
  number_in v = in_view Number v

  pub truth_in : (b : Bool) → IsExpression p i (Truth b) → BOOL ≡ type_in vs u (expr_at t p i)
  unfolding type_of type_in
  truth_in b v = in_view (Truth b) v

  pub minus_in : IsExpression p i Minus → type_in vs u (operand p i t 1) ≡ type_in vs u (expr_at t p i)
  unfolding type_of type_in
  minus_in v = in_view Minus v

  pub complement_in : IsExpression p i Complement → BOOL ≡ type_in vs u (expr_at t p i)
  unfolding type_of type_in
  complement_in v = in_view Complement v

  pub brackets_in : IsExpression p i Brackets → type_in vs u (operand p i t 1) ≡ type_in vs u (expr_at t p i)
  unfolding type_of type_in
  brackets_in v = in_view Brackets v

  pub conversion_in : (a b : Ty) → IsExpression p i (Conversion a b) → b ≡ type_in vs u (expr_at t p i)
  unfolding type_of type_in
  conversion_in a b v = in_view (Conversion a b) v

-- ---- places

module _ (p : List ℕ) (i : ℕ) where
  pub nil_bracket : IsExpression p i Nothing → (t : List ℕ) → 0 ≡ bracket_of (expr_at t p i)
  nil_bracket v t = sym (ap bracket_of (v.tree t))

  pub element_bracket : IsExpression p i Element → (t : List ℕ) → word_of p i 2 ≡ bracket_of (expr_at t p i)
  element_bracket v t = sym (ap bracket_of (v.tree t))

  pub own_bracket : (e : Expression) → IsExpression p i e → (e ≡ Nothing → ⊥) → (e ≡ Element → ⊥) → (t : List ℕ) → place_at p i ≡ bracket_of (expr_at t p i)
  own_bracket Nothing v n b t = absurd (n refl)
  own_bracket Number v n b t = sym (ap bracket_of (v.tree t))
  own_bracket (Truth x) v n b t = sym (ap bracket_of (v.tree t))
  own_bracket Variable v n b t = sym (ap bracket_of (v.tree t))
  own_bracket Element v n b t = absurd (b refl)
  own_bracket Minus v n b t = sym (ap bracket_of (v.tree t))
  own_bracket Complement v n b t = sym (ap bracket_of (v.tree t))
  own_bracket Brackets v n b t = sym (ap bracket_of (v.tree t))
  own_bracket (Conversion x y) v n b t = sym (ap bracket_of (v.tree t))
  own_bracket (Binary x) v n b t = sym (ap bracket_of (v.tree t))
