-- The faults of the expression of a node, from those of its children.
use mathlib.Core.Path.{◌≡◌, refl, sym, ap}
use mathlib.Core.List.{List, []}
use Prim.Native.Nat.{ℕ}
use Rattle.std.specs.Prelude.{Option}
use Rattle.std.proofs.Common.{◌⊎◌, inl, inr}
use Rattle.paper.specs.declared.Ty.{Ty}
use Rattle.paper.specs.declared.Op.{Op}
use Rattle.paper.specs.Heights.{subscripts}
use Rattle.tree.specs.Trees.{expr_at}
use Rattle.tree.specs.Kinds.{operand, expression_of, IsExpression}
use Rattle.tree.specs.declared.kinds.Expression.{Expression}
use Rattle.tree.specs.declared.kinds.Expression.TheVariants.{Nothing, Number, Truth, Variable, Element, Minus, Complement, Brackets, Conversion, Binary}
use Rattle.heights.specs.Measured.{With, itself}
use Rattle.heights.proofs.Withs.{with_same, with_none, with_then, with_turned}

module _ (p : List ℕ) (i : ℕ) where
  -- ---- subscripts

  -- by those of what the node is
  by_view : (best r : Option ℕ) (e : Expression) → IsExpression p i e → With best r (λ t. subscripts (expression_of p i t e))
      → With best r (λ t. subscripts (expr_at t p i))
  by_view best r e v h = with_same best r _ _ h (λ t. ap subscripts (v.tree t))

  bare : (best : Option ℕ) (e : Expression) → IsExpression p i e → ((t : List ℕ) → subscripts (expression_of p i t e) ≡ [])
      → With best best (λ t. subscripts (expr_at t p i))
  bare best e v h = by_view best best e v (with_none best _ h)

  module _ (best : Option ℕ) where
    -- without operands
    pub leaf_subscripts : (e : Expression) → IsExpression p i e → (e ≡ Element → ⊥) → (e ≡ Minus → ⊥) → (e ≡ Complement → ⊥)
        → (e ≡ Brackets → ⊥) → ((u v : Ty) → e ≡ Conversion u v → ⊥) → ((o : Op) → e ≡ Binary o → ⊥)
        → With best best (λ t. subscripts (expr_at t p i))
    unfolding subscripts
    leaf_subscripts Nothing v l m n b c o = bare best Nothing v (λ t. refl)
    leaf_subscripts Number v l m n b c o = bare best Number v (λ t. refl)
    leaf_subscripts (Truth x) v l m n b c o = bare best (Truth x) v (λ t. refl)
    leaf_subscripts Variable v l m n b c o = bare best Variable v (λ t. refl)
    leaf_subscripts Element v l m n b c o = absurd (l refl)
    leaf_subscripts Minus v l m n b c o = absurd (m refl)
    leaf_subscripts Complement v l m n b c o = absurd (n refl)
    leaf_subscripts Brackets v l m n b c o = absurd (b refl)
    leaf_subscripts (Conversion x y) v l m n b c o = absurd (c x y refl)
    leaf_subscripts (Binary x) v l m n b c o = absurd (o x refl)

    module _ (r : Option ℕ) where
      -- minus, NOT, brackets and conversions have those of their operand
      pub unary_subscripts : (e : Expression) → IsExpression p i e
          → (e ≡ Minus) ⊎ ((e ≡ Complement) ⊎ ((e ≡ Brackets) ⊎ ((u : Ty) × (v : Ty) × (e ≡ Conversion u v))))
          → With best r (λ t. subscripts (operand p i t 1)) → With best r (λ t. subscripts (expr_at t p i))
      unfolding subscripts
      unary_subscripts e v h k =
          elim h [
            | inl q ↦ by_view best r Minus (rw q at v) k
            | inr h ↦
                elim h [
                  | inl q ↦ by_view best r Complement (rw q at v) k
                  | inr h ↦
                      elim h [
                        | inl q ↦ by_view best r Brackets (rw q at v) k
                        | inr q ↦ by_view best r (Conversion q.0 q.1) (rw q.2 at v) k
                      ]
                ]
          ]

      -- a subscript by itself, and those in it
      pub element_subscripts : (x : Option ℕ) → IsExpression p i Element → With best x (λ t. itself (operand p i t 1))
          → With x r (λ t. subscripts (operand p i t 1)) → With best r (λ t. subscripts (expr_at t p i))
      unfolding subscripts
      element_subscripts x v h k = by_view best r Element v (with_then best x r _ _ h k)

      pub binary_subscripts : (o : Op) (x : Option ℕ) → IsExpression p i (Binary o) → With best x (λ t. subscripts (operand p i t 2))
          → With x r (λ t. subscripts (operand p i t 1)) → With best r (λ t. subscripts (expr_at t p i))
      unfolding subscripts
      binary_subscripts o x v h k =
          by_view best r (Binary o) v
          (with_turned best r (λ t. subscripts (operand p i t 2)) (λ t. subscripts (operand p i t 1)) (with_then best x r _ _ h k))
