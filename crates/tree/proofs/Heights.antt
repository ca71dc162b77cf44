-- The height of a node, from those of its children.
use mathlib.Core.Path.{◌≡◌, refl, sym, ap, ◌∙◌}
use mathlib.Core.List.{List}
use Prim.Native.Nat.{ℕ, suc, ◌+◌, ◌≤◌, ◌<◌, max}
use native.Mathlib.Omega.{arith}
use Rattle.std.proofs.Common.{◌⊎◌, inl, inr}
use Rattle.paper.specs.declared.Ty.{Ty}
use Rattle.paper.specs.declared.Op.{Op}
use Rattle.paper.specs.Heights.{height}
use Rattle.tree.specs.Nodes.{child_of}
use Rattle.tree.specs.Trees.{IsHeight}
use Rattle.tree.specs.Kinds.{operand, expression_of, IsExpression}
use Rattle.tree.specs.declared.kinds.Expression.{Expression}
use Rattle.tree.specs.declared.kinds.Expression.TheVariants.{Nothing, Number, Truth, Variable, Element, Minus, Complement, Brackets, Conversion, Binary}
use Rattle.tree.proofs.Decodes.{child_less}

module _ (p : List ℕ) (i : ℕ) where
  by_view : (e : Expression) (r : ℕ) → IsExpression p i e → r ≤ i + 1 → ((t : List ℕ) → r ≡ height (expression_of p i t e)) → IsHeight p i r
  by_view e r v l h = record { height = λ t. h t ∙ sym (ap height (v.tree t)); low = l }

  -- without operands
  pub leaf_height : (e : Expression) → IsExpression p i e → (e ≡ Minus → ⊥) → (e ≡ Complement → ⊥) → (e ≡ Brackets → ⊥)
      → ((u v : Ty) → e ≡ Conversion u v → ⊥) → ((o : Op) → e ≡ Binary o → ⊥) → IsHeight p i 1
  unfolding height
  leaf_height Nothing v m n b c o = by_view Nothing 1 v (omega arith) (λ t. refl)
  leaf_height Number v m n b c o = by_view Number 1 v (omega arith) (λ t. refl)
  leaf_height (Truth x) v m n b c o = by_view (Truth x) 1 v (omega arith) (λ t. refl)
  leaf_height Variable v m n b c o = by_view Variable 1 v (omega arith) (λ t. refl)
  leaf_height Element v m n b c o = by_view Element 1 v (omega arith) (λ t. refl)
  leaf_height Minus v m n b c o = absurd (m refl)
  leaf_height Complement v m n b c o = absurd (n refl)
  leaf_height Brackets v m n b c o = absurd (b refl)
  leaf_height (Conversion x y) v m n b c o = absurd (c x y refl)
  leaf_height (Binary x) v m n b c o = absurd (o x refl)

  module _ (a : ℕ) (first : IsHeight p (child_of p i 1) a) where
    pub brackets_height : IsExpression p i Brackets → IsHeight p i a
    unfolding height
    brackets_height v = by_view Brackets a v (omega (arith, child_less p i 1 v.some, first.low)) first.height

    adds : (e : Expression) → 0 < i → IsExpression p i e → ((t : List ℕ) → height (expression_of p i t e) ≡ suc (height (operand p i t 1)))
        → IsHeight p i (a + 1)
    adds e some v h =
        by_view e (a + 1) v (omega (arith, child_less p i 1 some, first.low)) (λ t. rw (h t, ← first.height t) (omega arith))

    -- minus, NOT and a conversion
    pub unary_height : (e : Expression) → IsExpression p i e
        → (e ≡ Minus) ⊎ ((e ≡ Complement) ⊎ ((u : Ty) × (v : Ty) × (e ≡ Conversion u v))) → IsHeight p i (a + 1)
    unfolding height
    unary_height e v h =
        elim h [
          | inl q ↦ let w = rw q at v in adds Minus w.some w (λ t. refl)
          | inr k ↦
              elim k [
                | inl q ↦ let w = rw q at v in adds Complement w.some w (λ t. refl)
                | inr q ↦ let w = rw q.2 at v in adds (Conversion q.0 q.1) w.some w (λ t. refl)
              ]
        ]

    pub binary_height : (o : Op) (b r : ℕ) → IsExpression p i (Binary o) → IsHeight p (child_of p i 2) b → r ≡ max a b + 1 → IsHeight p i r
    unfolding height
    binary_height o b r v second e =
        by_view (Binary o) r v (omega (arith, child_less p i 1 v.some, child_less p i 2 v.some, first.low, second.low))
        (λ t. rw (← first.height t, ← second.height t) (omega arith))
