-- The first word of the expression of a node, by what the node is.
use mathlib.Core.Path.{◌≡◌, refl, sym, ap}
use mathlib.Core.List.{List}
use Prim.Native.Nat.{ℕ}
use Rattle.paper.specs.declared.Op.{Op}
use Rattle.paper.specs.Heights.{first_word}
use Rattle.tree.specs.Trees.{place_at, expr_at}
use Rattle.tree.specs.Kinds.{operand, IsExpression}
use Rattle.tree.specs.declared.kinds.Expression.{Expression}
use Rattle.tree.specs.declared.kinds.Expression.TheVariants.{Nothing, Number, Truth, Variable, Element, Minus, Complement, Brackets, Conversion, Binary}

module _ (p : List ℕ) (i : ℕ) where
  pub own_word : (e : Expression) → IsExpression p i e → (e ≡ Nothing → ⊥) → ((o : Op) → e ≡ Binary o → ⊥) → (t : List ℕ)
      → place_at p i ≡ first_word (expr_at t p i)
  unfolding first_word
  own_word Nothing v n b t = absurd (n refl)
  own_word Number v n b t = sym (ap first_word (v.tree t))
  own_word (Truth x) v n b t = sym (ap first_word (v.tree t))
  own_word Variable v n b t = sym (ap first_word (v.tree t))
  own_word Element v n b t = sym (ap first_word (v.tree t))
  own_word Minus v n b t = sym (ap first_word (v.tree t))
  own_word Complement v n b t = sym (ap first_word (v.tree t))
  own_word Brackets v n b t = sym (ap first_word (v.tree t))
  own_word (Conversion x y) v n b t = sym (ap first_word (v.tree t))
  own_word (Binary x) v n b t = absurd (b x refl)

  pub no_word : IsExpression p i Nothing → (t : List ℕ) → 0 ≡ first_word (expr_at t p i)
  unfolding first_word
  no_word v t = sym (ap first_word (v.tree t))

  pub left_word : (o : Op) → IsExpression p i (Binary o) → (t : List ℕ) → first_word (operand p i t 1) ≡ first_word (expr_at t p i)
  unfolding first_word
  left_word o v t = sym (ap first_word (v.tree t))
