-- The value of the expression of a node, by what the node is.
use mathlib.Core.Path.{◌≡◌, sym, ap, ap₂, ◌∙◌}
use mathlib.Core.List.{List}
use Prim.Native.Nat.{ℕ}
use lib.IntN.{ℤ}
use Rattle.paper.specs.declared.Ty.{Ty}
use Rattle.paper.specs.Types.{encode}
use Rattle.paper.specs.Plain.{State, value_of}
use Rattle.tree.specs.Trees.{whole_at}
use Rattle.plain.specs.Flat.{type_at, expr_at}
use Rattle.plain.specs.Kinds.{expression_of, IsExpression}
use Rattle.plain.specs.declared.kinds.Expression.{Expression}
use Rattle.plain.specs.declared.kinds.Expression.TheVariants.{Number}

pub by_view : (s : State) (p : List ℕ) (i r : ℕ) (e : Expression) → IsExpression p i e → r ≡ value_of s (expression_of p i e) → r ≡ value_of s (expr_at p i)
by_view s p i r e v h = h ∙ sym (ap (value_of s) v.tree)

-- a number by its type and its value
pub number_seen : (s : State) (p : List ℕ) (i r : ℕ) (t : Ty) (z : ℤ) → IsExpression p i Number → r ≡ encode t z → t ≡ type_at p i → z ≡ whole_at p i
    → r ≡ value_of s (expr_at p i)
unfolding value_of
number_seen s p i r t z v h e f = by_view s p i r Number v (h ∙ ap₂ encode e f)
