-- The faults of an expression's node, from those of its children.
use mathlib.Core.Path.{◌≡◌, refl, ap}
use mathlib.Core.List.{List, ◌++◌}
use Prim.Native.Nat.{ℕ}
use Rattle.std.specs.Prelude.{Option}
use Rattle.std.proofs.Common.{◌⊎◌, inl, inr}
use Rattle.paper.specs.declared.Ty.{Ty}
use Rattle.paper.specs.declared.Op.{Op}
use Rattle.paper.specs.Names.{at, Variable, unknown, assigned}
use Rattle.tree.specs.Nodes.{child_of}
use Rattle.tree.specs.Trees.{place_at}
use Rattle.tree.specs.Kinds.{expression_of, IsExpression}
use Rattle.tree.specs.declared.kinds.Expression.{Expression}
use Rattle.tree.specs.declared.kinds.Expression.TheVariants.{Nothing, Number, Truth, Variable as Name, Element, Minus, Complement, Brackets, Conversion, Binary}
use Rattle.variables.specs.Table.{names_to}
use Rattle.names.specs.Walks.{after, unknown_name, unknown_at, fixed_name, target_at}
use Rattle.names.proofs.After.{stays}

module _ (vs : List Variable) (t p : List ℕ) (i : ℕ) where
  -- by those of what the node is
  unknown_by : (e : Expression) → IsExpression p i e → unknown_at vs t p i ≡ unknown vs (expression_of p i t e)
  unknown_by e v = ap (unknown vs) (v.tree t)

  -- with neither a name nor an operand
  pub leaf_unknown : (best : Option ℕ) (e : Expression) → IsExpression p i e → (e ≡ Name → ⊥) → (e ≡ Element → ⊥) → (e ≡ Minus → ⊥)
      → (e ≡ Complement → ⊥) → (e ≡ Brackets → ⊥) → ((u v : Ty) → e ≡ Conversion u v → ⊥) → ((o : Op) → e ≡ Binary o → ⊥)
      → best ≡ after best (unknown_at vs t p i)
  unfolding unknown
  leaf_unknown best Nothing v l f m n b c o = stays best _ (unknown_by Nothing v)
  leaf_unknown best Number v l f m n b c o = stays best _ (unknown_by Number v)
  leaf_unknown best (Truth x) v l f m n b c o = stays best _ (unknown_by (Truth x) v)
  leaf_unknown best Name v l f m n b c o = absurd (l refl)
  leaf_unknown best Element v l f m n b c o = absurd (f refl)
  leaf_unknown best Minus v l f m n b c o = absurd (m refl)
  leaf_unknown best Complement v l f m n b c o = absurd (n refl)
  leaf_unknown best Brackets v l f m n b c o = absurd (b refl)
  leaf_unknown best (Conversion x y) v l f m n b c o = absurd (c x y refl)
  leaf_unknown best (Binary x) v l f m n b c o = absurd (o x refl)

  pub variable_unknown : IsExpression p i Name → unknown_at vs t p i ≡ unknown_name vs t (place_at p i)
  unfolding unknown
  variable_unknown v = unknown_by Name v

  pub element_unknown : IsExpression p i Element → unknown_at vs t p i ≡ unknown_name vs t (place_at p i) ++ unknown_at vs t p (child_of p i 1)
  unfolding unknown
  element_unknown v = unknown_by Element v

  -- minus, NOT, brackets and conversions have those of their operand
  pub unary_unknown : (e : Expression) → IsExpression p i e
      → (e ≡ Minus) ⊎ ((e ≡ Complement) ⊎ ((e ≡ Brackets) ⊎ ((u : Ty) × (v : Ty) × (e ≡ Conversion u v))))
      → unknown_at vs t p i ≡ unknown_at vs t p (child_of p i 1)
  unfolding unknown
  unary_unknown e v h =
      elim h [
        | inl q ↦ unknown_by Minus (rw q at v)
        | inr h ↦
            elim h [
              | inl q ↦ unknown_by Complement (rw q at v)
              | inr h ↦
                  elim h [
                    | inl q ↦ unknown_by Brackets (rw q at v)
                    | inr q ↦ unknown_by (Conversion q.0 q.1) (rw q.2 at v)
                  ]
            ]
      ]

  pub binary_unknown : (o : Op) → IsExpression p i (Binary o)
      → unknown_at vs t p i ≡ unknown_at vs t p (child_of p i 1) ++ unknown_at vs t p (child_of p i 2)
  unfolding unknown
  binary_unknown o v = unknown_by (Binary o) v

  -- ---- targets

  module _ (ls : List ℕ) (d : ℕ) where
    target_by : (e : Expression) → IsExpression p i e → target_at vs t p ls d i ≡ assigned vs (names_to t ls d) (expression_of p i t e)
    target_by e v = ap (assigned vs (names_to t ls d)) (v.tree t)

    pub named_target : (e : Expression) → IsExpression p i e → (e ≡ Name) ⊎ (e ≡ Element)
        → target_at vs t p ls d i ≡ at (place_at p i) (fixed_name vs t ls d (place_at p i))
    unfolding assigned
    named_target e v h =
        elim h [
          | inl q ↦ target_by Name (rw q at v)
          | inr q ↦ target_by Element (rw q at v)
        ]

    pub no_target : (best : Option ℕ) (e : Expression) → IsExpression p i e → (e ≡ Name → ⊥) → (e ≡ Element → ⊥)
        → best ≡ after best (target_at vs t p ls d i)
    unfolding assigned
    no_target best Nothing v n l = stays best _ (target_by Nothing v)
    no_target best Number v n l = stays best _ (target_by Number v)
    no_target best (Truth x) v n l = stays best _ (target_by (Truth x) v)
    no_target best Name v n l = absurd (n refl)
    no_target best Element v n l = absurd (l refl)
    no_target best Minus v n l = stays best _ (target_by Minus v)
    no_target best Complement v n l = stays best _ (target_by Complement v)
    no_target best Brackets v n l = stays best _ (target_by Brackets v)
    no_target best (Conversion x y) v n l = stays best _ (target_by (Conversion x y) v)
    no_target best (Binary x) v n l = stays best _ (target_by (Binary x) v)
