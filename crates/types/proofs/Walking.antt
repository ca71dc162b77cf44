-- The judgement of a node, by what it is.
use mathlib.Core.Path.{◌≡◌, refl, sym, subst}
use mathlib.Core.Bool.{Bool}
use mathlib.Core.Logic.{◌⊎◌, inl, inr}
use mathlib.Core.List.{List}
use Prim.Native.Nat.{ℕ}
use Rattle.paper.specs.declared.Ty.{Ty}
use Rattle.paper.specs.declared.Ty.TheVariants.{Bool as BOOL}
use Rattle.paper.specs.declared.Op.{Op}
use Rattle.paper.specs.Names.{Variable}
use Rattle.paper.specs.Typing as T
use Rattle.tree.specs.Nodes.{child_of}
use Rattle.tree.specs.Trees.{name_at, place_at}
use Rattle.tree.specs.Kinds.{operand, expression_of, IsExpression}
use Rattle.tree.specs.declared.kinds.Expression.{Expression}
use Rattle.tree.specs.declared.kinds.Expression.TheVariants as E
use Rattle.types.specs.declared.parts.Judged.{Judged}
use Rattle.types.specs.declared.parts.Judged.TheVariants.{Typed, Numbers}
use Rattle.types.specs.Says.{Says, JudgedAt, around}
use Rattle.types.specs.Joins.{ElementAs, NegatedAs, ComplementAs, ConvertedAs, JoinedAs}

module _ (vs : List Variable) (t loops p : List ℕ) (i : ℕ) where
  by_view : (e : Expression) → IsExpression p i e → (r : Judged) → Says r (T.judged vs (around t loops) (expression_of p i t e)) → JudgedAt vs t loops p i r
  by_view e v r h = subst (λ x. Says r (T.judged vs (around t loops) x)) (sym (v.tree t)) h

  -- ---- what has no parts

  pub walk_number : IsExpression p i E.Number → JudgedAt vs t loops p i Numbers
  unfolding T.judged
  walk_number v = by_view E.Number v Numbers tt

  pub walk_other : (e : Expression) → IsExpression p i e → (e ≡ E.Nothing) ⊎ ((b : Bool) × (e ≡ E.Truth b)) → JudgedAt vs t loops p i (Typed BOOL)
  unfolding T.judged
  walk_other e v h = elim h [ inl q ↦ by_view E.Nothing (rw q at v) (Typed BOOL) refl | inr q ↦ by_view (E.Truth q.0) (rw q.1 at v) (Typed BOOL) refl ]

  module _ (r : Judged) where
    pub walk_name : IsExpression p i E.Variable → Says r (T.of_name vs (place_at p i) (name_at t (place_at p i))) → JudgedAt vs t loops p i r
    unfolding T.judged
    walk_name v s = by_view E.Variable v r s

    -- ---- from the judgements of its parts

    module _ (x : Judged) (first : JudgedAt vs t loops p (child_of p i 1) x) where
      abbrev judgement : ℕ → T.Judged
      judgement k = T.judged vs (around t loops) (operand p i t k)

      pub walk_element : IsExpression p i E.Element → ElementAs vs t loops p i x r → JudgedAt vs t loops p i r
      unfolding T.judged
      walk_element v s = by_view E.Element v r (s (judgement 1) first)

      pub walk_minus : IsExpression p i E.Minus → NegatedAs (place_at p i) x r → JudgedAt vs t loops p i r
      unfolding T.judged
      walk_minus v s = by_view E.Minus v r (s (judgement 1) first)

      pub walk_complement : IsExpression p i E.Complement → ComplementAs p i x r → JudgedAt vs t loops p i r
      unfolding T.judged
      walk_complement v s = by_view E.Complement v r (s t (judgement 1) first)

      pub walk_conversion : (u w : Ty) → IsExpression p i (E.Conversion u w) → ConvertedAs p i u w x r → JudgedAt vs t loops p i r
      unfolding T.judged
      walk_conversion u w v s = by_view (E.Conversion u w) v r (s t (judgement 1) first)

      pub walk_binary : (o : Op) → IsExpression p i (E.Binary o) → (y : Judged) → JudgedAt vs t loops p (child_of p i 2) y → JoinedAs p i o x y r
          → JudgedAt vs t loops p i r
      unfolding T.judged
      walk_binary o v y second s = by_view (E.Binary o) v r (s t (judgement 1) (judgement 2) first second)

    pub walk_brackets : IsExpression p i E.Brackets → JudgedAt vs t loops p (child_of p i 1) r → JudgedAt vs t loops p i r
    unfolding T.judged
    walk_brackets v first = by_view E.Brackets v r first

pub ruleset walks = (walk_number, walk_other, walk_brackets)
