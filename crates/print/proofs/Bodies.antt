-- Lists, by what their nodes are.
use mathlib.Core.Path.{◌≡◌, refl, ap, ◌∙◌}
use mathlib.Core.Bool.{◌&&◌}
use mathlib.Core.List.{List, ◌++◌, append_assoc}
use Prim.Native.Nat.{ℕ}
use Rattle.paper.specs.declared.Ty.{Ty}
use Rattle.paper.specs.Words.{type_name, conversion_name}
use Rattle.paper.specs.Names.{Variable}
use Rattle.paper.specs.Plain.{Stmts, done, assign, choice, ◌⨾◌}
use Rattle.paper.specs.Printing as P
use Rattle.tree.specs.Nodes.{word_of, child_of}
use Rattle.plain.specs.Flat.{expr_at, list_at}
use Rattle.plain.specs.Kinds.{IsStatement}
use Rattle.plain.specs.declared.kinds.Statement.TheVariants as F
use Rattle.print.specs.Parts.{is_done, if_empty, if_else}

-- ---- expressions

-- a conversion's name and its bracket
pub conversion_opens : (t u : Ty) (k : List ℕ) → conversion_name t u ++ P.put "(" k ≡ type_name t ++ P.put "_TO_" (type_name u ++ P.put "(" k)
unfolding conversion_name
conversion_opens t u k = simp append_assoc

-- ---- lists

pub done_join : (a b : Stmts) → is_done (a ⨾ b) ≡ (is_done a && is_done b)
unfolding ◌⨾◌
done_join done b = refl
done_join (assign c e r) b = refl
done_join (choice c x y r) b = refl

module _ (vs : List Variable) where
  statements_join : (a b : Stmts) (k : List ℕ) → P.statements vs (a ⨾ b) k ≡ P.statements vs a (P.statements vs b k)
  unfolding ◌⨾◌ P.statements
  statements_join done b k = refl
  statements_join (assign c e r) b k = rw (statements_join r b k)
  statements_join (choice c x y r) b k = rw (statements_join r b k)

  or_empty_lem : (a : Stmts) (k : List ℕ) → P.or_empty a k (P.statements vs a k) ≡ P.statements vs a (if_empty a k)
  unfolding P.statements
  or_empty_lem done k = refl
  or_empty_lem (assign c e r) k = refl
  or_empty_lem (choice c x y r) k = refl

  else_of_lem : (b : Stmts) (k : List ℕ) → P.else_of b k (P.statements vs b k) ≡ if_else b (P.statements vs b k)
  unfolding P.statements
  else_of_lem done k = refl
  else_of_lem (assign c e r) k = refl
  else_of_lem (choice c x y r) k = refl

  module _ (q : List ℕ) (i : ℕ) (k : List ℕ) where
    pub none_at : IsStatement q i F.Nothing → P.statements vs (list_at q i) k ≡ k
    unfolding P.statements
    none_at s = ap (λ p. P.statements vs p k) s.list

    pub assign_at_lem : IsStatement q i F.Assignment
        → P.statements vs (list_at q i) k ≡ P.cell vs (word_of q i 1) (P.put " := " (P.expression vs (expr_at q (child_of q i 2)) (P.line ";" k)))
    unfolding P.statements
    assign_at_lem s = ap (λ p. P.statements vs p k) s.list

    pub both_at : IsStatement q i F.List
        → P.statements vs (list_at q i) k ≡ P.statements vs (list_at q (child_of q i 1)) (P.statements vs (list_at q (child_of q i 2)) k)
    both_at s = ap (λ p. P.statements vs p k) s.list ∙ statements_join (list_at q (child_of q i 1)) (list_at q (child_of q i 2)) k

    pub choice_at : IsStatement q i F.Choice → P.statements vs (list_at q i) k
        ≡ P.put "IF " (P.expression vs (expr_at q (child_of q i 1)) (P.line " THEN" (P.statements vs (list_at q (child_of q i 2))
        (if_empty (list_at q (child_of q i 2)) (if_else (list_at q (child_of q i 3)) (P.statements vs (list_at q (child_of q i 3)) (P.line "END_IF;" k)))))))
    unfolding P.statements
    choice_at s =
        let a = list_at q (child_of q i 2) in
        let b = list_at q (child_of q i 3) in
        let f : List ℕ → List ℕ = λ x. P.put "IF " (P.expression vs (expr_at q (child_of q i 1)) (P.line " THEN" x)) in
        ap (λ p. P.statements vs p k) s.list
        ∙ ap f (or_empty_lem a (P.else_of b (P.line "END_IF;" k) (P.statements vs b (P.line "END_IF;" k)))
        ∙ ap (λ x. P.statements vs a (if_empty a x)) (else_of_lem b (P.line "END_IF;" k)))

  pub whole_list : (p : Stmts) (k : List ℕ) → P.or_empty p k (P.statements vs p k) ≡ P.statements vs p (if_empty p k)
  whole_list = or_empty_lem
