-- The expression of a node, by its kind.
use mathlib.Core.Path.{◌≡◌, refl, sym, ap, ◌∙◌}
use mathlib.Core.Bool.{true, false}
use mathlib.Core.List.{List}
use Prim.Native.Nat.{ℕ, zero, suc, ◌+◌, ◌-◌, ◌/◌, ◌%◌, ◌<◌}
use native.Mathlib.Omega.{arith}
use borrow.Author.Tests.{ne_eqb}
use lib.Dec.{eqb}
use lib.ListN.{get_or, get_or-eq_default}
use Rattle.paper.specs.declared.Ty.TheVariants.{Bool as BOOL}
use Rattle.paper.specs.declared.Op.TheVariants.{Or}
use Rattle.paper.specs.Plain.{number, truth, read, minus, complement, binary, conversion}
use Rattle.tree.specs.Nodes.{word_of, kind_of, child_of}
use Rattle.tree.specs.Trees.{types, operators, whole_at}
use Rattle.plain.specs.Flat.{type_at, cell_at, ExprForm, nil_form, number_form, expr_forms, expr_at}
use Rattle.plain.proofs.Frames.{expr_form, expr_nil}
use Rattle.plain.proofs.Forms.{number_form_lem, binary_form_lem}

-- from the form that the kind picks
pub by_kind : (q : List ℕ) (i w : ℕ) → w ≡ kind_of q i → expr_at q i ≡ get_or expr_forms w nil_form q i (expr_at q (child_of q i 1)) (expr_at q (child_of q i 2))
unfolding expr_forms
by_kind q zero w e = expr_nil q ∙ rw e
by_kind q (suc i) w e =
    let some : eqb (suc i) 0 ≡ false = ne_eqb (suc i) 0 (λ d. omega arith) in
    expr_form q (suc i) w _ (omega arith) (sym (rw some at e)) refl

-- nil has no kind
pub some_node : (q : List ℕ) (i w : ℕ) → w ≡ kind_of q i → 0 < w → 0 < i
some_node q zero w e l = absurd (omega arith)
some_node q (suc i) w e l = omega arith

-- a kind that stands for no expression is FALSE
false_form : (w : ℕ) → (w ≡ 1 → ⊥) → (w ≡ 2 → ⊥) → (w ≡ 4 → ⊥) → (w ≡ 5 → ⊥) → (6 < w → (w ≡ 9 → ⊥) → 24 < w)
    → get_or expr_forms w nil_form ≡ nil_form
unfolding expr_forms
false_form zero a b c d h = refl
false_form (suc zero) a b c d h = absurd (a refl)
false_form (suc (suc zero)) a b c d h = absurd (b refl)
false_form (suc (suc (suc zero))) a b c d h = refl
false_form (suc (suc (suc (suc zero)))) a b c d h = absurd (c refl)
false_form (suc (suc (suc (suc (suc zero))))) a b c d h = absurd (d refl)
false_form (suc (suc (suc (suc (suc (suc zero)))))) a b c d h = refl
false_form (suc (suc (suc (suc (suc (suc (suc zero))))))) a b c d h =
    let l : 24 < 7 = h (omega arith) (λ e. omega arith) in
    absurd (omega arith)
false_form (suc (suc (suc (suc (suc (suc (suc (suc zero)))))))) a b c d h =
    let l : 24 < 8 = h (omega arith) (λ e. omega arith) in
    absurd (omega arith)
false_form (suc (suc (suc (suc (suc (suc (suc (suc (suc zero))))))))) a b c d h = refl
false_form (suc (suc (suc (suc (suc (suc (suc (suc (suc (suc w)))))))))) a b c d h =
    get_or-eq_default expr_forms nil_form (h (omega arith) (λ e. omega arith))

module _ (q : List ℕ) (i w : ℕ) (is : w ≡ kind_of q i) where
  by_form : (f : ExprForm) → get_or expr_forms w nil_form ≡ f → expr_at q i ≡ f q i (expr_at q (child_of q i 1)) (expr_at q (child_of q i 2))
  by_form f e = by_kind q i w is ∙ ap (λ g. g q i (expr_at q (child_of q i 1)) (expr_at q (child_of q i 2))) e

  pub at_number : 0 < w → w < 3 → expr_at q i ≡ number (type_at q i) (whole_at q i)
  at_number l m = by_form number_form (number_form_lem w l m)

  pub at_true : w ≡ 4 → expr_at q i ≡ truth true
  unfolding expr_forms
  at_true e = by_form _ (ap (λ v. get_or expr_forms v nil_form) e)

  pub at_false : (w ≡ 1 → ⊥) → (w ≡ 2 → ⊥) → (w ≡ 4 → ⊥) → (w ≡ 5 → ⊥) → (6 < w → (w ≡ 9 → ⊥) → 24 < w) → expr_at q i ≡ truth false
  at_false a b c d h = by_form nil_form (false_form w a b c d h)

  pub at_read : w ≡ 5 → expr_at q i ≡ read (cell_at q i)
  unfolding expr_forms
  at_read e = by_form _ (ap (λ v. get_or expr_forms v nil_form) e)

  pub at_minus : w ≡ 7 → expr_at q i ≡ minus (type_at q i) (expr_at q (child_of q i 1))
  unfolding expr_forms
  at_minus e = by_form _ (ap (λ v. get_or expr_forms v nil_form) e)

  pub at_complement : w ≡ 8 → expr_at q i ≡ complement (expr_at q (child_of q i 1))
  unfolding expr_forms
  at_complement e = by_form _ (ap (λ v. get_or expr_forms v nil_form) e)

  pub at_conversion : w ≡ 10
      → expr_at q i ≡ conversion (get_or types (word_of q i 2 / 8) BOOL) (get_or types (word_of q i 2 % 8) BOOL) (expr_at q (child_of q i 1))
  unfolding expr_forms
  at_conversion e = by_form _ (ap (λ v. get_or expr_forms v nil_form) e)

  pub at_binary : 10 < w → w < 25
      → expr_at q i ≡ binary (get_or operators (w - 11) Or) (type_at q i) (expr_at q (child_of q i 1)) (expr_at q (child_of q i 2))
  at_binary l m =
      let e : w ≡ 11 + (w - 11) = omega arith in
      by_form _ (ap (λ v. get_or expr_forms v nil_form) e ∙ binary_form_lem (w - 11) (omega arith))
