-- What a node is by its kind, from the forms of the definitions.
use mathlib.Core.Path.{◌≡◌, refl, sym, ap, ◌∙◌}
use mathlib.Core.Bool.{cond}
use mathlib.Core.List.{List}
use Prim.Native.Nat.{ℕ, zero, suc, ◌+◌, ◌-◌, ◌<◌, ◌≤◌}
use native.Mathlib.Omega.{arith}
use lib.ListN.{get_or, get_or-eq_default}
use borrow.Author.Tests.{ne_eqb}
use Rattle.std.proofs.lemmas.Bool.{cases_lt}
use Rattle.std.proofs.Common.{inl, inr}
use Rattle.std.proofs.Common.{Some, None, slice_get}
use Rattle.std.proofs.lemmas.Option.{get_or_from_slice_get, slice_get_within, slice_get-get_or, none-some}
use Rattle.paper.specs.Source.{Stmts, select}
use Rattle.tree.specs.Nodes.{word_of, kind_of, child_of}
use Rattle.tree.specs.Trees.{place_at, operators, ExprForm, number_form, binary_form, expr_forms, expr_at, FrontForm, front_forms, front_at, ArmsForm, arms_forms, arms_at}
use Rattle.tree.specs.Kinds.{operand, expression_of, operands, IsExpression, statement_of, parts, IsStatement, arms_of, arm_parts, IsArms}
use Rattle.tree.specs.declared.kinds.Expression.{Expression}
use Rattle.tree.specs.declared.kinds.Statement.{Statement}
use Rattle.tree.specs.declared.kinds.Arms.{Arms}
use Rattle.tree.specs.declared.kinds.Expression.TheVariants as E
use Rattle.tree.specs.declared.kinds.Statement.TheVariants as F
use Rattle.tree.specs.declared.kinds.Arms.TheVariants as A
use Rattle.paper.specs.declared.Op.{Op}
use Rattle.paper.specs.declared.Op.TheVariants.{Or}
use Rattle.tree.proofs.Forms.{binary_form_lem}
use Rattle.tree.proofs.Frames.{nil_form, expr_form, expr_nil, skip, front_form, front_nil, no_arms, arms_form, arms_below, arms_nil, child_most}

later : (p : List ℕ) (i : ℕ) → word_of p (suc i) 0 ≡ kind_of p (suc i)
later p i = sym (ap (λ b. cond b 0 (word_of p (suc i) 0)) (ne_eqb (suc i) 0 (λ e. omega (arith, e))))

-- a node of a kind other than 0 is not nil
pub kind_some : (p : List ℕ) (i k : ℕ) → kind_of p i ≡ k → 0 < k → 0 < i
kind_some p zero k e l = absurd (omega (arith, e))
kind_some p (suc i) k e l = omega arith

pub kind_word : (p : List ℕ) (i k : ℕ) → kind_of p i ≡ k → 0 < k → word_of p i 0 ≡ k
kind_word p zero k e l = absurd (omega (arith, e))
kind_word p (suc i) k e l = later p i ∙ e

module _ (p : List ℕ) (i k : ℕ) where
  pub expression_is : (e : Expression) (f : ExprForm) → kind_of p i ≡ k → 0 < k → get_or expr_forms k nil_form ≡ f
      → ((t : List ℕ) → f t p i (operand p i t 1) (operand p i t 2) ≡ expression_of p i t e) → (0 < i → operands p i e)
      → IsExpression p i e
  expression_is e f h l g m s =
      record {
        tree = λ t. expr_form t p i k f (kind_some p i k h l) (kind_word p i k h l) g ∙ m t;
        some = s (kind_some p i k h l);
      }

  pub statement_is : (s : Statement) (f : FrontForm) → 0 < i → word_of p i 0 ≡ k → get_or front_forms (k - 40) skip ≡ f
      → ((t : List ℕ) (l : Stmts) → f t p i (front_at t p) l ≡ statement_of p i t l s) → (0 < i → parts p i s)
      → IsStatement p i s
  statement_is s f l h g m o =
      record { list = λ t j. front_form t p i k f j l h g ∙ m t j; some = o l }

  pub arms_is : (a : Arms) (f : ArmsForm) → 0 < i → word_of p i 0 ≡ k → get_or arms_forms (k - 48) no_arms ≡ f
      → ((t : List ℕ) → f p i (front_at t p) (arms_at t p) ≡ arms_of p i t a) → (0 < i → arm_parts p i a)
      → IsArms p i a
  arms_is a f l h g m o =
      record { list = λ t. arms_form t p i k f l h g ∙ m t; some = o l }

-- a kind that no expression has
pub no_expression : (p : List ℕ) (i k : ℕ) → kind_of p i ≡ k → get_or expr_forms k nil_form ≡ nil_form → IsExpression p i E.Nothing
no_expression p zero k e g = record { tree = λ t. expr_nil t p; some = tt }
no_expression p (suc i) k e g = record { tree = λ t. expr_form t p (suc i) k nil_form (omega arith) (later p i ∙ e) g; some = tt }

pub no_statement : (p : List ℕ) (i : ℕ) → ((0 < i) → get_or front_forms (word_of p i 0 - 40) skip ≡ skip) → IsStatement p i F.Nothing
no_statement p zero g = record { list = λ t k. front_nil t p k; some = tt }
no_statement p (suc i) g =
    record { list = λ t k. front_form t p (suc i) _ skip k (omega arith) refl (g (omega arith)); some = tt }

pub no_more_arms : (p : List ℕ) (i : ℕ) → ((0 < i) → get_or arms_forms (word_of p i 0 - 48) no_arms ≡ no_arms) → IsArms p i A.Nothing
no_more_arms p zero g = record { list = λ t. arms_nil t p; some = tt }
no_more_arms p (suc i) g =
    record { list = λ t. arms_form t p (suc i) _ no_arms (omega arith) refl (g (omega arith)); some = tt }

-- the kinds of numbers, and of operators
pub number_kind : (k : ℕ) → 0 < k → k < 3 → get_or expr_forms k nil_form ≡ number_form
unfolding expr_forms
number_kind (suc zero) l m = refl
number_kind (suc (suc zero)) l m = refl
number_kind zero l m = absurd (omega arith)
number_kind (suc (suc (suc k))) l m = absurd (omega arith)

pub binary_kind : (k : ℕ) (o : Op) → 10 < k → slice_get operators (k - 11) ≡ Some o → get_or expr_forms k nil_form ≡ binary_form o
binary_kind k o l e =
    let n : k ≡ 11 + (k - 11) = omega arith in
    ap (λ j. get_or expr_forms j nil_form) n
    ∙ binary_form_lem (k - 11) (slice_get_within operators (k - 11) o e)
    ∙ ap binary_form (get_or_from_slice_get operators (k - 11) o Or e)

pub other_kind : (k : ℕ) → 10 < k → slice_get operators (k - 11) ≡ None → get_or expr_forms k nil_form ≡ nil_form
unfolding expr_forms
other_kind k l e =
    elim (cases_lt (k - 11) 14) [
      | inl m ↦ absurd (none-some _ (sym e ∙ slice_get-get_or operators (k - 11) Or m))
      | inr m ↦ let a : 25 ≤ k = omega arith in get_or-eq_default expr_forms nil_form a
    ]

-- the arms of a CASE, whatever list stands above them
pub selected : (t p : List ℕ) (i : ℕ) (l : Stmts) → 0 < i
    → get_or front_forms 2 skip t p i (front_at t p) l ≡ statement_of p i t l F.Selection
unfolding front_forms
selected t p i l s =
    ap (λ a. select (place_at p i) (expr_at t p (child_of p i 1)) a l) (arms_below t p i (child_of p i 2) (child_most p i 2))
