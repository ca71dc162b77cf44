-- A decode of ST0 takes one step at a node, and depends on the nodes up to its own only.
use mathlib.Core.Path.{◌≡◌, refl, ap, ap₂, ◌∙◌, fun_ext}
use mathlib.Core.List.{List}
use Prim.Native.Nat.{ℕ, suc, ◌-◌, ◌/◌, ◌%◌, ◌<◌}
use native.Mathlib.Omega.{arith}
use lib.ListN.{get_or}
use Rattle.paper.specs.declared.Ty.{Ty}
use Rattle.paper.specs.declared.Ty.TheVariants.{Bool as BOOL}
use Rattle.paper.specs.Plain.{Expr, number, read, minus, binary, conversion, Stmts}
use Rattle.tree.specs.Nodes.{word_of, child_of, Same}
use Rattle.tree.specs.Trees.{types, operators}
use Rattle.tree.proofs.Decodes.{Framed, word_same, first_same, second_same, stepped, Local, Decode, decode_node, decode_same, kid_same, All, none, ◌&◌, each, all_map}
use Rattle.tree.proofs.Frames.{whole_same}
use Rattle.plain.specs.Flat.{type_at, ExprForm, nil, nil_form, number_form, binary_form, expr_forms, expr_from, expr_at, FrontForm, skip, front_forms, front_from, front_at}

-- ---- expressions

abbrev pub expr_step : List ℕ → ℕ → (ℕ → Expr) → Expr
expr_step p i sub = get_or expr_forms (word_of p i 0) nil_form p i (sub (child_of p i 1)) (sub (child_of p i 2))

abbrev FramedForm : ExprForm → Type 0
FramedForm f = (x y : Expr) → Framed (λ p i. f p i x y)

-- a form that reads one word of its node
worded : (k : ℕ) → k < 4 → (f : ℕ → Expr → Expr → Expr) → FramedForm (λ p i x y. f (word_of p i k) x y)
worded k b f x y old new n i h l = ap (λ w. f w x y) (word_same k b old new n i h l)

-- a form that reads the type in word 3
typed : (f : Ty → Expr → Expr → Expr) → FramedForm (λ p i x y. f (type_at p i) x y)
typed f = worded 3 (omega arith) (λ w. f (get_or types w BOOL))

number_framed : FramedForm number_form
number_framed x y old new n i h l =
    ap₂ number (ap (λ w. get_or types w BOOL) (word_same 3 (omega arith) old new n i h l)) (whole_same old new n i h l)

nil_framed : FramedForm nil_form
nil_framed x y old new n i h l = refl

exprs_framed : All FramedForm expr_forms
unfolding expr_forms
exprs_framed =
    nil_framed
    & number_framed
    & number_framed
    & nil_framed
    & (λ x y old new n i h l. refl)
    & worded 1 (omega arith) (λ w x y. read (record { 0 = w }))
    & nil_framed
    & typed (λ t x y. minus t x)
    & (λ x y old new n i h l. refl)
    & nil_framed
    & worded 2 (omega arith) (λ w x y. conversion (get_or types (w / 8) BOOL) (get_or types (w % 8) BOOL) x)
    & all_map FramedForm binary_form (λ o. typed (binary o)) operators

expr_local : Local expr_step
expr_local old new i x y s h e =
    ap₂ (get_or expr_forms (word_of new i 0) nil_form new i)
    (kid_same old new i x y e h s 1 (omega arith))
    (kid_same old new i x y e h s 2 (omega arith))
    ∙ ap (λ w. get_or expr_forms w nil_form new i (x (child_of old i 1)) (x (child_of old i 2)))
    (word_same 0 (omega arith) old new i i h (omega arith))
    ∙ each FramedForm nil_form nil_framed expr_forms exprs_framed (word_of old i 0) _ _ old new i i h (omega arith)

expr_decode : Decode expr_from expr_step
unfolding expr_from
expr_decode =
    record {
      last = nil;
      out = λ p i. refl;
      end = λ f p. refl;
      more = λ f p i. refl;
      local = expr_local;
    }

pub expr_node : (p : List ℕ) (i : ℕ) → expr_at p (suc i) ≡ expr_step p (suc i) (expr_at p)
unfolding expr_at
expr_node p i = decode_node expr_decode p i

-- where the form that the kind picks is known
pub expr_form : (p : List ℕ) (i w : ℕ) (f : ExprForm) → 0 < i → word_of p i 0 ≡ w → get_or expr_forms w nil_form ≡ f
    → expr_at p i ≡ f p i (expr_at p (child_of p i 1)) (expr_at p (child_of p i 2))
expr_form p i w f s k e =
    stepped (expr_at p) (λ j. expr_step p j (expr_at p)) (expr_node p) i s
    ∙ ap (λ g. g p i (expr_at p (child_of p i 1)) (expr_at p (child_of p i 2))) (ap (λ v. get_or expr_forms v nil_form) k ∙ e)

pub expr_same : Framed expr_at
unfolding expr_at
expr_same = decode_same expr_decode

pub expr_nil : (p : List ℕ) → expr_at p 0 ≡ nil
unfolding expr_at expr_from
expr_nil p = refl

-- ---- statements

abbrev pub front_step : List ℕ → ℕ → (ℕ → Stmts → Stmts) → Stmts → Stmts
front_step p i sub k = get_or front_forms (word_of p i 0 - 40) skip p i sub k

module _ (old new : List ℕ) (i : ℕ) (x y : ℕ → Stmts → Stmts) (s : 0 < i) (h : Same i old new) (e : (j : ℕ) → j < i → y j ≡ x j) where
  abbrev Kept : FrontForm → Type 0
  Kept f = f new i y ≡ f old i x

  here : {X : Type 0} (f : List ℕ → ℕ → X) → Framed f → f new i ≡ f old i
  here f g = g old new i i h (omega arith)

  -- the list of a child
  sub : (k : ℕ) → k < 4 → y (child_of new i k) ≡ x (child_of old i k)
  sub k b = kid_same old new i x y e h s k b

  assign_local : Kept (get_or front_forms 0 skip)
  unfolding front_forms
  assign_local = fun_ext (λ k. rw (here _ (second_same expr_at expr_same), here _ (word_same 1 (omega arith))))

  choice_local : Kept (get_or front_forms 1 skip)
  unfolding front_forms
  choice_local = fun_ext (λ k. rw (here _ (first_same expr_at expr_same), sub 2 (omega arith), sub 3 (omega arith)))

  list_local : Kept (get_or front_forms 4 skip)
  unfolding front_forms
  list_local = fun_ext (λ k. rw (sub 1 (omega arith), sub 2 (omega arith)))

  skip_local : Kept skip
  skip_local = refl

fronts_local : All Local front_forms
unfolding front_forms
fronts_local =
    assign_local
    & choice_local
    & skip_local
    & skip_local
    & list_local
    & none

front_local : Local front_step
front_local old new i x y s h e =
    ap (λ w. get_or front_forms (w - 40) skip new i y) (word_same 0 (omega arith) old new i i h (omega arith))
    ∙ each Local skip skip_local front_forms fronts_local (word_of old i 0 - 40) old new i x y s h e

front_decode : Decode front_from front_step
unfolding front_from
front_decode =
    record {
      last = λ k. k;
      out = λ p i. refl;
      end = λ f p. refl;
      more = λ f p i. refl;
      local = front_local;
    }

pub front_node : (p : List ℕ) (i : ℕ) (k : Stmts) → front_at p (suc i) k ≡ front_step p (suc i) (front_at p) k
unfolding front_at
front_node p i k = ap (λ f. f k) (decode_node front_decode p i)

pub front_form : (p : List ℕ) (i w : ℕ) (f : FrontForm) (k : Stmts) → 0 < i → word_of p i 0 ≡ w → get_or front_forms (w - 40) skip ≡ f
    → front_at p i k ≡ f p i (front_at p) k
front_form p i w f k s e g =
    stepped (λ j. front_at p j k) (λ j. front_step p j (front_at p) k) (λ j. front_node p j k) i s
    ∙ ap (λ h. h p i (front_at p) k) (ap (λ v. get_or front_forms (v - 40) skip) e ∙ g)

pub front_same : Framed front_at
unfolding front_at
front_same = decode_same front_decode

-- the same in front of a list k
pub list_same : (k : Stmts) → Framed (λ p i. front_at p i k)
list_same k old new n i h l = ap (λ f. f k) (front_same old new n i h l)

pub front_nil : (p : List ℕ) (k : Stmts) → front_at p 0 k ≡ k
unfolding front_at front_from
front_nil p k = refl
