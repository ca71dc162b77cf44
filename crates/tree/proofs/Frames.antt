-- A decode takes one step at a node, and depends on the nodes up to its own only.
use mathlib.Core.Path.{◌≡◌, refl, ap, ap₂, ◌∙◌, fun_ext}
use mathlib.Core.Bool.{true, false}
use mathlib.Core.List.{List, [], ◌∷◌, ◌++◌}
use Prim.Native.Nat.{ℕ, zero, suc, ◌+◌, ◌*◌, ◌-◌, ◌/◌, ◌%◌, ◌≤◌, ◌<◌}
use native.Mathlib.Omega.{arith}
use lib.ListN.{get_or}
use Rattle.paper.specs.declared.Ty.TheVariants.{Bool as BOOL}
use Rattle.paper.specs.Source.{Expr, number, truth, variable, element, minus, complement, conversion, brackets, Stmts, done, Label, Named, Declared}
use Rattle.tree.specs.Nodes.{word_of, child_of, Same}
use Rattle.tree.specs.Trees.{name_at, types, operators, nil, wide, whole_at, place_at, ExprForm, number_form, binary_form, expr_forms, expr_from, expr_at, label_at, labels_from, labels_at, ArmsForm, arms_forms, arms_from, FrontForm, front_forms, front_from, front_at, arms_at, names_from, names_at, bounds_at, initial_at, declaration_at, declared_from, declared_at}
use Rattle.tree.proofs.Decodes.{Local, Decode, decode_node, decode_same, sub_same, kid_same, All, none, ◌&◌, each, all_map}
pub use Rattle.tree.proofs.Decodes.{Framed, same_less, same_trans, word_same, child_less, child_most, child_is, child_none, child_same, child_node_same, first_same, second_same, stepped}

-- ---- places and numbers

pub place_same : Framed place_at
place_same = word_same 3 (omega arith)

pub wide_same : Framed wide
wide_same old new n i h l =
    ap₂ (λ a b. a + 65536 * b) (word_same 1 (omega arith) old new n i h l) (word_same 2 (omega arith) old new n i h l)

pub whole_same : Framed whole_at
whole_same old new n i h l = rw (word_same 0 (omega arith) old new n i h l, wide_same old new n i h l)

-- ---- expressions

abbrev pub nil_form : ExprForm
nil_form t p i x y = nil

abbrev pub expr_step : List ℕ → List ℕ → ℕ → (ℕ → Expr) → Expr
expr_step t p i sub = get_or expr_forms (word_of p i 0) nil_form t p i (sub (child_of p i 1)) (sub (child_of p i 2))

abbrev FramedForm : ExprForm → Type 0
FramedForm f = (t : List ℕ) (x y : Expr) → Framed (λ p i. f t p i x y)

number_framed : FramedForm number_form
number_framed t x y old new n i h l = ap₂ number (place_same old new n i h l) (whole_same old new n i h l)

-- a form that reads the place of its node only
placed : (f : List ℕ → ℕ → Expr → Expr → Expr) → FramedForm (λ t p i x y. f t (place_at p i) x y)
placed f t x y old new n i h l = ap (λ q. f t q x y) (place_same old new n i h l)

-- a form that reads its place and its word 2
placed₂ : (f : List ℕ → ℕ → ℕ → Expr → Expr → Expr) → FramedForm (λ t p i x y. f t (place_at p i) (word_of p i 2) x y)
placed₂ f t x y old new n i h l =
    ap₂ (λ q w. f t q w x y) (place_same old new n i h l) (word_same 2 (omega arith) old new n i h l)

nil_framed : FramedForm nil_form
nil_framed t x y old new n i h l = refl

exprs_framed : All FramedForm expr_forms
unfolding expr_forms
exprs_framed =
    nil_framed
    & number_framed
    & number_framed
    & placed (λ t q x y. truth q false)
    & placed (λ t q x y. truth q true)
    & placed (λ t q x y. variable q (name_at t q))
    & placed₂ (λ t q w x y. element q (name_at t q) w x)
    & placed (λ t q x y. minus q x)
    & placed (λ t q x y. complement q x)
    & placed (λ t q x y. brackets q x)
    & placed₂ (λ t q w x y. conversion q (get_or types (w / 8) BOOL) (get_or types (w % 8) BOOL) x)
    & all_map FramedForm binary_form (λ o t x y old new n i h l. rw (place_same old new n i h l)) operators

expr_local : (t : List ℕ) → Local (expr_step t)
expr_local t old new i x y s h e =
    ap₂ (get_or expr_forms (word_of new i 0) _ t new i)
    (kid_same old new i x y e h s 1 (omega arith))
    (kid_same old new i x y e h s 2 (omega arith))
    ∙ ap (λ w. get_or expr_forms w nil_form t new i (x (child_of old i 1)) (x (child_of old i 2)))
    (word_same 0 (omega arith) old new i i h (omega arith))
    ∙ each FramedForm nil_form nil_framed expr_forms exprs_framed (word_of old i 0) t _ _ old new i i h (omega arith)

expr_decode : (t : List ℕ) → Decode (λ f p i. expr_from f t p i) (expr_step t)
unfolding expr_from
expr_decode t =
    record {
      last = nil;
      out = λ p i. refl;
      end = λ f p. refl;
      more = λ f p i. refl;
      local = expr_local t;
    }

pub expr_node : (t p : List ℕ) (i : ℕ) → expr_at t p (suc i) ≡ expr_step t p (suc i) (expr_at t p)
unfolding expr_at
expr_node t p i = decode_node (expr_decode t) p i

-- where the form that the kind picks is known
pub expr_form : (t p : List ℕ) (i w : ℕ) (f : ExprForm) → 0 < i → word_of p i 0 ≡ w → get_or expr_forms w nil_form ≡ f
    → expr_at t p i ≡ f t p i (expr_at t p (child_of p i 1)) (expr_at t p (child_of p i 2))
expr_form t p i w f s k e =
    stepped (expr_at t p) (λ j. expr_step t p j (expr_at t p)) (expr_node t p) i s
    ∙ ap (λ g. g t p i (expr_at t p (child_of p i 1)) (expr_at t p (child_of p i 2))) (ap (λ v. get_or expr_forms v nil_form) k ∙ e)

pub expr_same : (t : List ℕ) → Framed (expr_at t)
unfolding expr_at
expr_same t = decode_same (expr_decode t)

pub expr_nil : (t p : List ℕ) → expr_at t p 0 ≡ nil
unfolding expr_at expr_from
expr_nil t p = refl

-- ---- labels

pub label_same : Framed label_at
label_same old new n i h l =
    rw (
      first_same place_at place_same old new n i h l,
      first_same whole_at whole_same old new n i h l,
      second_same place_at place_same old new n i h l,
      second_same whole_at whole_same old new n i h l,
      place_same old new n i h l,
      whole_same old new n i h l,
      word_same 0 (omega arith) old new n i h l,
    )

abbrev pub labels_step : List ℕ → ℕ → (ℕ → List Label) → List Label
labels_step p i sub = sub (child_of p i 1) ++ label_at p (child_of p i 2) ∷ []

labels_decode : Decode labels_from labels_step
unfolding labels_from
labels_decode =
    record {
      last = [];
      out = λ p i. refl;
      end = λ f p. refl;
      more = λ f p i. refl;
      local = λ old new i x y s h e.
          ap₂ (λ ls m. ls ++ m ∷ [])
          (kid_same old new i x y e h s 1 (omega arith))
          (second_same label_at label_same old new i i h (omega arith));
    }

pub labels_node : (p : List ℕ) (i : ℕ) → labels_at p (suc i) ≡ labels_step p (suc i) (labels_at p)
unfolding labels_at
labels_node p i = decode_node labels_decode p i

pub labels_same : Framed labels_at
unfolding labels_at
labels_same = decode_same labels_decode

pub labels_nil : (p : List ℕ) → labels_at p 0 ≡ []
unfolding labels_at labels_from
labels_nil p = refl

-- ---- arms

abbrev pub no_arms : ArmsForm
no_arms p i sub more = done

abbrev pub arms_step : List ℕ → ℕ → (ℕ → Stmts → Stmts) → (ℕ → Stmts) → Stmts
arms_step p i sub more = get_or arms_forms (word_of p i 0 - 48) no_arms p i sub more

-- the lists and the arms that two readings find below a node are the same
abbrev LocalArms : ArmsForm → Type 0
LocalArms f =
    (old new : List ℕ) (i : ℕ) (x y : ℕ → Stmts → Stmts) (a b : ℕ → Stmts) → 0 < i → Same i old new
    → ((j : ℕ) → j < i → y j ≡ x j) → ((j : ℕ) → j < i → b j ≡ a j) → f new i y b ≡ f old i x a

arm_local : LocalArms (get_or arms_forms 0 no_arms)
unfolding arms_forms
arm_local old new i x y a b s h e g =
    rw (
      first_same labels_at labels_same old new i i h (omega arith),
      kid_same old new i x y e h s 2 (omega arith),
      kid_same old new i a b g h s 3 (omega arith),
    )

else_local : LocalArms (get_or arms_forms 1 no_arms)
unfolding arms_forms
else_local old new i x y a b s h e g = ap (λ f. f done) (kid_same old new i x y e h s 1 (omega arith))

no_arms_local : LocalArms no_arms
no_arms_local old new i x y a b s h e g = refl

arms_forms_local : All LocalArms arms_forms
unfolding arms_forms
arms_forms_local = arm_local & else_local & none

arms_step_local : LocalArms arms_step
arms_step_local old new i x y a b s h e g =
    ap (λ w. get_or arms_forms (w - 48) no_arms new i y b) (word_same 0 (omega arith) old new i i h (omega arith))
    ∙ each LocalArms no_arms no_arms_local arms_forms arms_forms_local (word_of old i 0 - 48) old new i x y a b s h e g

-- neither fuel nor later nodes matter
arms_agree : (f g : ℕ) (old new : List ℕ) (x y : ℕ → Stmts → Stmts) (n i : ℕ) → i ≤ f → i ≤ g → i ≤ n → Same n old new
    → ((j : ℕ) → j < n → y j ≡ x j) → arms_from f new y i ≡ arms_from g old x i
unfolding arms_from
arms_agree zero zero old new x y n i l m b h e = refl
arms_agree zero (suc g) old new x y n zero l m b h e = refl
arms_agree zero (suc g) old new x y n (suc i) l m b h e = absurd (omega arith)
arms_agree (suc f) zero old new x y n zero l m b h e = refl
arms_agree (suc f) zero old new x y n (suc i) l m b h e = absurd (omega arith)
arms_agree (suc f) (suc g) old new x y n zero l m b h e = refl
arms_agree (suc f) (suc g) old new x y n (suc i) l m b h e =
    arms_step_local old new (suc i) x y (arms_from g old x) (arms_from f new y) (omega arith)
    (same_less old new n (suc i) h (omega arith))
    (λ j s. e j (omega arith))
    (λ j s. arms_agree f g old new x y n j (omega arith) (omega arith) (omega arith) h e)

-- ---- statements

abbrev pub skip : FrontForm
skip t p i sub k = k

abbrev pub front_step : List ℕ → List ℕ → ℕ → (ℕ → Stmts → Stmts) → Stmts → Stmts
front_step t p i sub k = get_or front_forms (word_of p i 0 - 40) skip t p i sub k

abbrev LocalForm : FrontForm → Type 0
LocalForm f = (t : List ℕ) → Local (f t)

module _ (t old new : List ℕ) (i : ℕ) (x y : ℕ → Stmts → Stmts) (s : 0 < i) (h : Same i old new) (e : (j : ℕ) → j < i → y j ≡ x j) where
  abbrev Kept : FrontForm → Type 0
  Kept f = f t new i y ≡ f t old i x

  here : {X : Type 0} (f : List ℕ → ℕ → X) → Framed f → f new i ≡ f old i
  here f g = g old new i i h (omega arith)

  -- the list of a child, and of a child of the second child
  sub : (k : ℕ) → k < 4 → y (child_of new i k) ≡ x (child_of old i k)
  sub k b = kid_same old new i x y e h s k b

  sub_sub : (k : ℕ) → k < 4 → y (child_of new (child_of new i 2) k) ≡ x (child_of old (child_of old i 2) k)
  sub_sub k b =
      sub_same old new i x y e h _ (second_same (λ p j. child_of p j k) (child_node_same k b))
      (omega (arith, child_most old (child_of old i 2) k, child_less old i 2 s))

  place_kept : place_at new i ≡ place_at old i
  place_kept = here place_at place_same

  expr_kept : expr_at t new (child_of new i 1) ≡ expr_at t old (child_of old i 1)
  expr_kept = here _ (first_same (expr_at t) (expr_same t))

  assign_local : Kept (get_or front_forms 0 skip)
  unfolding front_forms
  assign_local = fun_ext (λ k. rw (expr_kept, here _ (second_same (expr_at t) (expr_same t)), place_kept))

  choice_local : Kept (get_or front_forms 1 skip)
  unfolding front_forms
  choice_local =
      fun_ext (λ k.
      rw (sub_sub 1 (omega arith), sub_sub 2 (omega arith), expr_kept, here _ (second_same place_at place_same), place_kept))

  select_local : Kept (get_or front_forms 2 skip)
  unfolding front_forms
  select_local =
      let c = child_of old i 2 in
      let l : c < i = child_less old i 2 s in
      let arms : arms_from i new y (child_of new i 2) ≡ arms_from i old x c =
      ap (arms_from i new y) (here _ (child_node_same 2 (omega arith)))
      ∙ arms_agree i i old new x y i c (omega arith) (omega arith) (omega arith) h e in
      fun_ext (λ k. rw (expr_kept, arms, place_kept))

  loop_local : Kept (get_or front_forms 3 skip)
  unfolding front_forms
  loop_local =
      fun_ext (λ k.
      rw (
        here _ (first_same _ (first_same _ (first_same (expr_at t) (expr_same t)))),
        here _ (first_same _ (first_same _ (second_same (expr_at t) (expr_same t)))),
        here _ (first_same _ (second_same (expr_at t) (expr_same t))),
        here _ (first_same place_at place_same),
        sub 2 (omega arith),
        place_kept,
      ))

  list_local : Kept (get_or front_forms 4 skip)
  unfolding front_forms
  list_local = fun_ext (λ k. rw (sub 1 (omega arith), sub 2 (omega arith)))

  skip_local : Kept skip
  skip_local = refl

fronts_local : All LocalForm front_forms
unfolding front_forms
fronts_local =
    assign_local
    & choice_local
    & select_local
    & loop_local
    & list_local
    & none

front_local : (t : List ℕ) → Local (front_step t)
front_local t old new i x y s h e =
    ap (λ w. get_or front_forms (w - 40) skip t new i y) (word_same 0 (omega arith) old new i i h (omega arith))
    ∙ each LocalForm _ skip_local front_forms fronts_local (word_of old i 0 - 40) t old new i x y s h e

front_decode : (t : List ℕ) → Decode (λ f p i. front_from f t p i) (front_step t)
unfolding front_from
front_decode t =
    record {
      last = λ k. k;
      out = λ p i. refl;
      end = λ f p. refl;
      more = λ f p i. refl;
      local = front_local t;
    }

pub front_node : (t p : List ℕ) (i : ℕ) (k : Stmts) → front_at t p (suc i) k ≡ front_step t p (suc i) (front_at t p) k
unfolding front_at
front_node t p i k = ap (λ f. f k) (decode_node (front_decode t) p i)

pub front_form : (t p : List ℕ) (i w : ℕ) (f : FrontForm) (k : Stmts) → 0 < i → word_of p i 0 ≡ w → get_or front_forms (w - 40) skip ≡ f
    → front_at t p i k ≡ f t p i (front_at t p) k
front_form t p i w f k s e g =
    stepped (λ j. front_at t p j k) (λ j. front_step t p j (front_at t p) k) (λ j. front_node t p j k) i s
    ∙ ap (λ h. h t p i (front_at t p) k) (ap (λ v. get_or front_forms (v - 40) skip) e ∙ g)

pub front_same : (t old new : List ℕ) (n i : ℕ) → Same n old new → i ≤ n → (k : Stmts) → front_at t new i k ≡ front_at t old i k
unfolding front_at
front_same t old new n i h l k = ap (λ f. f k) (decode_same (front_decode t) old new n i h l)

-- the same as a reading, in front of a list k
pub list_same : (t : List ℕ) (k : Stmts) → Framed (λ p i. front_at t p i k)
list_same t k old new n i h l = front_same t old new n i h l k

pub front_nil : (t p : List ℕ) (k : Stmts) → front_at t p 0 k ≡ k
unfolding front_at front_from
front_nil t p k = refl

-- the arms of a node, as those of its children
pub arms_node : (t p : List ℕ) (i : ℕ) → arms_at t p (suc i) ≡ arms_step p (suc i) (front_at t p) (arms_at t p)
unfolding arms_at arms_from
arms_node t p i =
    arms_step_local p p (suc i) (front_at t p) (front_at t p) (arms_at t p) (arms_from i p (front_at t p)) (omega arith) (λ k s. refl)
    (λ j s. refl)
    (λ j s. arms_agree i j p p (front_at t p) (front_at t p) j j (omega arith) (omega arith) (omega arith) (λ k s. refl) (λ k s. refl))

pub arms_form : (t p : List ℕ) (i w : ℕ) (f : ArmsForm) → 0 < i → word_of p i 0 ≡ w → get_or arms_forms (w - 48) no_arms ≡ f
    → arms_at t p i ≡ f p i (front_at t p) (arms_at t p)
arms_form t p i w f s e g =
    stepped (arms_at t p) (λ j. arms_step p j (front_at t p) (arms_at t p)) (arms_node t p) i s
    ∙ ap (λ h. h p i (front_at t p) (arms_at t p)) (ap (λ v. get_or arms_forms (v - 48) no_arms) e ∙ g)

-- those of an earlier node, with any fuel
pub arms_below : (t p : List ℕ) (f i : ℕ) → i ≤ f → arms_from f p (front_at t p) i ≡ arms_at t p i
unfolding arms_at
arms_below t p f i l =
    arms_agree f i p p (front_at t p) (front_at t p) i i l (omega arith) (omega arith) (λ k s. refl) (λ j s. refl)

pub arms_same : (t : List ℕ) → Framed (arms_at t)
unfolding arms_at
arms_same t old new n i h l =
    arms_agree i i old new (front_at t old) (front_at t new) n i (omega arith) (omega arith) l h
    (λ j s. fun_ext (λ k. front_same t old new n j h (omega arith) k))

pub arms_nil : (t p : List ℕ) → arms_at t p 0 ≡ done
unfolding arms_at arms_from
arms_nil t p = refl

-- ---- declarations

abbrev pub names_step : List ℕ → List ℕ → ℕ → (ℕ → List Named) → List Named
names_step t p i sub = sub (child_of p i 1) ++ record { place = place_at p i; name = name_at t (place_at p i) } ∷ []

names_decode : (t : List ℕ) → Decode (λ f p i. names_from f t p i) (names_step t)
unfolding names_from
names_decode t =
    record {
      last = [];
      out = λ p i. refl;
      end = λ f p. refl;
      more = λ f p i. refl;
      local = λ old new i x y s h e.
          ap₂ (λ ns q. ns ++ record { place = q; name = name_at t q } ∷ [])
          (kid_same old new i x y e h s 1 (omega arith))
          (place_same old new i i h (omega arith));
    }

pub names_node : (t p : List ℕ) (i : ℕ) → names_at t p (suc i) ≡ names_step t p (suc i) (names_at t p)
unfolding names_at
names_node t p i = decode_node (names_decode t) p i

pub names_same : (t : List ℕ) → Framed (names_at t)
unfolding names_at
names_same t = decode_same (names_decode t)

pub names_nil : (t p : List ℕ) → names_at t p 0 ≡ []
unfolding names_at names_from
names_nil t p = refl

pub bounds_same : Framed bounds_at
bounds_same old new n i h l =
    rw (
      first_same place_at place_same old new n i h l,
      first_same wide wide_same old new n i h l,
      second_same place_at place_same old new n i h l,
      second_same wide wide_same old new n i h l,
      word_same 0 (omega arith) old new n i h l,
    )

pub initial_same : Framed initial_at
initial_same old new n i h l =
    rw (
      first_same place_at place_same old new n i h l,
      first_same whole_at whole_same old new n i h l,
      place_same old new n i h l,
      word_same 0 (omega arith) old new n i h l,
    )

pub declaration_same : (t : List ℕ) → Framed (declaration_at t)
declaration_same t old new n i h l =
    rw (
      second_same (λ p j. bounds_at p (child_of p j 1)) (first_same bounds_at bounds_same) old new n i h l,
      second_same (λ p j. initial_at p (child_of p j 2)) (second_same initial_at initial_same) old new n i h l,
      second_same place_at place_same old new n i h l,
      first_same (names_at t) (names_same t) old new n i h l,
      place_same old new n i h l,
    )

abbrev pub declared_step : List ℕ → List ℕ → ℕ → (ℕ → List Declared) → List Declared
declared_step t p i sub = sub (child_of p i 1) ++ declaration_at t p (child_of p i 2)

declared_decode : (t : List ℕ) → Decode (λ f p i. declared_from f t p i) (declared_step t)
unfolding declared_from
declared_decode t =
    record {
      last = [];
      out = λ p i. refl;
      end = λ f p. refl;
      more = λ f p i. refl;
      local = λ old new i x y s h e.
          ap₂ (λ ds es. ds ++ es)
          (kid_same old new i x y e h s 1 (omega arith))
          (second_same (declaration_at t) (declaration_same t) old new i i h (omega arith));
    }

pub declared_node : (t p : List ℕ) (i : ℕ) → declared_at t p (suc i) ≡ declared_step t p (suc i) (declared_at t p)
unfolding declared_at
declared_node t p i = decode_node (declared_decode t) p i

pub declared_same : (t : List ℕ) → Framed (declared_at t)
unfolding declared_at
declared_same t = decode_same (declared_decode t)

pub declared_nil : (t p : List ℕ) → declared_at t p 0 ≡ []
unfolding declared_at declared_from
declared_nil t p = refl
