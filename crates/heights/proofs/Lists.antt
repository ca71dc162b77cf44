-- The faults of a list of statements and of arms, from those of the children of its node.
use mathlib.Core.Path.{◌≡◌, refl, sym, ap, ◌∙◌}
use mathlib.Core.List.{List, [], ◌++◌, append_assoc, append-nil}
use Prim.Native.Nat.{ℕ, zero, suc, ◌-◌}
use Rattle.std.specs.Prelude.{Option}
use Rattle.paper.specs.Source.{Name, Expr, Stmts, done, assign, choice, select, loop}
use Rattle.paper.specs.Heights.{height, subscripts, measured, arm_faults, statement_faults, height_faults}
use Rattle.tree.specs.Nodes.{word_of, child_of}
use Rattle.tree.specs.Trees.{FrontForm, front_forms, front_from, front_at, arms_at, expr_at, labels_at, program_at, IsHeight}
use Rattle.tree.specs.Kinds.{statement_of, IsStatement, IsArms}
use Rattle.tree.specs.declared.kinds.Statement.{Statement}
use Rattle.tree.specs.declared.kinds.Statement.TheVariants as F
use Rattle.tree.specs.declared.kinds.Arms.TheVariants as A
use Rattle.tree.proofs.Decodes.{All, none, ◌&◌, each}
use Rattle.tree.proofs.Frames.{skip}
use Rattle.heights.specs.Measured.{With, assigned, headed, listed, branched}
use Rattle.heights.proofs.Withs.{with_same, with_none, with_then, with_turned}

-- ---- in front of a list

pub done_faults : (h : ℕ) → statement_faults done h ≡ []
unfolding statement_faults
done_faults h = refl

-- a list that starts with no arm: the height of a selector around it doesn't count
abbrev Apart : Stmts → Type 0
Apart k = (h : ℕ) → statement_faults k h ≡ statement_faults k 1

done_apart : Apart done
done_apart h = done_faults h ∙ sym (done_faults 1)

-- what stands in front of such a list has faults of its own, and there follow those of the list
abbrev Fronts : (Stmts → Stmts) → Type 0
Fronts f = (k : Stmts) → Apart k → (h : ℕ) → statement_faults (f k) h ≡ statement_faults (f done) 1 ++ statement_faults k 1

-- one statement
one_front : (f : Stmts → Stmts) (own : List ℕ) → ((k : Stmts) (h : ℕ) → statement_faults (f k) h ≡ own ++ statement_faults k 1) → Fronts f
one_front f own e k d h =
    e k h ∙ ap (λ ps. ps ++ statement_faults k 1) (sym (e done 1 ∙ ap (λ ps. own ++ ps) (done_faults 1) ∙ append-nil own))

no_front : Fronts (λ k. k)
no_front k d h = d h ∙ sym (ap (λ ps. ps ++ statement_faults k 1) (done_faults 1))

front_apart : (f : Stmts → Stmts) → Fronts f → (k : Stmts) → Apart k → Apart (f k)
front_apart f e k d h = e k d h ∙ sym (e k d 1)

both_fronts : (f g : Stmts → Stmts) → Fronts f → Fronts g → Fronts (λ k. f (g k))
both_fronts f g a b k d h =
    a (g k) (front_apart g b k d) h
    ∙ ap (λ ps. statement_faults (f done) 1 ++ ps) (b k d 1)
    ∙ sym (append_assoc (statement_faults (f done) 1) (statement_faults (g done) 1) (statement_faults k 1))
    ∙ ap (λ ps. ps ++ statement_faults k 1) (sym (a (g done) (front_apart g b done done_apart) 1))

abbrev FrontsForm : FrontForm → Type 0
FrontsForm f = (t p : List ℕ) (i : ℕ) (sub : ℕ → Stmts → Stmts) → ((j : ℕ) → Fronts (sub j)) → Fronts (f t p i sub)

module _ (p q : ℕ) (e : Expr) (x y : Stmts) where
  assign_front : (v : Expr) → Fronts (assign v q e)
  unfolding statement_faults
  assign_front v = one_front (assign v q e) (subscripts v ++ measured e) (λ k h. refl)

  choice_front_lem : Fronts (choice p q e x y)
  unfolding statement_faults
  choice_front_lem = one_front (choice p q e x y) (measured e ++ statement_faults x 1 ++ statement_faults y 1) (λ k h. refl)

  select_front_lem : Fronts (select p e x)
  unfolding statement_faults
  select_front_lem = one_front (select p e x) (subscripts e ++ statement_faults x (height e)) (λ k h. refl)

  loop_front_lem : (v : Name) (a b : Expr) → Fronts (loop p q v a b e x)
  unfolding statement_faults
  loop_front_lem v a b =
      one_front (loop p q v a b e x) (measured a ++ measured b ++ measured e ++ statement_faults x 1) (λ k h. refl)

forms_front : All FrontsForm front_forms
unfolding front_forms
forms_front =
    (λ t p i sub s. assign_front 0 _ _ done done _)
    & (λ t p i sub s. choice_front_lem _ _ _ _ _)
    & (λ t p i sub s. select_front_lem _ 0 _ _ done)
    & (λ t p i sub s. loop_front_lem _ _ _ _ done _ _ _)
    & (λ t p i sub s. both_fronts (sub (child_of p i 1)) (sub (child_of p i 2)) (s (child_of p i 1)) (s (child_of p i 2)))
    & none

skip_front : FrontsForm skip
skip_front t p i sub s = no_front

front_from_lem : (f : ℕ) (t p : List ℕ) (i : ℕ) → Fronts (front_from f t p i)
unfolding front_from
front_from_lem zero t p i = no_front
front_from_lem (suc f) t p zero = no_front
front_from_lem (suc f) t p (suc i) =
    each FrontsForm skip skip_front front_forms forms_front (word_of p (suc i) 0 - 40) t p (suc i) (front_from f t p) (front_from_lem f t p)

front_list : (t p : List ℕ) (i : ℕ) → Fronts (front_at t p i)
unfolding front_at
front_list t p i = front_from_lem i t p i

-- ---- statements

module _ (p : List ℕ) (i : ℕ) where
  abbrev a : ℕ
  a = child_of p i 1

  abbrev b : ℕ
  b = child_of p i 2

  module _ (best r : Option ℕ) where
    -- by what the faults of such a statement come to
    by_view : (s : Statement) (own : List ℕ → List ℕ) → IsStatement p i s → With best r own
        → ((t : List ℕ) → statement_faults (statement_of p i t done s) 1 ≡ own t) → With best r (λ t. listed t p i)
    by_view s own v h g = with_same best r own _ h (λ t. ap (λ k. statement_faults k 1) (v.list t done) ∙ g t)

    pub assign_listed : IsStatement p i F.Assignment → With best r (λ t. assigned t p i) → With best r (λ t. listed t p i)
    unfolding statement_faults
    assign_listed v h = by_view F.Assignment _ v h (λ t. append-nil _)

    pub choice_listed : (x : Option ℕ) → IsStatement p i F.Choice → With best x (λ t. measured (expr_at t p a))
        → With x r (λ t. branched t p b) → With best r (λ t. listed t p i)
    unfolding statement_faults
    choice_listed x v h k =
        by_view F.Choice _ v (with_then best x r _ _ h k) (λ t. append-nil _ ∙ append_assoc (measured (expr_at t p a)) _ _)

    pub select_listed : (x : Option ℕ) (h : ℕ) → IsStatement p i F.Selection → With best x (λ t. subscripts (expr_at t p a)) → IsHeight p a h
        → With x r (λ t. statement_faults (arms_at t p b) h) → With best r (λ t. listed t p i)
    unfolding statement_faults
    select_listed x h v s m k =
        by_view F.Selection _ v (with_then best x r _ _ s k)
        (λ t. append-nil _ ∙ ap (λ n. subscripts (expr_at t p a) ++ statement_faults (arms_at t p b) n) (sym (m.height t)))

    pub loop_listed : (x : Option ℕ) → IsStatement p i F.Loop → With best x (λ t. headed t p a) → With x r (λ t. listed t p b)
        → With best r (λ t. listed t p i)
    unfolding statement_faults
    loop_listed x v h k = by_view F.Loop _ v (with_then best x r _ _ h k) (λ t. append-nil _)

    -- the last statement, and those before it
    pub list_listed : (x : Option ℕ) → IsStatement p i F.List → With best x (λ t. listed t p b) → With x r (λ t. listed t p a)
        → With best r (λ t. listed t p i)
    list_listed x v h k =
        by_view F.List (λ t. listed t p a ++ listed t p b) v
        (with_turned best r (λ t. listed t p b) (λ t. listed t p a) (with_then best x r _ _ h k))
        (λ t. front_list t p a (front_at t p b done) (front_apart (front_at t p b) (front_list t p b) done done_apart) 1)

  pub no_list : (best : Option ℕ) → IsStatement p i F.Nothing → With best best (λ t. listed t p i)
  no_list best v = by_view best best F.Nothing (λ t. []) v (with_none best _ (λ t. refl)) (λ t. done_faults 1)

  -- ---- arms, below a selector of the height h

  module _ (h : ℕ) where
    pub arm_listed : (best x y r : Option ℕ) → IsArms p i A.Arm → With best x (λ t. arm_faults h (labels_at p (child_of p i 1)))
        → With x y (λ t. listed t p (child_of p i 2)) → With y r (λ t. statement_faults (arms_at t p (child_of p i 3)) h)
        → With best r (λ t. statement_faults (arms_at t p i) h)
    unfolding statement_faults
    arm_listed best x y r v s k m =
        with_same best r _ _ (with_then best y r _ _ (with_then best x y _ _ s k) m) (λ t. ap (λ k. statement_faults k h) (v.list t))

    pub else_listed : (best r : Option ℕ) → IsArms p i A.Otherwise → With best r (λ t. listed t p (child_of p i 1))
        → With best r (λ t. statement_faults (arms_at t p i) h)
    else_listed best r v k =
        with_same best r _ _ k
        (λ t.
        ap (λ k. statement_faults k h) (v.list t)
        ∙ front_apart (front_at t p (child_of p i 1)) (front_list t p (child_of p i 1)) done done_apart h)

    pub no_arms : (best : Option ℕ) → IsArms p i A.Nothing → With best best (λ t. statement_faults (arms_at t p i) h)
    no_arms best v = with_none best _ (λ t. ap (λ k. statement_faults k h) (v.list t) ∙ done_faults h)

-- ---- a program

pub program_listed : (best r : Option ℕ) (p : List ℕ) (i : ℕ) → With best r (λ t. listed t p (child_of p i 2)) → With best r (λ t. height_faults (program_at t p i))
unfolding height_faults program_at
program_listed best r p i h = h
