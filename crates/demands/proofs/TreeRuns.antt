-- The trees leave what the statements do: for any environment, and from there for a program's expressions.
use mathlib.Core.Path.{◌≡◌, refl, sym, ap, ap₂, ◌∙◌}
use mathlib.Core.Bool.{Bool, true, false, not, cond, ◌||◌}
use mathlib.Core.List.{List, [], ◌∷◌, ◌++◌, map}
use Prim.Native.Nat.{ℕ, zero, suc, ◌+◌}
use native.Mathlib.Nat.{suc_inj, suc-ne-zero, add-zero, add-suc, suc-add, zero-add}
use borrow.Author.Tests.{eqb-false}
use lib.Dec.{eqb}
use lib.ListN.{length, get_or, set, length-set, get_or-map}
use lib.Seq.{get_or-set_other, get_or-append_seam, append_snoc}
use Rattle.paper.specs.Types.{negate, convert, bit, is_true, apply}
use Rattle.paper.specs.Plain as P
use Rattle.paper.specs.Plain.{Expr, Stmts, State, Ran, value_of, run, assigns}
use Rattle.demands.specs.Trees.{Tree, truth, select, tree_value, plug, either, merge_trees, symbolic, reads_from, expressions}
use Rattle.demands.proofs.Truths.{or_false}
use Rattle.demands.proofs.Lists.{length_snoc, map_set}
use Rattle.demands.proofs.PlainRuns.{taken}

-- the value of a plugged expression is its value over the trees' values
pub plug_value : (s : State) (ρ : List Tree) (e : Expr) → tree_value s (plug ρ e) ≡ value_of (map (tree_value s) ρ) e
unfolding tree_value plug value_of
plug_value s ρ (P.number t z) = refl
plug_value s ρ (P.truth b) = refl
plug_value s ρ (P.read c) = sym (get_or-map (tree_value s) ρ c.0 (truth false))
plug_value s ρ (P.minus t e) = ap (negate t) (plug_value s ρ e)
plug_value s ρ (P.complement e) = ap (λ x. bit (not (is_true x))) (plug_value s ρ e)
plug_value s ρ (P.binary o t l r) = ap₂ (apply o t) (plug_value s ρ l) (plug_value s ρ r)
plug_value s ρ (P.conversion t u e) = ap (convert t u) (plug_value s ρ e)

-- ---- merged trees

cond_cons : {A : Type 0} (b : Bool) (x y : A) (xs ys : List A) → cond b x y ∷ cond b xs ys ≡ cond b (x ∷ xs) (y ∷ ys)
cond_cons true x y xs ys = refl
cond_cons false x y xs ys = refl

module _ (s : State) (c : Tree) where
  -- one cell behind an IF: where no branch assigns it, its two trees are one
  pick : (v b : Bool) (x y : Tree) → is_true (tree_value s c) ≡ b → (v ≡ false → x ≡ y)
      → tree_value s (cond v (select c x y) x) ≡ cond b (tree_value s x) (tree_value s y)
  unfolding tree_value
  pick true b x y e h = ap (λ k. cond k (tree_value s x) (tree_value s y)) e
  pick false true x y e h = refl
  pick false false x y e h = ap (tree_value s) (h refl)

  -- behind an IF are the values behind the branch taken
  merge_value : (b : Bool) (w : ℕ → Bool) (i : ℕ) (xs ys : List Tree) → is_true (tree_value s c) ≡ b → length xs ≡ length ys
      → ((j : ℕ) → w (i + j) ≡ false → get_or xs j (truth false) ≡ get_or ys j (truth false))
      → map (tree_value s) (merge_trees w i c xs ys) ≡ cond b (map (tree_value s) xs) (map (tree_value s) ys)
  unfolding merge_trees
  merge_value true w i [] [] e l h = refl
  merge_value false w i [] [] e l h = refl
  merge_value b w i [] (y ∷ ys) e l h = absurd (suc-ne-zero (length ys) (sym l))
  merge_value b w i (x ∷ xs) [] e l h = absurd (suc-ne-zero (length xs) l)
  merge_value b w i (x ∷ xs) (y ∷ ys) e l h =
      ap₂ ◌∷◌ (pick (w i) b x y e (λ k. h 0 (rw add-zero k)))
      (merge_value b w (suc i) xs ys e (suc_inj l) (λ j k. h (suc j) (rw (add-suc, ← suc-add) k)))
      ∙ cond_cons b _ _ _ _

module _ (w : ℕ → Bool) (c : Tree) where
  merge_length : (i : ℕ) (xs ys : List Tree) → length xs ≡ length ys → length (merge_trees w i c xs ys) ≡ length xs
  unfolding merge_trees
  merge_length i [] ys l = refl
  merge_length i (x ∷ xs) [] l = absurd (suc-ne-zero (length xs) l)
  merge_length i (x ∷ xs) (y ∷ ys) l = ap suc (merge_length (suc i) xs ys (suc_inj l))

  -- a cell that no branch assigns has the tree behind the first
  merge_keeps : (i : ℕ) (xs ys : List Tree) (j : ℕ) → length xs ≡ length ys → w (i + j) ≡ false
      → get_or (merge_trees w i c xs ys) j (truth false) ≡ get_or xs j (truth false)
  unfolding merge_trees
  merge_keeps i [] ys j l e = refl
  merge_keeps i (x ∷ xs) [] j l e = absurd (suc-ne-zero (length xs) l)
  merge_keeps i (x ∷ xs) (y ∷ ys) zero l e = ap (λ v. cond v (select c x y) x) (rw add-zero at e)
  merge_keeps i (x ∷ xs) (y ∷ ys) (suc j) l e = merge_keeps (suc i) xs ys j (suc_inj l) (rw (suc-add, ← add-suc) e)

-- ---- statements

pub symbolic_length : (p : Stmts) (ρ : List Tree) → length (symbolic p ρ) ≡ length ρ
unfolding symbolic
symbolic_length P.done ρ = refl
symbolic_length (P.assign c e k) ρ = symbolic_length k _ ∙ length-set ρ c.0 _
symbolic_length (P.choice c a b k) ρ =
    symbolic_length k _
    ∙ merge_length _ _ 0 (symbolic a ρ) (symbolic b ρ) (symbolic_length a ρ ∙ sym (symbolic_length b ρ))
    ∙ symbolic_length a ρ

branches_length : (a b : Stmts) (ρ : List Tree) → length (symbolic a ρ) ≡ length (symbolic b ρ)
branches_length a b ρ = symbolic_length a ρ ∙ sym (symbolic_length b ρ)

-- what neither branch assigns, and only that, is passed over in the merge
neither_assigns : (a b : Stmts) (i : ℕ) → either a b i ≡ false → (assigns a i ≡ false) × (assigns b i ≡ false)
unfolding either
neither_assigns a b i h = or_false (assigns a i) (assigns b i) h

passed_over : (a b : Stmts) (i : ℕ) → assigns a i ≡ false → assigns b i ≡ false → either a b i ≡ false
unfolding either
passed_over a b i ha hb = rw (ha, hb) refl

-- a cell that no assignment names keeps its tree
pub symbolic_keeps : (p : Stmts) (ρ : List Tree) (i : ℕ) → assigns p i ≡ false
    → get_or (symbolic p ρ) i (truth false) ≡ get_or ρ i (truth false)
unfolding symbolic assigns
symbolic_keeps P.done ρ i h = refl
symbolic_keeps (P.assign c e k) ρ i h =
    let (n, nk) = or_false (eqb c.0 i) (assigns k i) h in
    symbolic_keeps k _ i nk ∙ get_or-set_other ρ c.0 i _ (truth false) (λ q. eqb-false c.0 i n (sym q))
symbolic_keeps (P.choice c a b k) ρ i h =
    let (nab, nk) = or_false (assigns a i || assigns b i) (assigns k i) h in
    let (na, nb) = or_false (assigns a i) (assigns b i) nab in
    symbolic_keeps k _ i nk
    ∙ merge_keeps (either a b) (plug ρ c) 0 (symbolic a ρ) (symbolic b ρ) i (branches_length a b ρ) (rw zero-add (passed_over a b i na nb))
    ∙ symbolic_keeps a ρ i na

-- a cell that neither branch assigns has one tree behind both
branches_agree : (a b : Stmts) (ρ : List Tree) (i : ℕ) → either a b i ≡ false
    → get_or (symbolic a ρ) i (truth false) ≡ get_or (symbolic b ρ) i (truth false)
branches_agree a b ρ i h =
    let (na, nb) = neither_assigns a b i h in
    symbolic_keeps a ρ i na ∙ sym (symbolic_keeps b ρ i nb)

taken_state : (v : Bool) (x y : Ran) → cond v x.state y.state ≡ (taken v x y).state
taken_state true x y = refl
taken_state false x y = refl

-- for any environment ρ
pub symbolic_runs : (s : State) (p : Stmts) (ρ : List Tree) (n : ℕ)
    → map (tree_value s) (symbolic p ρ) ≡ (run p (record { state = map (tree_value s) ρ; steps = n })).state
unfolding symbolic run
symbolic_runs s P.done ρ n = refl
symbolic_runs s (P.assign c e k) ρ n =
    symbolic_runs s k _ (suc n)
    ∙ ap (λ x. (run k (record { state = x; steps = suc n })).state)
    (map_set (tree_value s) ρ c.0 (plug ρ e) ∙ ap (set (map (tree_value s) ρ) c.0) (plug_value s ρ e))
symbolic_runs s (P.choice c a b k) ρ n =
    let start : Ran = record { state = map (tree_value s) ρ; steps = suc n } in
    let v : Bool = is_true (value_of start.state c) in
    let r : Ran = taken v (run a start) (run b start) in
    symbolic_runs s k _ r.steps
    ∙ ap (λ x. (run k (record { state = x; steps = r.steps })).state)
    (merge_value s (plug ρ c) v (either a b) 0 (symbolic a ρ) (symbolic b ρ)
    (ap is_true (plug_value s ρ c)) (branches_length a b ρ) (λ i h. branches_agree a b ρ i (rw zero-add at h))
    ∙ ap₂ (cond v) (symbolic_runs s a ρ (suc n)) (symbolic_runs s b ρ (suc n))
    ∙ taken_state v (run a start) (run b start))

-- ---- from the values at the scan's start

-- the reads have the values of the state
reads_value : (before s : State) → map (tree_value (before ++ s)) (reads_from (length before) (length s)) ≡ s
unfolding reads_from tree_value
reads_value before [] = refl
reads_value before (v ∷ s) =
    ap₂ ◌∷◌ (get_or-append_seam before v s 0)
    (rw (append_snoc before v s, length_snoc before v) at (reads_value (before ++ v ∷ []) s))

pub expressions_run : (s : State) (p : Stmts) (n : ℕ)
    → map (tree_value s) (expressions (length s) p) ≡ (run p (record { state = s; steps = n })).state
unfolding expressions
expressions_run s p n =
    symbolic_runs s p (reads_from 0 (length s)) n
    ∙ ap (λ x. (run p (record { state = x; steps = n })).state) (reads_value [] s)
