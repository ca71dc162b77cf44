-- The emitted rows mean the trees, and are few.
use mathlib.Core.Path.{◌≡◌, refl, sym, ap, ap₂, ◌∙◌}
use mathlib.Core.Bool.{Bool, true, false, not, cond, ◌||◌, true≢false}
use mathlib.Core.Option.{some}
use mathlib.Core.List.{List, [], ◌∷◌, ◌++◌, map, append-nil}
use mathlib.Core.Logic.{⊎_elim}
use Prim.Native.Nat.{ℕ, zero, suc, ◌+◌, ◌<◌, ◌≤◌}
use native.Mathlib.Nat.{suc_inj, suc-ne-zero, eq-or-lt_of_le}
use native.Mathlib.Omega.{arith}
use borrow.Author.Tests.{ne_eqb}
use lib.ListN.{length, get_or, set, get_elem?, get_or-map}
use lib.Seq.{get_or-append_seam, append_snoc}
use Rattle.paper.specs.declared.Ty.{Ty}
use Rattle.paper.specs.declared.Row.{Row}
use Rattle.paper.specs.Types.{negate, convert, bit, is_true, apply}
use Rattle.paper.specs.Names.{Info}
use Rattle.paper.specs.Plain as P
use Rattle.paper.specs.Plain.{Expr, Stmts, State, assigns, parts, count, cells_within, weight}
use Rattle.paper.specs.Tables as T
use Rattle.paper.specs.Tables.{Line, row, values, next_state, run_table, expression_rows, merge_cell, merge, statement_rows, reads, rows_from, table_of}
use Rattle.demands.specs.Trees.{Tree, truth, read, select, tree_value, plug, either, merge_trees, symbolic, reads_from, expressions}
use Rattle.demands.proofs.Truths.{neither}
use Rattle.demands.proofs.Lists.{length_snoc}
use Rattle.demands.proofs.Typed.{Typed, WellTyped}
use Rattle.demands.proofs.PlainRuns.{run_keeps}
use Rattle.demands.proofs.TreeRuns.{expressions_run}
use Rattle.demands.proofs.RowValues.{Grows, Stands, Env, empty, cell, MadeFor, BoundTo, grows_refl, grows_trans, stands_grown, env_grown, pushed, env_at, env_set}

module _ {s : State} where
  -- ---- expressions

  -- the row made for an expression stands for its tree
  expression_made : {is : List Info} {env : List Row} {ρ : List Tree} {rs : List Line} (e : Expr) (u : Ty) → Typed is e u → Env s rs is env ρ
      → MadeFor s rs (expression_rows env e rs) (plug ρ e)
  unfolding expression_rows plug tree_value
  expression_made (P.number t z) u h v = pushed (T.number t _) grows_refl refl
  expression_made (P.truth b) u h v = pushed (T.number _ (bit b)) grows_refl refl
  expression_made (P.read c) u h v = record { grows = grows_refl; stands = env_at v c.0 h.0 h.1 }
  expression_made (P.minus t e) u h v =
      let x = expression_made e _ h.2 v in
      pushed (T.minus t _) x.grows (ap (negate t) x.stands.is)
  expression_made (P.complement e) u h v =
      let x = expression_made e _ h.1 v in
      pushed (T.complement _ _) x.grows (ap (λ a. bit (not (is_true a))) x.stands.is)
  expression_made {env = env} {rs = rs} (P.binary o t l r) u h v =
      let x = expression_made l _ h.2 v in
      let y = expression_made {rs = (expression_rows env l rs).rows} r _ h.3 (env_grown x.grows v) in
      pushed (T.binary o t _ _) (grows_trans x.grows y.grows)
      (ap₂ (apply o t) (stands_grown y.grows x.stands).is y.stands.is)
  expression_made (P.conversion t u e) q h v =
      let x = expression_made e _ h.4 v in
      pushed (T.conversion t u _) x.grows (ap (convert t u) x.stands.is)

  -- ---- statements

  -- a cell behind an IF
  merged : {rs : List Line} {c a b : Row} {x y z : Tree} (w : Bool) (u : Ty) → Stands s rs c x → Stands s rs a y → Stands s rs b z
      → MadeFor s rs (merge_cell w u c a b rs) (cond w (select x y z) y)
  unfolding tree_value
  merged true u hc ha hb = pushed (T.select u _ _ _) grows_refl (rw (hc.is, ha.is, hb.is))
  merged false u hc ha hb = record { grows = grows_refl; stands = ha }

  -- every cell behind an IF, from the cell number i on
  merge_bound : {rs more : List Line} {is : List Info} {c : Row} {x : Tree} {xs ys : List Row} {ρ σ : List Tree} (w : ℕ → Bool) (i : ℕ)
      → Grows s rs more → Stands s more c x → Env s rs is xs ρ → Env s rs is ys σ
      → BoundTo s more is (merge w i c is xs ys more) (merge_trees w i x ρ σ)
  unfolding merge merge_trees
  merge_bound w i g h empty empty = record { grows = grows_refl; env_stands = empty }
  merge_bound w i g h (cell {i = t} a v) (cell b u) =
      let x = merged (w i) t.ty h (stands_grown g a) (stands_grown g b) in
      let y = merge_bound w (suc i) (grows_trans g x.grows) (stands_grown x.grows h) v u in
      record { grows = grows_trans x.grows y.grows; env_stands = cell (stands_grown y.grows x.stands) y.env_stands }

  -- the rows behind the statements stand for the trees behind them
  statements_bound : (p : Stmts) {is : List Info} {env : List Row} {ρ : List Tree} {rs : List Line} → WellTyped is p → Env s rs is env ρ
      → BoundTo s rs is (statement_rows is p env rs) (symbolic p ρ)
  unfolding statement_rows symbolic either
  statements_bound P.done h v = record { grows = grows_refl; env_stands = v }
  statements_bound (P.assign c e k) h v =
      let x = expression_made e _ h.0.2.1 v in
      let y = statements_bound k h.1 (env_set (env_grown x.grows v) c.0 x.stands) in
      record { grows = grows_trans x.grows y.grows; env_stands = y.env_stands }
  statements_bound (P.choice c a b k) h v =
      let x = expression_made c _ h.0 v in
      let y = statements_bound a h.1 (env_grown x.grows v) in
      let z = statements_bound b h.2 (env_grown (grows_trans x.grows y.grows) v) in
      let yz = grows_trans y.grows z.grows in
      let m = merge_bound (λ i. assigns a i || assigns b i) 0 grows_refl (stands_grown yz x.stands)
      (env_grown z.grows y.env_stands) z.env_stands in
      let r = statements_bound k h.3 m.env_stands in
      record { grows = grows_trans x.grows (grows_trans yz (grows_trans m.grows r.grows)); env_stands = r.env_stands }

-- ---- the reads at the start

reads_length : (i : ℕ) (is : List Info) → length (reads i is) ≡ length is
unfolding reads
reads_length i [] = refl
reads_length i (t ∷ is) = ap suc (reads_length (suc i) is)

-- the first rows' values are the state
reads_values : (before s : State) (is : List Info) → length s ≡ length is
    → values (before ++ s) before (reads (length before) is) ≡ before ++ s
unfolding values reads
reads_values before [] [] l = sym (append-nil before)
reads_values before [] (t ∷ is) l = absurd (suc-ne-zero (length is) (sym l))
reads_values before (v ∷ s) [] l = absurd (suc-ne-zero (length s) l)
reads_values before (v ∷ s) (t ∷ is) l =
    ap (λ x. values (before ++ v ∷ s) (before ++ x ∷ []) (reads (suc (length before)) is)) (get_or-append_seam before v s 0)
    ∙ (rw (append_snoc before v s, length_snoc before v) at (reads_values (before ++ v ∷ []) s is (suc_inj l)))

reads_stand : (s : State) (is : List Info) → length s ≡ length is
    → (j : ℕ) → j < 0 + length is → Stands s (reads 0 is) (row j) (read (record { 0 = j }))
unfolding tree_value
reads_stand s is l j h = record {
  inside = omega (arith, reads_length 0 is);
  is = ap (λ v. get_or v j 0) (reads_values [] s is l);
}

-- the first rows stand for the reads
start_env : {s : State} {rs : List Line} (i : ℕ) (is : List Info)
    → ((j : ℕ) → j < i + length is → Stands s rs (row j) (read (record { 0 = j })))
    → Env s rs is (rows_from i is) (reads_from i (length is))
unfolding rows_from reads_from
start_env i [] h = empty
start_env i (t ∷ is) h = cell (h i (omega arith)) (start_env (suc i) is (λ j l. h j (omega arith)))

-- ---- the next state

-- an input's value now, or else its row's, is its tree's
kept : (b : Bool) {n a t : ℕ} → (b ≡ true → t ≡ n) → a ≡ t → cond b n a ≡ t
kept true h e = sym (h refl)
kept false h e = e

-- each cell's next value is its tree's, where each input's tree has its value now
next_state_lem : {s : State} {rs : List Line} {is : List Info} {env : List Row} {ρ : List Tree} (now : State) → Env s rs is env ρ
    → length now ≡ length is
    → ((j : ℕ) (i : Info) → get_elem? is j ≡ some i → i.is_input ≡ true → tree_value s (get_or ρ j (truth false)) ≡ get_or now j 0)
    → next_state is (values s [] rs) env now ≡ map (tree_value s) ρ
unfolding next_state
next_state_lem now empty l h = refl
next_state_lem [] (cell {is = is} g v) l h = absurd (suc-ne-zero (length is) (sym l))
next_state_lem (n ∷ now) (cell {i = i} g v) l h =
    ap₂ ◌∷◌ (kept i.is_input (h 0 i refl) g.is) (next_state_lem now v (suc_inj l) (λ j. h (suc j)))

-- no input is assigned
module _ (is : List Info) (j : ℕ) (i : Info) (e : get_elem? is j ≡ some i) (f : i.is_input ≡ true) where
  input_unassigned : (p : Stmts) → WellTyped is p → assigns p j ≡ false
  unfolding assigns
  input_unassigned P.done h = refl
  input_unassigned (P.assign c x k) h =
      let apart : c.0 ≡ j → ⊥ = λ q.
      let same : i ≡ h.0.0 = cc (ap (get_elem? is) q, h.0.1) in
      true≢false (sym f ∙ ap (λ x. x.is_input) same ∙ h.0.2.0) in
      neither (ne_eqb c.0 j apart) (input_unassigned k h.1)
  input_unassigned (P.choice c a b k) h =
      neither (neither (input_unassigned a h.1) (input_unassigned b h.2)) (input_unassigned k h.3)

-- a cell that isn't assigned has its value at the start
unassigned_value : (p : Stmts) (s : State) (n j : ℕ) → length s ≡ n → assigns p j ≡ false
    → tree_value s (get_or (expressions n p) j (truth false)) ≡ get_or s j 0
unfolding tree_value
unassigned_value p s n j l h =
    rw (← l)
    (sym (get_or-map (tree_value s) (expressions (length s) p) j (truth false))
    ∙ ap (λ x. get_or x j 0) (expressions_run s p 0)
    ∙ run_keeps p (record { state = s; steps = 0 }) j h)

-- the table's run is the value of each cell's expression
pub table_runs : (is : List Info) (p : Stmts) (s : State) → WellTyped is p → length s ≡ length is
    → run_table (table_of is p) s ≡ map (tree_value s) (expressions (length is) p)
unfolding run_table table_of expressions
table_runs is p s h l =
    next_state_lem s (statements_bound p h (start_env 0 is (reads_stand s is l))).env_stands l
    (λ j i e f. unassigned_value p s (length is) j l (input_unassigned is j i e f p h))

-- ---- how many rows

-- a row at most for each part
expression_few : (env : List Row) (e : Expr) (rs : List Line) → length (expression_rows env e rs).rows ≤ parts e + length rs
unfolding expression_rows parts
expression_few env (P.number t z) rs = rw length_snoc (omega arith)
expression_few env (P.truth b) rs = rw length_snoc (omega arith)
expression_few env (P.read c) rs = omega arith
expression_few env (P.minus t e) rs = rw length_snoc (omega (arith, expression_few env e rs))
expression_few env (P.complement e) rs = rw length_snoc (omega (arith, expression_few env e rs))
expression_few env (P.binary o t l r) rs = rw length_snoc (omega (arith, expression_few env l rs, expression_few env r (expression_rows env l rs).rows))
expression_few env (P.conversion t u e) rs = rw length_snoc (omega (arith, expression_few env e rs))

-- more numbers, no fewer that pass
count_grows : (w : ℕ → Bool) (i n : ℕ) → i ≤ n → count w i ≤ count w n
unfolding count
count_grows w i zero h = let e : i ≡ 0 = omega arith in rw e (omega arith)
count_grows w i (suc n) h =
    ⊎_elim
    (λ (e : i ≡ suc n). rw e (omega arith))
    (λ (l : i < suc n). omega (arith, count_grows w i n (omega arith)))
    (eq-or-lt_of_le h)

-- a select for each cell that is assigned
merged_few : (w : Bool) (u : Ty) (c a b : Row) (rs : List Line) → length (merge_cell w u c a b rs).rows ≡ cond w 1 0 + length rs
merged_few true u c a b rs = rw length_snoc (omega arith)
merged_few false u c a b rs = omega arith

-- of n cells, those from i on that are assigned
merge_few : (w : ℕ → Bool) (c : Row) (n i : ℕ) (is : List Info) (xs ys : List Row) (rs : List Line) → i + length is ≡ n
    → length (merge w i c is xs ys rs).rows + count w i ≤ count w n + length rs
unfolding merge count
merge_few w c n i [] xs ys rs e = omega (arith, count_grows w i n (omega arith))
merge_few w c n i (t ∷ is) [] ys rs e = omega (arith, count_grows w i n (omega arith))
merge_few w c n i (t ∷ is) (x ∷ xs) [] rs e = omega (arith, count_grows w i n (omega arith))
merge_few w c n i (t ∷ is) (x ∷ xs) (y ∷ ys) rs e =
    omega (
      arith,
      merged_few (w i) t.ty c x y rs,
      merge_few w c n (suc i) is xs ys (merge_cell (w i) t.ty c x y rs).rows (omega arith),
    )

statements_few : (is : List Info) (p : Stmts) (env : List Row) (rs : List Line)
    → length (statement_rows is p env rs).rows ≤ weight (length is) p + length rs
unfolding statement_rows weight cells_within
statements_few is P.done env rs = omega arith
statements_few is (P.assign c e k) env rs =
    let x = expression_rows env e rs in
    omega (arith, expression_few env e rs, statements_few is k (set env c.0 x.at) x.rows)
statements_few is (P.choice c a b k) env rs =
    let x = expression_rows env c rs in
    let y = statement_rows is a env x.rows in
    let z = statement_rows is b env y.rows in
    let w : ℕ → Bool = λ i. assigns a i || assigns b i in
    let m = merge w 0 x.at is y.env z.env z.rows in
    omega (
      arith,
      expression_few env c rs,
      statements_few is a env x.rows,
      statements_few is b env y.rows,
      merge_few w x.at (length is) 0 is y.env z.env z.rows (omega arith),
      statements_few is k m.env m.rows,
    )

pub table_few : (is : List Info) (p : Stmts) → length (table_of is p).rows ≤ weight (length is) p + length is
unfolding table_of
table_few is p = omega (arith, statements_few is p (rows_from 0 is) (reads 0 is), reads_length 0 is)
