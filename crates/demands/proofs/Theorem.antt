-- Demand 3, from acceptance alone.
use mathlib.Core.Path.{◌≡◌, refl, sym, ap, ◌∙◌, subst}
use mathlib.Core.Bool.{Bool, true, false, cond, true≢false}
use mathlib.Core.Option.{some}
use mathlib.Core.List.{List, [], ◌∷◌, map}
use Prim.Native.Nat.{ℕ, ◌≤◌}
use native.Mathlib.Omega.{arith}
use lib.IntN.{pos}
use lib.ListN.{length, replicate, length-replicate}
use Rattle.paper.specs.Source.{Program, Declared}
use Rattle.paper.specs.Names.{Info, variables_of, cells_of, is_among}
use Rattle.paper.specs.Plain.{State, Ran, run, figure, weight}
use Rattle.paper.specs.Meaning as M
use Rattle.paper.specs.Unwinding.{Unwound, no_selector, unwound_program}
use Rattle.paper.specs.Tables.{table_of, run_table}
use Rattle.paper.specs.Judge.{Sound, put_readings, started, scan_direct, scan_plain, scan_table, table_of_sound, run_direct, run_plain, run_by_table}
use Rattle.demands.specs.InTypes.{InType, InTypes, ReadingsIn, All}
use Rattle.demands.specs.Trees.{tree_value, expressions}
use Rattle.demands.specs.Demand3.{run_by_expressions, states, Demand3, Demand3ForAll}
use Rattle.demands.proofs.Answers.{none_some}
use Rattle.demands.proofs.Typed.{WellTyped}
use Rattle.demands.proofs.Cells.{few_cells}
use Rattle.demands.proofs.PlainRuns.{run_steps, run_in_types}
use Rattle.demands.proofs.Expressions.{Agree}
use Rattle.demands.proofs.Means.{Means, none_selected}
use Rattle.demands.proofs.Statements.{none_selects, unwinds}
use Rattle.demands.proofs.TreeRuns.{expressions_run}
use Rattle.demands.proofs.Rows.{table_runs, table_few}
use Rattle.demands.proofs.Rule11.{ReadsBack, table_keeps}
use Rattle.demands.proofs.Accepted.{sound_of, Accepted, accepted}

-- ---- states

in_types_length : (is : List Info) (s : State) → InTypes is s → length s ≡ length is
in_types_length [] [] h = refl
in_types_length [] (v ∷ s) h = absurd h
in_types_length (i ∷ is) [] h = absurd h
in_types_length (i ∷ is) (v ∷ s) h = let k = in_types_length is s h.1 in omega arith

-- readings in their types keep a state in its types
put_in_types : (is : List Info) (xs s : State) → ReadingsIn is xs → InTypes is s → InTypes is (put_readings is xs s)
unfolding put_readings
put_in_types [] xs [] r h = tt
put_in_types [] xs (v ∷ s) r h = absurd h
put_in_types (i ∷ is) [] s r h = absurd r
put_in_types (i ∷ is) (x ∷ xs) [] r h = absurd h
put_in_types (i ∷ is) (x ∷ xs) (v ∷ s) r h = (go i.is_input refl, put_in_types is xs s r.1 h.1)
  where
    go : (b : Bool) → i.is_input ≡ b → InType i (cond i.is_input x v)
    go true e = rw e (r.0 e)
    go false e = rw e h.0

-- ---- one program, whose statements and table have been shown to agree

module _ (pr : Program) (u : Unwound) where
  abbrev one : Sound
  one = sound_of pr u

  module _ (same : (r : Ran) → length r.state ≡ length one.cells → M.run one.variables pr.body (pos 0) r ≡ some (run u.plain r))
      (typed : WellTyped one.cells u.plain) where
    -- the state with which a scan's statements start
    put_length : (x s : State) → ReadingsIn one.cells x → InTypes one.cells s → length (put_readings one.cells x s) ≡ length one.cells
    put_length x s r h = in_types_length one.cells (put_readings one.cells x s) (put_in_types one.cells x s r h)

    scan_in_types : (x s : State) → ReadingsIn one.cells x → InTypes one.cells s → InTypes one.cells (scan_plain one x s).state
    unfolding scan_plain
    scan_in_types x s r h = run_in_types one.cells u.plain (started one x s) typed (put_in_types one.cells x s r h)

    scan_steps : (x s : State) → (scan_plain one x s).steps ≤ figure u.plain
    unfolding scan_plain
    scan_steps x s = let k = run_steps u.plain (started one x s) in omega arith

    -- what holds of every scan holds of each scan of a run
    every_scan : (P : Ran → Type 0)
        → ((x s : State) → ReadingsIn one.cells x → InTypes one.cells s → P (scan_plain one x s))
        → (xs : List State) (s : State) → All (ReadingsIn one.cells) xs → InTypes one.cells s → All P (run_plain one xs s)
    unfolding run_plain
    every_scan P f [] s r h = tt
    every_scan P f (x ∷ xs) s r h = (f x s r.0 h, every_scan P f xs (scan_plain one x s).state r.1 (scan_in_types x s r.0 h))

    -- as written
    runs_same : (xs : List State) (s : State) → All (ReadingsIn one.cells) xs → InTypes one.cells s
        → run_direct one xs s ≡ some (run_plain one xs s)
    unfolding run_direct run_plain scan_direct scan_plain
    runs_same [] s r h = refl
    runs_same (x ∷ xs) s r h =
        rw (
          same (started one x s) (put_length x s r.0 h),
          runs_same xs (scan_plain one x s).state r.1 (scan_in_types x s r.0 h),
        ) refl

    -- a run scan by scan, where each scan leaves the state that ST0 leaves
    runs_by : (F : List State → State → List State) (f : State → State → State)
        → ((s : State) → F [] s ≡ [])
        → ((x : State) (xs : List State) (s : State) → F (x ∷ xs) s ≡ f x s ∷ F xs (f x s))
        → ((x s : State) → ReadingsIn one.cells x → InTypes one.cells s → f x s ≡ (scan_plain one x s).state)
        → (xs : List State) (s : State) → All (ReadingsIn one.cells) xs → InTypes one.cells s
        → F xs s ≡ states (run_plain one xs s)
    unfolding run_plain states
    runs_by F f stop step e [] s r h = stop s
    runs_by F f stop step e (x ∷ xs) s r h =
        rw (
          step x xs s,
          e x s r.0 h,
          runs_by F f stop step e xs (scan_plain one x s).state r.1 (scan_in_types x s r.0 h),
        ) refl

    -- by the expressions
    expressions_scan : (x s : State) → ReadingsIn one.cells x → InTypes one.cells s
        → map (tree_value (put_readings one.cells x s)) (expressions (length one.cells) u.plain) ≡ (scan_plain one x s).state
    unfolding scan_plain
    expressions_scan x s r h = rw (← put_length x s r h) (expressions_run (put_readings one.cells x s) u.plain 0)

    -- by the table
    table_scan : (t : ReadsBack (table_of one.cells u.plain)) (x s : State) → ReadingsIn one.cells x → InTypes one.cells s
        → scan_table t.table x s ≡ (scan_plain one x s).state
    unfolding scan_table table_of
    table_scan t x s r h =
        let s' = put_readings one.cells x s in
        ap (λ (is : List Info). run_table t.table (put_readings is x s)) t.same_cells
        ∙ t.same_run s'
        ∙ table_runs one.cells u.plain s' typed (put_length x s r h)
        ∙ expressions_scan x s r h

    holds : u.weight ≡ weight (length one.cells) u.plain → u.weight ≤ 3000 → length one.cells ≤ 64
        → (s : State) → InTypes one.cells s → (xs : List State) → All (ReadingsIn one.cells) xs → Demand3 one s xs
    unfolding run_by_expressions run_by_table table_of_sound
    holds weighed light few s hs xs hx =
        let p = u.plain in
        let is = one.cells in
        let rows = table_few is p in
        let t = table_keeps is p typed few (omega arith) in
        record {
          no_fault = λ e. none_some (sym e ∙ runs_same xs s hx hs);
          as_written = runs_same xs s hx hs;
          in_type = every_scan (λ r. InTypes is r.state) scan_in_types xs s hx hs;
          in_steps = every_scan (λ r. r.steps ≤ figure p) (λ x s _ _. scan_steps x s) xs s hx hs;
          weighed = weighed;
          not_heavy = light;
          few_cells = few;
          by_expressions =
              runs_by (run_by_expressions one) (λ x s. map (tree_value (put_readings is x s)) (expressions (length is) p))
              (λ _. refl) (λ _ _ _. refl) expressions_scan xs s hx hs;
          table = t.table;
          keeps_rule_11 = t.is;
          few_rows = rw (t.same_rows, weighed) rows;
          by_table = runs_by (run_by_table t.table) (scan_table t.table) (λ _. refl) (λ _ _ _. refl) (table_scan t) xs s hx hs;
        }

-- ---- any accepted text

-- no FOR is around a program
none_agree : (ds : List Declared) (env s : State) → Agree (variables_of ds) [] env s
unfolding is_among
none_agree ds env s n c a e = absurd (true≢false (sym a))

-- an accepted text, and what its walk gave
pub walk_means : (text : List ℕ) (a : Sound) (k : Accepted text a)
    → let ds = k.program.declared in
    Means ds [] (replicate (length (cells_of (variables_of ds))) 0) no_selector (pos 0) (M.run (variables_of ds) k.program.body (pos 0)) 0 k.walked
unfolding unwound_program
walk_means text a k =
    let pr = k.program in
    let ds = pr.declared in
    let n = length (cells_of (variables_of ds)) in
    unwinds ds pr.body [] (replicate n 0) no_selector (pos 0) 0 k.walked (none_selects ds) (length-replicate n 0)
    (record { named = k.named; typed = k.typed; walk = k.walk })

pub demand_3 : Demand3ForAll
demand_3 text a h s hs xs hx =
    let k = accepted text a h in
    let pr = k.program in
    let ds = pr.declared in
    let means = walk_means text a k in
    subst (λ (b : Sound). (s : State) → InTypes b.cells s → (xs : List State) → All (ReadingsIn b.cells) xs → Demand3 b s xs) k.is
    (holds pr k.walked
    (λ r l. means.same r l (none_agree ds (replicate (length (cells_of (variables_of ds))) 0) r.state) (none_selected r.state))
    means.typed
    (means.weighed ∙ omega arith)
    (means.light (omega arith))
    (few_cells ds k.declared))
    s hs xs hx
