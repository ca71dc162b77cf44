-- The run of a node's list, from those of the lists below it.
use mathlib.Core.Path.{◌≡◌, refl, sym, ap, ◌∙◌}
use mathlib.Core.Bool.{Bool, true, false, cond}
use mathlib.Core.List.{List}
use Prim.Native.Nat.{ℕ, suc, ◌+◌, ◌<◌, min}
use native.Mathlib.Omega.{arith}
use lib.ListN.{length, set}
use Rattle.paper.specs.Types.{is_true}
use Rattle.paper.specs.Plain.{State, Expr, Stmts, done, assign, choice, Ran, carried, tested, value_of, run, ◌⨾◌}
use Rattle.demands.proofs.PlainRuns.{run-⨾, run_length, taken}
use Rattle.tree.specs.Nodes.{word_of, child_of}
use Rattle.tree.proofs.Decodes.{child_less}
use Rattle.plain.specs.Flat.{expr_at, list_at}
use Rattle.plain.specs.Kinds.{operand, sublist, IsStatement}
use Rattle.plain.specs.declared.kinds.Statement.TheVariants as F
use Rattle.run.specs.Parts.{branch_of, ran_from, Runs}

-- ---- steps from n on are n more

abbrev after : ℕ → Ran → Ran
after n r = record { state = r.state; steps = n + r.steps }

later : (n : ℕ) (s : State) (m : ℕ) → ◌≡◌ {A = Ran} (record { state = s; steps = suc (n + m) }) (record { state = s; steps = n + suc m })
later n s m = ap (λ k. record { state = s; steps = k }) (omega arith)

-- of the run that a test takes
taken_after : (t : Bool) (a b : Stmts) (n : ℕ) (r : Ran) → run a (after n (tested r)) ≡ after n (run a (tested r)) → run b (after n (tested r)) ≡ after n (run b (tested r))
    → taken t (run a (tested (after n r))) (run b (tested (after n r))) ≡ after n (taken t (run a (tested r)) (run b (tested r)))
taken_after true a b n r x y = ap (run a) (later n r.state r.steps) ∙ x
taken_after false a b n r x y = ap (run b) (later n r.state r.steps) ∙ y

run_after : (p : Stmts) (n : ℕ) (r : Ran) → run p (after n r) ≡ after n (run p r)
unfolding run
run_after done n r = refl
run_after (assign c e k) n r = ap (run k) (later n _ r.steps) ∙ run_after k n (carried c (value_of r.state e) r)
run_after (choice c a b k) n r =
    ap (run k) (taken_after (is_true (value_of r.state c)) a b n r (run_after a n (tested r)) (run_after b n (tested r)))
    ∙ run_after k n _

-- a run from n steps on
from_steps : (p : Stmts) (s : State) (n : ℕ) → run p (record { state = s; steps = n }) ≡ after n (ran_from p s)
from_steps p s n = ap (λ k. run p (record { state = s; steps = k })) (omega arith) ∙ run_after p n (record { state = s; steps = 0 })

-- ---- lists

pub runs_kept : (k : Stmts) (old new : State) (r : ℕ) → Runs k old new r → length new ≡ length old
runs_kept k old new r h = ap length h.state ∙ run_length k _

none_runs : (s : State) → Runs done s s 0
unfolding run
none_runs s = record { state = refl; steps = refl }

-- an IF runs one of its lists
choice_runs : (e : Expr) (a b x : Stmts) (old new : State) (n r : ℕ) → x ≡ cond (is_true (value_of old e)) a b → Runs x old new n → r ≡ min (n + 1) 65535
    → Runs (choice e a b done) old new r
unfolding run
choice_runs e a b x old new n r h g k =
    let q : run (choice e a b done) (record { state = old; steps = 0 }) ≡ after 1 (ran_from x old) =
    go (is_true (value_of old e)) ∙ ap (λ y. after 1 (ran_from y old)) (sym h) in
    record { state = g.state ∙ sym (ap (λ z. z.state) q); steps = omega (arith, k, g.steps, ap (λ z. z.steps) q) }
  where
    go : (t : Bool) → taken t (run a (record { state = old; steps = 1 })) (run b (record { state = old; steps = 1 })) ≡ after 1 (ran_from (cond t a b) old)
    go true = from_steps a old 1
    go false = from_steps b old 1

join_runs : (a b : Stmts) (old mid new : State) (m n r : ℕ) → Runs a old mid m → Runs b mid new n → r ≡ min (m + n) 65535 → Runs (a ⨾ b) old new r
join_runs a b old mid new m n r x y k =
    let start : Ran = record { state = old; steps = 0 } in
    let q : run (a ⨾ b) start ≡ after (ran_from a old).steps (ran_from b mid) =
    run-⨾ a b start ∙ from_steps b (ran_from a old).state (ran_from a old).steps ∙ ap (λ s. after (ran_from a old).steps (ran_from b s)) (sym x.state) in
    record { state = y.state ∙ sym (ap (λ z. z.state) q); steps = omega (arith, k, x.steps, y.steps, ap (λ z. z.steps) q) }

-- ---- nodes

pub branch_less : (p : List ℕ) (i : ℕ) (s : State) → 0 < i → branch_of p i s < i
branch_less p i s l = go (is_true (value_of s (expr_at p (child_of p i 1))))
  where
    go : (t : Bool) → cond t (child_of p i 2) (child_of p i 3) < i
    go true = child_less p i 2 l
    go false = child_less p i 3 l

module _ (p : List ℕ) (i : ℕ) where
  pub nothing_runs : IsStatement p i F.Nothing → (s : State) → Runs (list_at p i) s s 0
  nothing_runs v s = rw v.list (none_runs s)

  pub assign_runs : IsStatement p i F.Assignment → (old new : State) → new ≡ set old (word_of p i 1) (value_of old (operand p i 2)) → Runs (list_at p i) old new 1
  unfolding run
  assign_runs v old new e = rw v.list (record { state = e; steps = refl })

  pub if_runs : IsStatement p i F.Choice → (old new : State) (j n r : ℕ) → j ≡ branch_of p i old → Runs (list_at p j) old new n → r ≡ min (n + 1) 65535
      → Runs (list_at p i) old new r
  if_runs v old new j n r h g k =
      rw v.list (choice_runs _ _ _ (list_at p j) old new n r (ap (list_at p) h ∙ go (is_true (value_of old (operand p i 1)))) g k)
    where
      go : (t : Bool) → list_at p (cond t (child_of p i 2) (child_of p i 3)) ≡ cond t (sublist p i 2) (sublist p i 3)
      go true = refl
      go false = refl

  pub both_runs : IsStatement p i F.List → (old mid new : State) (m n r : ℕ) → Runs (sublist p i 1) old mid m → Runs (sublist p i 2) mid new n
      → r ≡ min (m + n) 65535 → Runs (list_at p i) old new r
  both_runs v old mid new m n r x y k = rw v.list (join_runs _ _ old mid new m n r x y k)
