-- What the parts of a run answer.
use Rattle.std.specs.Prelude.{◌≡◌, cond, List, ℕ, min}
use Rattle.paper.specs.Types.{is_true}
use Rattle.paper.specs.Plain.{State, Stmts, Ran, value_of, run}
use Rattle.tree.specs.Nodes.{child_of}
use Rattle.plain.specs.Flat.{expr_at}

-- the list that an IF runs
abbrev pub branch_of : List ℕ → ℕ → State → ℕ
branch_of p i s = cond (is_true (value_of s (expr_at p (child_of p i 1)))) (child_of p i 2) (child_of p i 3)

-- a run from its start
abbrev pub ran_from : Stmts → State → Ran
ran_from k s = run k (record { state = s; steps = 0 })

-- the state that a list leaves, and its steps, 65535 standing for more
pub record Runs (k : Stmts) (old new : State) (r : ℕ) : Type 0 where
  pub state : new ≡ (ran_from k old).state
  pub steps : r ≡ min 65535 (ran_from k old).steps
