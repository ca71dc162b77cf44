-- Demand 3: a field for each of its sentences.
use Rattle.std.specs.Prelude.{◌≡◌, List, [], ◌∷◌, map, ℕ, ◌+◌, ◌≤◌, length}
use Rattle.std.proofs.Math.Option.{none, some}
use Rattle.paper.specs.Refusals.{given}
use Rattle.paper.specs.Plain.{State, Ran, figure, weight}
use Rattle.paper.specs.Tables.{Table, table_in, lent_of}
use Rattle.paper.specs.Judge.{Sound, judge, put_readings, run_direct, run_plain, run_by_table, table_of_sound}
use Rattle.demands.specs.InTypes.{InTypes, ReadingsIn, All}
use Rattle.demands.specs.Trees.{tree_value, expressions}

-- the states after each scan, each cell by its expression over the values at the scan's start
unfoldable pub run_by_expressions : Sound → List State → State → List State
run_by_expressions a [] s = []
run_by_expressions a (x ∷ xs) s =
    let r = map (tree_value (put_readings a.cells x s)) (expressions (length a.cells) a.plain) in
    r ∷ run_by_expressions a xs r

unfoldable pub states : List Ran → List State
states [] = []
states (r ∷ rs) = r.state ∷ states rs

-- what holds of an accepted program from the state s, with the readings xs, one for each scan
pub record Demand3 (a : Sound) (s : State) (xs : List State) : Type 0 where
  -- no subscript outside its array, no divisor or loop step of zero
  pub no_fault : ¬ (run_direct a xs s ≡ none)
  -- the statements as written leave what ST0 leaves, in as many steps, after every scan
  pub as_written : run_direct a xs s ≡ some (run_plain a xs s)
  -- each variable stays in its type
  pub in_type : All (λ r. InTypes a.cells r.state) (run_plain a xs s)
  -- no scan takes more steps than the figure
  pub in_steps : All (λ r. r.steps ≤ figure a.plain) (run_plain a xs s)
  -- the weight is that of this program, within its limit, and so are the cells
  pub weighed : a.weight ≡ weight (length a.cells) a.plain
  pub not_heavy : a.weight ≤ 3000
  pub few_cells : length a.cells ≤ 64
  -- the table's expressions leave what the statements do
  pub by_expressions : run_by_expressions a xs s ≡ states (run_plain a xs s)
  -- the table as lent keeps rule 11, has no more rows than were asked room for, and leaves what the statements do
  pub table : Table
  pub keeps_rule_11 : table_in (lent_of (table_of_sound a)) ≡ some table
  pub few_rows : length table.rows ≤ a.weight + length a.cells
  pub by_table : run_by_table table xs s ≡ states (run_plain a xs s)

-- for every accepted text, every starting state and every finite run of scans with values in their types
abbrev pub Demand3ForAll : Type 0
Demand3ForAll =
    (text : List ℕ) (a : Sound) → judge text ≡ given a
    → (s : State) → InTypes a.cells s
    → (xs : List State) → All (ReadingsIn a.cells) xs
    → Demand3 a s xs
