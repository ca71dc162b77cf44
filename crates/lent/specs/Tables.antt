-- What the functions on a lent table answer, and what they leave in the lent state.
use Rattle.std.specs.Prelude.{◌≡◌, List, ℕ, ℤ}
use Rattle.paper.specs.Refusals.{Answer}
use Rattle.paper.specs.Tables.{Lent}
use Rattle.paper.specs.Judge.{check_lent}
use Rattle.lent.specs.Outcomes.{Outcome, outcome, left}

-- a table lent, with its numbers of rows and cells
abbrev pub lent_with : List ℕ → List ℕ → ℕ → ℕ → Lent
lent_with rows cells n k = record { rows = rows; cells = cells; row_count = n; cell_count = k }

-- rule 11 looked at
abbrev pub CheckDid : Lent → Outcome → Type 0
CheckDid t r = r ≡ outcome (λ _. t.cell_count) (check_lent t)

-- a scan, by what is asked of the table
pub record ScanDid (by : Lent → List ℤ → List ℤ → Answer (List ℤ)) (t : Lent) (inputs old new : List ℤ) (r : Outcome) : Type 0 where
  pub answer : r ≡ outcome (λ _. t.cell_count) (by t old inputs)
  pub lent : new ≡ left old (by t old inputs)
