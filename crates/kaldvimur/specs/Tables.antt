-- What `table` answers, and what it leaves in lent memory.
use Rattle.std.specs.Prelude.{◌≡◌, List, ℕ, Result}
use Rattle.paper.specs.declared.Refusal.{Refusal}
use Rattle.paper.specs.Refusals.{given, ◌>>=◌}
use Rattle.paper.specs.Judge.{table_into}
use Rattle.lent.specs.Outcomes.{outcome, left}
use Rattle.kaldvimur.specs.declared.tables.Sizes.{Sizes}

-- n rows and k cells
abbrev pub sized : ℕ → ℕ → Sizes
sized n k = record { rows = n; cells = k }

pub record TableDid (t oldRows oldCells newRows newCells : List ℕ) (r : Result Sizes Refusal) : Type 0 where
  pub answer : r ≡ outcome (λ x. sized x.row_count x.cell_count) (table_into t oldRows oldCells)
  pub rows : newRows ≡ left oldRows (table_into t oldRows oldCells >>= λ x. given x.rows)
  pub cells : newCells ≡ left oldCells (table_into t oldRows oldCells >>= λ x. given x.cells)
