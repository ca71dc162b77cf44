-- What a line of a record holds, and a table with its numbers.
use Rattle.std.specs.Prelude.{◌≡◌, List, [], ◌∷◌, ◌++◌, ℕ, ◌≤◌, ◌<◌, ℤ, length, take}
use Rattle.paper.specs.Tables as P
use Rattle.lent.specs.Tables.{lent_with}
use Rattle.numbers.specs.Spellings.{Spelled}
use Rattle.try_runs.specs.declared.compare.Lent.{Lent}

-- where the first n values of a buffer are those of a line
pub record Holds (s : List ℕ) (old new : List ℤ) (n : ℕ) : Type 0 where
  pub kept : length new ≡ length old
  pub room : n ≤ length new
  pub values : (x : List ℕ) × (s ≡ x ++ (10 ∷ [])) × Spelled x (take n new)

-- the table lent with its buffers and numbers
abbrev pub table_of : Lent → P.Lent
table_of t = lent_with t.rows.now t.cells.now t.row_count t.cell_count
