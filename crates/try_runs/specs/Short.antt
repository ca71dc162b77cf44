-- What it means that a lent buffer is too short: 10 at the place 0, and it holds what it held.
use Rattle.std.specs.Prelude.{◌≡◌, List, ℕ, ◌-◌, pos, length, replicate}
use Rattle.paper.specs.declared.Why.TheVariants.{NoRoom}
use Rattle.paper.specs.Refusals.{Answer, refused, given}
use Rattle.paper.specs.Tables.{Lent}
use Rattle.paper.specs.Judge.{start_into, table_into}
use Rattle.lent.specs.Outcomes.{outcome}
use Rattle.try_runs.specs.Expected.{Wanted, IsAs}

-- making the table of a text in these buffers answers as expected
pub record TablesAs (t rows cells : List ℕ) (w : Wanted) : Type 0 where
  pub answer : IsAs (outcome (λ u. u.cell_count) (table_into t rows cells)) w

-- the buffers are too short for the table of a text, and hold nothing but v afterwards
pub record Untabled (t oldRows oldCells newRows newCells : List ℕ) (v : ℕ) : Type 0 where
  pub answer : table_into t oldRows oldCells ≡ refused NoRoom 0
  pub rows : newRows ≡ replicate (length newRows) v
  pub cells : newCells ≡ replicate (length newCells) v

-- the table of a text is made in buffers of n and k places, and has k cells
abbrev pub MadeIn : List ℕ → ℕ → ℕ → Type 0
MadeIn t n k = (u : Lent) × (table_into t (replicate n 7) (replicate k 7) ≡ given u) × (u.cell_count ≡ k)

-- k cells, and n numbers in the rows of the table, are what a text asks for: with one less of either it is refused
pub record Short (t : List ℕ) (n k : ℕ) : Type 0 where
  pub state : start_into t (replicate (k - 1) (pos 7)) ≡ refused NoRoom 0
  pub rows : table_into t (replicate (n - 1) 7) (replicate k 7) ≡ refused NoRoom 0
  pub cells : table_into t (replicate n 7) (replicate (k - 1) 7) ≡ refused NoRoom 0
  pub made : MadeIn t n k
