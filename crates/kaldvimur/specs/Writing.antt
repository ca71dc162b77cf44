-- The table of the program that judging left in the lent buffers.
use Rattle.std.specs.Prelude.{◌≡◌, List, ℕ, ◌≤◌, length}
use Rattle.paper.specs.Tables.{Lent, lent_of}
use Rattle.paper.specs.Judge.{table_of_sound, over}
use Rattle.table.specs.Growth.{Room}
use Rattle.judge.specs.declared.Judged.{Judged}
use Rattle.kaldvimur.specs.Prints.{Lies, Of}

-- the program's parts lie within their buffers, and the cells have room
pub record Writable (p table q : List ℕ) (j : Judged) (cells : List ℕ) : Type 0 where
  pub lies : Lies p table q j
  pub few : j.cells ≤ 64
  pub room : j.cells ≤ length cells

-- the table t in front of what the buffers held, and the number of its rows
pub record Written (t : Lent) (oldRows oldCells newRows newCells : List ℕ) (r : ℕ) : Type 0 where
  pub count : r ≡ t.row_count
  pub rows : newRows ≡ over t.rows oldRows
  pub cells : newCells ≡ over t.cells oldCells

-- where its rows have room
abbrev pub Writes : List ℕ → List ℕ → List ℕ → Judged → List ℕ → List ℕ → List ℕ → List ℕ → ℕ → Type 0
Writes p table q j oldRows oldCells newRows newCells r =
    (t : List ℕ) → Of t p table q j
    (λ a. Room oldRows (lent_of (table_of_sound a)).row_count → Written (lent_of (table_of_sound a)) oldRows oldCells newRows newCells r)
