-- A scan by the total reading of a lent table.
use Rattle.std.specs.Prelude.{Bool, ◌≡◌, List, [], ℕ, ◌*◌, ◌≤◌, ℤ, length}
use Rattle.std.proofs.Math.Option.{some}
use Rattle.paper.specs.Tables.{Table, lines_in, values, total_in}
use Rattle.paper.specs.Judge.{held, scan_table, scan_by}
use Rattle.rows.specs.Lent.{lent, Answers, IsNext}
use Rattle.lent.specs.Outcomes.{Outcome}
use Rattle.lent.specs.Tables.{ScanDid}

-- whether n rows and these cells have a total reading, whatever the rows
abbrev pub Readable : List ℕ → ℕ → Bool → Type 0
Readable cs n r = (rs : List ℕ) → Answers (total_in (lent rs cs n)) r

-- room for n rows and their values, and a value held for each cell
pub record Runnable (rs cs : List ℕ) (n : ℕ) (start vals : List ℕ) : Type 0 where
  pub rows : 4 * n ≤ length rs
  pub values : n ≤ length vals
  pub cells : length cs ≡ length start

-- the next values of the cells, by n rows
abbrev pub Runs : List ℕ → List ℕ → ℕ → List ℕ → List ℕ → Type 0
Runs rs cs n start new = IsNext cs (values start [] (lines_in n rs)) start new

-- the counts are those of rule 11, and every buffer has room
pub record Scannable (rs cs : List ℕ) (n : ℕ) (inputs old : List ℤ) : Type 0 where
  pub rows : 4 * n ≤ length rs
  pub few : n ≤ 3064
  pub cells : length cs ≤ 64
  pub state : length cs ≤ length old
  pub readings : length cs ≤ length inputs

-- what the cells hold after a scan by whatever table the total reading gives
abbrev pub Follows : List ℕ → List ℕ → ℕ → List ℤ → List ℤ → List ℕ → Type 0
Follows rs cs n inputs old new =
    (u : Table) → total_in (lent rs cs n) ≡ some u → new ≡ scan_table u (held u.cells inputs) (held u.cells old)

-- and the answer and the lent state
abbrev pub Scans : List ℕ → List ℕ → ℕ → List ℤ → List ℤ → List ℤ → Outcome → Type 0
Scans rs cs n inputs old new r =
    (u : Table) → total_in (lent rs cs n) ≡ some u → ScanDid (λ t. scan_by u) (lent rs cs n) inputs old new r
