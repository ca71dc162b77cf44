-- What the refusals 1 to 4 of a text are.
use Rattle.std.specs.Prelude.{◌≡◌, List, ℕ, ◌+◌, ◌*◌, ◌≤◌, length}
use Rattle.paper.specs.Refusals.{Answer, ◌>>=◌}
use Rattle.paper.specs.Words.{words_of}
use Rattle.paper.specs.Source.{Program}
use Rattle.paper.specs.Reading.{program_of}
use Rattle.paper.specs.Judge.{short_enough}
use Rattle.tree.specs.Trees.{program_at}

-- 1 to 4: the text is short enough, is all words, and has the grammar's shape
abbrev pub shaped : List ℕ → Answer Program
shaped t = do
  short ← short_enough t
  ts ← words_of t
  program_of ts

-- the pool p has room for a node to each byte of a text that is short enough
abbrev pub TreeFits : List ℕ → List ℕ → Type 0
TreeFits t p = length t ≤ 8192 → 4 * length t + 4 ≤ length p

-- the program x of a text that is short enough: its tree in the pool p, at the root
pub record Stands (t p : List ℕ) (x : Program) (root : ℕ) : Type 0 where
  pub program : program_at t p root ≡ x
  pub few : root ≤ length t
  pub short : length t ≤ 8192
