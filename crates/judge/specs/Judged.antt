-- What judging leaves: a refusal, or the program in the lent buffers.
use Rattle.std.specs.Prelude.{◌≡◌, List, ℕ, ◌+◌, ◌*◌, ◌≤◌, length, take}
use Rattle.paper.specs.Judge.{Sound}
use Rattle.tree.specs.Trees.{program_at}
use Rattle.variables.specs.Table.{listed_in}
use Rattle.plain.specs.Flat.{list_at}
use Rattle.shaped.specs.Shapes.{TreeFits}
use Rattle.judge.specs.declared.Judged.{Judged}

-- the lent buffers have room: the pool p and the table for a text of this length, the pool q for every ST0
pub record Roomy (t p table q : List ℕ) : Type 0 where
  pub tree : TreeFits t p
  pub nodes : length p ≤ 262144
  pub variables : length t ≤ 8192 → 4 * length t ≤ length table
  pub plain : 48016 ≤ length q
  pub numbered : length q ≤ 262144

-- the accepted program a: its tree in the pool p, its variables in the front of the table, its ST0 in the pool q
pub record Stands (t p table q : List ℕ) (a : Sound) (r : Judged) : Type 0 where
  pub root : 4 * r.root + 4 ≤ length p
  pub program : program_at t p r.root ≡ a.program
  pub room : 4 * r.variables ≤ length table
  pub variables : listed_in t p (take (4 * r.variables) table) ≡ a.variables
  pub cells : r.cells ≡ length a.cells
  pub few : r.cells ≤ 64
  pub list : 4 * r.list + 4 ≤ length q
  pub plain : list_at q r.list ≡ a.plain
  pub weight : r.weight ≡ a.weight
  pub light : r.weight ≤ 3000
