-- The first six stages of `judge`, and what they leave of a program that is sound so far.
use Rattle.std.specs.Prelude.{◌≡◌, List, ℕ, ◌+◌, ◌*◌, ◌/◌, ◌≤◌, length, take, Option, Result}
use Rattle.paper.specs.declared.Why.{Why}
use Rattle.paper.specs.declared.Refusal.{Refusal}
use Rattle.paper.specs.declared.Why.TheVariants.{BadName, BadType, TooHigh}
use Rattle.paper.specs.Refusals.{Answer, given, Gives, ◌>>=◌}
use Rattle.paper.specs.Source.{Program}
use Rattle.paper.specs.Names.{variables_of, cells_of, name_faults}
use Rattle.paper.specs.Typing.{type_faults}
use Rattle.paper.specs.Heights.{height_faults}
use Rattle.paper.specs.Judge.{faultless}
use Rattle.tree.specs.Trees.{program_at}
use Rattle.faults.specs.Soonest.{soonest}
use Rattle.variables.specs.Table.{listed_in}
use Rattle.shaped.specs.Shapes.{TreeFits, shaped}
use Rattle.judge.specs.declared.rules.Ruled.{Ruled}

-- 5 to 7 of a program
abbrev pub ruled : Program → Answer Program
ruled pr = do
  named ← faultless BadName (name_faults pr)
  typed ← faultless BadType (type_faults pr)
  low ← faultless TooHigh (height_faults pr)
  given pr

-- 1 to 7 of a text
abbrev pub sound : List ℕ → Answer Program
sound t = shaped t >>= ruled

-- the pool p, the table and the scratch have room for a node, a variable and a name to each byte of a text that is short enough
pub record TextFits (t p table scratch : List ℕ) : Type 0 where
  pub tree : TreeFits t p
  pub variables : length t ≤ 8192 → 4 * length t ≤ length table
  pub names : length t ≤ 8192 → length t ≤ length scratch

-- the table and the scratch have room for the variables of the program at the root
pub record Fits (t p table scratch : List ℕ) (root : ℕ) : Type 0 where
  pub names : length (program_at t p root).declared ≤ length scratch
  pub variables : length (program_at t p root).declared ≤ length table / 4

-- the program pr, sound so far: its tree in the pool p, its variables in the front of the table
pub record Keeps (t p table : List ℕ) (pr : Program) (r : Ruled) : Type 0 where
  pub root : 4 * r.root + 4 ≤ length p
  pub program : program_at t p r.root ≡ pr
  pub room : 4 * r.variables ≤ length table
  pub variables : listed_in t p (take (4 * r.variables) table) ≡ variables_of pr.declared
  pub cells : r.cells ≡ length (cells_of (variables_of pr.declared))
  pub few : r.cells ≤ 64

-- a stage that answers by the soonest fault that was found
abbrev pub Passes : Why → Option ℕ → Result (Unit {0}) Refusal → Type 0
Passes w found r = (faults : List ℕ) → found ≡ soonest faults → Gives (λ sound done. Unit {0}) (faultless w faults) r
