-- The print of the program that judging left in the lent buffers.
use Rattle.std.specs.Prelude.{◌≡◌, List, ◌++◌, ℕ, ◌+◌, ◌*◌, ◌≤◌, length}
use Rattle.paper.specs.Refusals.{given}
use Rattle.paper.specs.Judge.{Sound, judge, print_of}
use Rattle.print.specs.Printed.{Printed}
use Rattle.judge.specs.declared.Judged.{Judged}
use Rattle.judge.specs.Judged.{Stands}

-- the program's parts lie within the pool p, the table and the pool q
pub record Lies (p table q : List ℕ) (j : Judged) : Type 0 where
  pub root : 4 * j.root + 4 ≤ length p
  pub room : 4 * j.variables ≤ length table
  pub list : 4 * j.list + 4 ≤ length q

-- what holds of the accepted program that stands there, if the text t has one
abbrev pub Of : List ℕ → List ℕ → List ℕ → List ℕ → Judged → (Sound → Type 0) → Type 0
Of t p table q j Q = (a : Sound) → judge t ≡ given a → Stands t p table q a j → Q a

abbrev pub Prints : List ℕ → List ℕ → List ℕ → List ℕ → Judged → List ℕ → List ℕ → ℕ → Type 0
Prints t p table q j old new r = Of t p table q j (λ a. Printed old new 0 (λ k. print_of a ++ k) r)

abbrev pub Counts : List ℕ → List ℕ → List ℕ → List ℕ → Judged → ℕ → Type 0
Counts t p table q j r = Of t p table q j (λ a. r ≡ length (print_of a))
