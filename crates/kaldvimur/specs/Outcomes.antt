-- What `print` answers, and what it leaves in lent memory.
use Rattle.std.specs.Prelude.{◌≡◌, List, ℕ, length}
use Rattle.paper.specs.Refusals.{Answer, refused, given}
use Rattle.paper.specs.Judge.{Sound, judge, print_of, print_into}
use Rattle.lent.specs.Outcomes.{Outcome, outcome, left}

-- how many bytes the print of a text has, if it is accepted
abbrev pub printed : Answer Sound → ℕ
printed (refused w p) = 0
printed (given a) = length (print_of a)

pub record PrintDid (t old new : List ℕ) (r : Outcome) : Type 0 where
  pub answer : r ≡ outcome (λ _. printed (judge t)) (print_into t old)
  pub lent : new ≡ left old (print_into t old)
