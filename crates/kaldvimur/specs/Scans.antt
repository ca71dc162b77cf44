-- What starting and scanning answer, and what they leave in the lent state.
use Rattle.std.specs.Prelude.{◌≡◌, List, ℕ, ℤ, length}
use Rattle.paper.specs.Refusals.{Answer, refused, given, ◌>>=◌}
use Rattle.paper.specs.Judge.{Sound, judge, start_into, Scanned, scan_from}
use Rattle.lent.specs.Outcomes.{Outcome, outcome, left}

-- how many cells an accepted text has
abbrev pub celled : Answer Sound → ℕ
celled (refused w p) = 0
celled (given a) = length a.cells

pub record StartDid (t : List ℕ) (old new : List ℤ) (r : Outcome) : Type 0 where
  pub answer : r ≡ outcome (λ _. celled (judge t)) (start_into t old)
  pub lent : new ≡ left old (start_into t old)

abbrev pub state_of : Answer Scanned → Answer (List ℤ)
state_of o = o >>= λ x. given x.state

pub record ScanDid (t : List ℕ) (inputs old new : List ℤ) (r : Outcome) : Type 0 where
  pub answer : r ≡ outcome (λ x. x.steps) (scan_from t old inputs)
  pub lent : new ≡ left old (state_of (scan_from t old inputs))
