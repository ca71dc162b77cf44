-- What it means that an answer is the expected one, and that a scan is.
use Rattle.std.specs.Prelude.{◌≡◌, List, ℕ, ℤ, Result, Ok, Err}
use Rattle.paper.specs.Refusals.{Answer, number_of}
use Rattle.paper.specs.Tables.{Lent}
use Rattle.paper.specs.Judge.{judge, start_into, scan_from, scan_lent}
use Rattle.pack.specs.declared.Refused.{Refused}
use Rattle.lent.specs.Outcomes.{Outcome, outcome, left}
use Rattle.kaldvimur.specs.Scans.{celled, state_of}

-- what is expected: a count, or a refusal
abbrev pub Wanted : Type 0
Wanted = Result ℕ Refused

-- done with the expected count, or refused with the expected number and place
abbrev pub IsAs : Outcome → Wanted → Type 0
IsAs (Ok n) (Ok m) = n ≡ m
IsAs (Ok n) (Err e) = ⊥
IsAs (Err r) (Ok m) = ⊥
IsAs (Err r) (Err e) = (number_of r.why ≡ e.number) × (r.place ≡ e.place)

-- the same, where what is counted is the number k
abbrev pub counted : Wanted → ℕ → Wanted
counted (Ok m) k = Ok k
counted (Err e) k = Err e

-- starting on the buffer old answers as expected and leaves `after`
pub record StartsAs (t : List ℕ) (old after : List ℤ) (w : Wanted) : Type 0 where
  pub answer : IsAs (outcome (λ _. celled (judge t)) (start_into t old)) w
  pub lent : left old (start_into t old) ≡ after

-- so does a scan by the text
pub record ScansAs (t : List ℕ) (inputs old after : List ℤ) (w : Wanted) : Type 0 where
  pub answer : IsAs (outcome (λ x. x.steps) (scan_from t old inputs)) w
  pub lent : left old (state_of (scan_from t old inputs)) ≡ after

-- so does a scan from a lent table
pub record LentAs (by : Lent → List ℤ → List ℤ → Answer (List ℤ)) (u : Lent) (inputs old after : List ℤ) (w : Wanted) : Type 0 where
  pub answer : IsAs (outcome (λ _. u.cell_count) (by u old inputs)) w
  pub lent : left old (by u old inputs) ≡ after

-- a scan by the text from the state x and one from the table from the state y
pub record BothAs (t : List ℕ) (u : Lent) (inputs x y after : List ℤ) (w : Wanted) : Type 0 where
  pub by_text : ScansAs t inputs x after w
  pub by_table : LentAs scan_lent u inputs y after (counted w u.cell_count)
