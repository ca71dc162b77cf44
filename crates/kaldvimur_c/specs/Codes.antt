-- An answer as one number, and what is left in lent memory.
use Rattle.std.specs.Prelude.{◌≡◌, ℕ, ◌+◌, ◌*◌, ◌<◌, Ok, Err}
use Rattle.paper.specs.declared.Why.{Why}
use Rattle.paper.specs.Refusals.{Answer, refused, given, number_of}
use Rattle.lent.specs.Outcomes.{Outcome, left}

-- a refusal: its number above, its place below
abbrev pub code_of : Why → ℕ → ℕ
code_of w p = number_of w * 65536 + p

-- 0 for done
abbrev pub answered : {A : Type 0} → Answer A → ℕ
answered (refused w p) = code_of w p
answered (given x) = 0

-- the same of an outcome
abbrev pub told : Outcome → ℕ
told (Ok n) = 0
told (Err e) = code_of e.why e.place

-- its place leaves the number as it is
abbrev pub Near : Outcome → Type 0
Near (Ok n) = Unit {0}
Near (Err e) = e.place < 65536

-- f of all that is lent for change: its code is the answer, and what it gives is left there; a refusal leaves what was
pub record Did {A : Type 0} (f : A → Answer A) (old new : A) (r : ℕ) : Type 0 where
  pub answer : r ≡ answered (f old)
  pub lent : new ≡ left old (f old)
