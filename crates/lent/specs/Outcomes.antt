-- A function's result by the definition's answer, and what is left in lent memory.
use Rattle.std.specs.Prelude.{ℕ, Result, Ok, Err}
use Rattle.paper.specs.declared.Refusal.{Refusal}
use Rattle.paper.specs.Refusals.{Answer, refused, given, refusal}

-- done, with what is counted; or why not, and a place in the text, if there is one
abbrev pub Outcome : Type 0
Outcome = Result ℕ Refusal

-- what f counts of what was asked for, or the refusal
abbrev pub outcome : {A T : Type 0} → (A → T) → Answer A → Result T Refusal
outcome f (refused w p) = Err (refusal w p)
outcome f (given x) = Ok (f x)

-- a lent buffer: a refusal leaves it as it was
abbrev pub left : {A : Type 0} → A → Answer A → A
left old (refused w p) = old
left old (given new) = new
