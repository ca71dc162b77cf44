use mathlib.Core.Bool.{Bool}
use Rattle.constants.specs.Answers.{TypedAt}
use Rattle.constants.proofs.is_typed.Given as goal

-- what the rest begins with, the whole begins with
abbrev pub invariant-loop-first : goal.invariant-loop-first
invariant-loop-first l = (r : Bool) → TypedAt l.first.pool.now l.first.at r → TypedAt l.n.pool.now l.n.at r

abbrev pub decreases-loop-first : goal.decreases-loop-first
decreases-loop-first l = l.first.at
