use mathlib.Core.Path.{◌≡◌}
use Prim.Native.Nat.{ℕ, ◌≤◌}
use Rattle.std.specs.Prelude.{Option}
use Rattle.paper.specs.Heights.{subscripts}
use Rattle.tree.specs.Trees.{expr_at}
use Rattle.heights.specs.Measured.{With}
use Rattle.heights.proofs.+subscripts.Given as goal

abbrev pub decreases-subscripts : goal.decreases-subscripts
decreases-subscripts l = l.n.at

-- what the left operand gives from here is what the whole gives
abbrev pub invariant-loop-rest : goal.invariant-loop-rest
invariant-loop-rest l =
    (l.rest.pool ≡ l.initial.rest.pool) × (l.rest.at ≤ l.initial.rest.at) × ((r : Option ℕ) → With l.x r (λ t. subscripts (expr_at t l.rest.pool.now l.rest.at))
    → With l.initial.x r (λ t. subscripts (expr_at t l.initial.rest.pool.now l.initial.rest.at)))

abbrev pub decreases-loop-rest : goal.decreases-loop-rest
decreases-loop-rest l = l.rest.at
