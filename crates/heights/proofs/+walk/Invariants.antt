use mathlib.Core.Path.{◌≡◌}
use Prim.Native.Nat.{ℕ, ◌+◌, ◌*◌, ◌≤◌}
use Rattle.std.specs.Prelude.{Option}
use Rattle.paper.specs.Heights.{statement_faults}
use Rattle.tree.specs.Trees.{arms_at}
use Rattle.heights.specs.Measured.{With, listed}
use Rattle.heights.proofs.+walk.Given as goal

abbrev pub decreases-arms : goal.decreases-arms
decreases-arms l = 2 * l.n.at

abbrev pub decreases-branches : goal.decreases-branches
decreases-branches l = 2 * l.n.at + 1

abbrev pub decreases-statements : goal.decreases-statements
decreases-statements l = 2 * l.n.at

-- what the arms that are left give from here is what all give
abbrev pub invariant-arms-loop-x : goal.invariant-arms-loop-x
invariant-arms-loop-x l =
    (l.rest.pool ≡ l.initial.rest.pool) × (l.rest.at ≤ l.initial.rest.at) × ((r : Option ℕ) → With l.x r (λ t. statement_faults (arms_at t l.rest.pool.now l.rest.at) l.h)
    → With l.initial.x r (λ t. statement_faults (arms_at t l.initial.rest.pool.now l.initial.rest.at) l.h))

abbrev pub decreases-arms-loop-x : goal.decreases-arms-loop-x
decreases-arms-loop-x l = l.rest.at

-- the same of a list
abbrev pub invariant-statements-loop-x : goal.invariant-statements-loop-x
invariant-statements-loop-x l =
    (l.rest.pool ≡ l.initial.rest.pool) × (l.rest.at ≤ l.initial.rest.at) × ((r : Option ℕ) → With l.x r (λ t. listed t l.rest.pool.now l.rest.at)
    → With l.initial.x r (λ t. listed t l.initial.rest.pool.now l.initial.rest.at))

abbrev pub decreases-statements-loop-x : goal.decreases-statements-loop-x
decreases-statements-loop-x l = l.rest.at
