use mathlib.Core.Path.{◌≡◌}
use Prim.Native.Nat.{◌<◌}
use Rattle.tree.specs.Trees.{labels_at}
use Rattle.heights.specs.Measured.{first_place}
use Rattle.heights.proofs.first_label.Given as goal

-- the labels before have the first label of them all
abbrev pub invariant-loop-before : goal.invariant-loop-before
invariant-loop-before l =
    (l.rest.pool ≡ l.initial.rest.pool) × (0 < l.rest.at) × (first_place (labels_at l.rest.pool.now l.rest.at) ≡ first_place (labels_at l.initial.rest.pool.now l.initial.rest.at))

abbrev pub decreases-loop-before : goal.decreases-loop-before
decreases-loop-before l = l.rest.at
