use mathlib.Core.Path.{◌≡◌}
use mathlib.Core.Option.{some}
use Rattle.paper.specs.Typing as T
use Rattle.tree.specs.Trees.{labels_at}
use Rattle.faults.specs.Soonest.{soonest, sooner}
use Rattle.types.proofs.body.labels.Given as goal

abbrev pub invariant-loop-rest : goal.invariant-loop-rest
invariant-loop-rest l =
    (l.rest.pool ≡ l.n.pool) × (sooner l.y (soonest (T.labels_faults (some l.t) (labels_at l.n.pool.now l.rest.at))) ≡ sooner l.fn.best (soonest (T.labels_faults (some l.t) (labels_at l.n.pool.now l.n.at))))

abbrev pub decreases-loop-rest : goal.decreases-loop-rest
decreases-loop-rest l = l.rest.at
