use mathlib.Core.Path.{◌≡◌}
use mathlib.Core.List.{List}
use Prim.Native.Nat.{ℕ}
use Rattle.paper.specs.Typing as T
use Rattle.tree.specs.Trees.{declared_at}
use Rattle.faults.specs.Soonest.{soonest, sooner}
use Rattle.types.proofs.declared.declarations.Given as goal

abbrev pub invariant-loop-rest : goal.invariant-loop-rest
invariant-loop-rest l =
    (l.rest.pool ≡ l.n.pool)
    × ((t : List ℕ) → sooner l.x (soonest (T.declaration_faults (declared_at t l.n.pool.now l.rest.at))) ≡ sooner l.fn.best (soonest (T.declaration_faults (declared_at t l.n.pool.now l.n.at))))

abbrev pub decreases-loop-rest : goal.decreases-loop-rest
decreases-loop-rest l = l.rest.at
