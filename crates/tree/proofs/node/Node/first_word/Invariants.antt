use mathlib.Core.Path.{◌≡◌}
use mathlib.Core.List.{List}
use Prim.Native.Nat.{ℕ}
use Rattle.paper.specs.Heights.{first_word}
use Rattle.tree.specs.Trees.{expr_at}
use Rattle.tree.proofs.node.Node.first_word.Given as goal

-- a left operand has the first word of the whole
abbrev pub invariant-loop-rest : goal.invariant-loop-rest
invariant-loop-rest l =
    (l.rest.pool ≡ l.initial.rest.pool) × ((t : List ℕ) → first_word (expr_at t l.rest.pool.now l.rest.at) ≡ first_word (expr_at t l.initial.rest.pool.now l.initial.rest.at))

abbrev pub decreases-loop-rest : goal.decreases-loop-rest
decreases-loop-rest l = l.rest.at
