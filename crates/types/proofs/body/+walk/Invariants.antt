use mathlib.Core.Path.{◌≡◌}
use mathlib.Core.List.{List}
use Prim.Native.Nat.{ℕ, ◌+◌, ◌*◌, ◌≤◌}
use lib.ListN.{length}
use Rattle.std.specs.Prelude.{Option}
use Rattle.tree.specs.Trees.{front_at, arms_at}
use Rattle.types.specs.Statements.{Walks, WalksArms}
use Rattle.types.proofs.body.+walk.Given as goal

abbrev pub decreases-arms : goal.decreases-arms
decreases-arms l = 2 * l.n.at

abbrev pub decreases-choice : goal.decreases-choice
decreases-choice l = 2 * l.n.at

abbrev pub decreases-repeat : goal.decreases-repeat
decreases-repeat l = 2 * l.n.at

abbrev pub decreases-selection : goal.decreases-selection
decreases-selection l = 2 * l.n.at

abbrev pub decreases-statements : goal.decreases-statements
decreases-statements l = 2 * l.n.at + 1

-- a walk of what is left makes one of the whole
abbrev pub invariant-statements-loop-x : goal.invariant-statements-loop-x
invariant-statements-loop-x l =
    record {
      pool : l.rest.pool ≡ l.n.pool;
      at : l.rest.at ≤ l.n.at;
      loops : length l.loops ≡ length l.initial.loops;
      whole : (after : List ℕ) (r : Option ℕ)
          → Walks l.vars.text.now l.vars.pool.now l.vars.table.now l.loops after l.depth (front_at l.vars.text.now l.n.pool.now l.rest.at) l.x r
          → Walks l.vars.text.now l.vars.pool.now l.vars.table.now l.initial.loops after l.depth (front_at l.vars.text.now l.n.pool.now l.n.at) l.fn.best r;
    }

abbrev pub decreases-statements-loop-x : goal.decreases-statements-loop-x
decreases-statements-loop-x l = l.rest.at

abbrev pub invariant-arms-loop-y : goal.invariant-arms-loop-y
invariant-arms-loop-y l =
    record {
      pool : l.rest.pool ≡ l.n.pool;
      at : l.rest.at ≤ l.n.at;
      loops : length l.loops ≡ length l.initial.loops;
      whole : (after : List ℕ) (r : Option ℕ)
          → WalksArms l.vars.text.now l.vars.pool.now l.vars.table.now l.loops after l.depth (arms_at l.vars.text.now l.n.pool.now l.rest.at) l.s l.y r
          → WalksArms l.vars.text.now l.vars.pool.now l.vars.table.now l.initial.loops after l.depth (arms_at l.vars.text.now l.n.pool.now l.n.at) l.s l.fn.best r;
    }

abbrev pub decreases-arms-loop-y : goal.decreases-arms-loop-y
decreases-arms-loop-y l = l.rest.at
