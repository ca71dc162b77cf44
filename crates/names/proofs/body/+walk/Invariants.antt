use mathlib.Core.Path.{◌≡◌}
use Prim.Native.Nat.{◌+◌, ◌*◌, ◌≤◌}
use lib.ListN.{length}
use Rattle.variables.specs.Table.{variables_in}
use Rattle.names.specs.Walks.{after, statements_at, arm_faults_at, Kept}
use Rattle.names.proofs.body.+walk.Given as goal

abbrev pub decreases-arms : goal.decreases-arms
decreases-arms l = 2 * l.n.at + 1

abbrev pub decreases-branches : goal.decreases-branches
decreases-branches l = 2 * l.n.at + 2

abbrev pub decreases-repeat : goal.decreases-repeat
decreases-repeat l = 2 * l.n.at

abbrev pub decreases-statements : goal.decreases-statements
decreases-statements l = 2 * l.n.at + 1

abbrev pub invariant-arms-loop-x : goal.invariant-arms-loop-x
invariant-arms-loop-x l =
    let vs = variables_in l.vars.text.now l.vars.pool.now l.vars.table.now in
    (l.rest.at ≤ l.n.at)
    × (length l.loops ≡ length l.initial.loops)
    × Kept l.depth l.initial.loops l.loops
    × (after l.x (arm_faults_at vs l.vars.text.now l.rest.pool.now l.loops l.depth l.rest.at)
    ≡ after l.fn.best (arm_faults_at vs l.vars.text.now l.n.pool.now l.initial.loops l.depth l.n.at))

abbrev pub decreases-arms-loop-x : goal.decreases-arms-loop-x
decreases-arms-loop-x l = l.rest.at

abbrev pub invariant-statements-loop-x : goal.invariant-statements-loop-x
invariant-statements-loop-x l =
    let vs = variables_in l.vars.text.now l.vars.pool.now l.vars.table.now in
    (l.rest.at ≤ l.n.at)
    × (length l.loops ≡ length l.initial.loops)
    × Kept l.depth l.initial.loops l.loops
    × (after l.x (statements_at vs l.vars.text.now l.rest.pool.now l.loops l.depth l.rest.at)
    ≡ after l.fn.best (statements_at vs l.vars.text.now l.n.pool.now l.initial.loops l.depth l.n.at))

abbrev pub decreases-statements-loop-x : goal.decreases-statements-loop-x
decreases-statements-loop-x l = l.rest.at
