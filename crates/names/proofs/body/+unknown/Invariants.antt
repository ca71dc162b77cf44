use mathlib.Core.Path.{◌≡◌}
use Prim.Native.Nat.{◌≤◌}
use Rattle.variables.specs.Table.{variables_in}
use Rattle.names.specs.Walks.{after, unknown_at}
use Rattle.names.proofs.body.+unknown.Given as goal

abbrev pub decreases-unknown : goal.decreases-unknown
decreases-unknown l = l.n.at

abbrev pub invariant-loop-vars : goal.invariant-loop-vars
invariant-loop-vars l =
    let vs = variables_in l.vars.text.now l.vars.pool.now l.vars.table.now in
    (l.rest.at ≤ l.n.at)
    × (after l.x (unknown_at vs l.vars.text.now l.rest.pool.now l.rest.at) ≡ after l.fn.best (unknown_at vs l.vars.text.now l.n.pool.now l.n.at))

abbrev pub decreases-loop-vars : goal.decreases-loop-vars
decreases-loop-vars l = l.rest.at
