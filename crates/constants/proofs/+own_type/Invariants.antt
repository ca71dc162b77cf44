use mathlib.Core.Path.{◌≡◌}
use Prim.Native.Nat.{◌≤◌}
use Rattle.paper.specs.Typing.{type_of}
use Rattle.tree.specs.Trees.{expr_at}
use Rattle.variables.specs.Table.{listed_in}
use Rattle.constants.proofs.+own_type.Given as goal

abbrev pub decreases-own_type : goal.decreases-own_type
decreases-own_type l = l.n.at

-- the rest has the type of the whole
abbrev pub invariant-loop-rest : goal.invariant-loop-rest
invariant-loop-rest l =
    let vs = listed_in l.vars.text.now l.vars.pool.now l.vars.table.now in
    (l.rest.at ≤ l.n.at) × (type_of vs (expr_at l.vars.text.now l.rest.pool.now l.rest.at) ≡ type_of vs (expr_at l.vars.text.now l.n.pool.now l.n.at))

abbrev pub decreases-loop-rest : goal.decreases-loop-rest
decreases-loop-rest l = l.rest.at
