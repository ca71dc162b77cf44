-- `names::body::target` meets its contract.
use lib.ListN.{length}
use Rattle.names.proofs.After.{alone}
use Rattle.names.proofs.Exprs.{named_target, no_target}
use Rattle.names.proofs.body.target.Goals as goal

pub returns-in-Variable : goal.returns-in-Variable
returns-in-Variable c =
    let A = c.args in
    alone A.best _ _ _ (rw c.place.ensures at c.assigned.ensures)
    (named_target _ A.vars.text.now A.n.pool.now A.n.at A.loops.now (length A.loops.now) _ c.expression.ensures c.in-Variable.is)

pub returns-in_default : goal.returns-in_default
returns-in_default c =
    let A = c.args in
    let d = c.in_default in
    no_target _ A.vars.text.now A.n.pool.now A.n.at A.loops.now (length A.loops.now) A.best _ c.expression.ensures d.not-Variable d.not-Element
