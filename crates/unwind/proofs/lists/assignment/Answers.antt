-- `unwind::lists::assignment` meets its contract.
use Rattle.variables.specs.Table.{listed_in}
use Rattle.unwind.proofs.Assigning.{assign_did}
use Rattle.unwind.proofs.lists.assignment.Goals as goal

pub returns : goal.returns
returns c =
    let A = c.args in
    let x = c.child-x.ensures in
    let y = c.child.ensures in
    let cell = rw (x.0) at c.in_ok-c.ensures in
    let right = rw (y.0) at c.in_ok-v.ensures in
    let first = rw (x.0) at c.first_word-at.ensures in
    assign_did (listed_in A.vars.text.now A.vars.pool.now A.vars.table.now) A.vars.text.now A.n.pool.now A.env.now A.n.at A.count A.weight _ x.1 A.out.now _ cell _ _ y.1 _ right
    _ (first A.vars.text.now) _ _ c.assigned.ensures c.requires.0.0
