-- `names::first_bad_name` meets its contract.
use Rattle.names.proofs.Judging.{judged}
use Rattle.names.proofs.first_bad_name.Goals as goal

pub returns : goal.returns
returns c =
    let A = c.args in
    let f = c.fill-filled in
    let s = c.declarations-seen in
    let program = c.node_at-program.ensures in
    let declared = c.child-declared.ensures in
    let vars = c.listed-vars.ensures in
    judged A.text.now A.pool.now A.table.now _ A.scratch.now _ A.root c.statements-first.result f.result s.result
    f.ensures.0 f.auto.table
    (rw (declared.0, declared.1, program.0, program.1) at f.ensures.1)
    (rw (declared.0, declared.1, program.0, program.1) at s.ensures.1)
    (rw (vars.0, vars.1, vars.2, c.child.ensures.0, c.child.ensures.1, program.0, program.1) at c.statements-first.ensures.0)
