-- `types::first_bad_type` meets its contract.
use Rattle.types.proofs.Programs.{program_is}
use Rattle.types.proofs.first_bad_type.Goals as goal

pub returns : goal.returns
returns c =
    let A = c.args in
    let node = c.node_at-program.ensures in
    let vars = c.listed.ensures in (
      program_is A.text.now A.pool.now A.table.now A.loops.now _ A.root c.declarations-x.result _
          (rw (c.child.ensures.0, c.child.ensures.1, node.0, node.1) at c.declarations-x.ensures)
          (rw (c.child-2.ensures.0, c.child-2.ensures.1, node.0, node.1, vars.0, vars.1, vars.2) at c.statements.ensures),
      c.statements.auto.loops,
    )
