-- The proof of `unwind_program`: the walk of the body, from a state of zeros. Assumes nothing.
use Rattle.unwind.proofs.Programs.{start, program_did}
use Rattle.unwind.proofs.unwind_program.Goals as goal

pub returns : goal.returns
returns c =
    let body = rw (c.node_at.ensures.0, c.node_at.ensures.1) at c.child.ensures in
    let walked = rw (c.listed.ensures.0, c.listed.ensures.1, c.listed.ensures.2, body.0) at c.unwind.ensures in
    program_did c.args.text.now c.args.pool.now c.args.table.now c.args.cells c.args.root
    _ _ _ c.args.out.now _ c.unwind.result
    body.1 (start c.args.cells c.requires.2) walked
