-- `heights::first_too_high` meets its contract.
use Rattle.std.specs.Prelude.{None}
use Rattle.heights.proofs.Lists.{program_listed}
use Rattle.heights.proofs.first_too_high.Goals as goal

pub returns : goal.returns
returns c =
    program_listed None _ c.args.pool.now c.args.root
    (rw (c.child.ensures.0, c.child.ensures.1, c.node_at.ensures.0, c.node_at.ensures.1) at c.statements.ensures)
