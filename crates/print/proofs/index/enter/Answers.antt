-- The entries from the first cell on are the variable's.
use Rattle.std.proofs.Common.{arith}
use Rattle.print.proofs.Indexes.{all_entered}
use Rattle.print.proofs.index.enter.Goals as goal

pub returns : goal.returns
returns c =
    let A = c.args in
    let L = c.loop-c in
    record {
      size = omega arith;
      entries = all_entered A.vars.pool.now A.vars.table.now _ A.v A.index.now L.c L.index _ _ c.first_cell-first.ensures c.declaration.ensures.1 (rw c.declaration.ensures.0 at c.size_of-n.ensures)
          L.invariant.1 (λ i k m. omega arith) L.invariant.2;
    }
