use Rattle.std.proofs.Common.{◌≡◌, List, ℕ}
use Rattle.paper.specs.Printing.{cell}
use Rattle.variables.specs.Table.{listed_in}
use Rattle.print.proofs.Cells.{rest}
use Rattle.print.proofs.index.walked.Given as goal

abbrev pub invariant-loop-v : goal.invariant-loop-v
invariant-loop-v l =
    (t k : List ℕ) → cell (listed_in t l.vars.pool.now l.vars.table.now) l.c k ≡ cell (rest t l.vars.pool.now l.vars.table.now l.v) l.c k
