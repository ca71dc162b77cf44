-- `plain::cells_within` meets its contract: what two lists mark, of marks that were 0.
-- Assumes nothing.
use mathlib.Core.Path.{◌∙◌}
use native.Mathlib.Omega.{arith}
use lib.ListN.{get_or-replicate}
use Rattle.plain.proofs.Markings.{cells_marked}
use Rattle.plain.proofs.cells_within.Goals as goal

pub returns : goal.returns
returns c =
    let A = c.args in
    c.marked.ensures
    ∙ cells_marked _ _ _ _ _ A.count c.mark.ensures c.mark-2.ensures (omega arith) (λ i l. get_or-replicate 64 i 0 0 (omega arith))
