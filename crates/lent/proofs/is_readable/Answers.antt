-- `lent::is_readable` meets its contract.
use native.Mathlib.Omega.{arith}
use Rattle.lent.proofs.Totals.{many_cells, many_rows, by_types}
use Rattle.lent.proofs.is_readable.Goals as goal

pub returns-then-cells-gt64 : goal.returns-then-cells-gt64
returns-then-cells-gt64 c =
    many_cells _ _ (omega arith)

pub returns-then-n-gt3064 : goal.returns-then-n-gt3064
returns-then-n-gt3064 c =
    many_rows _ _ (omega arith) (omega arith)

pub returns : goal.returns
returns c =
    by_types _ _ (omega arith) (omega arith) c.cells_known.result c.cells_known.ensures
