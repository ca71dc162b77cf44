-- The four sorts of operators, as the code names them.
use Rattle.paper.specs.Types as Types
use Rattle.paper.specs.Types.{arithmetic, order, equality, logic}
use Rattle.rows.specs.declared.operators.Sort.{Sort}
use Rattle.rows.specs.declared.operators.Sort.TheVariants.{Arithmetic, Order, Equality, Logic}

abbrev pub meant : Sort → Types.Sort
meant Arithmetic = arithmetic
meant Order = order
meant Equality = equality
meant Logic = logic
