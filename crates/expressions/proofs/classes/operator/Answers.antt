-- `expressions::classes::operator` meets its contract: a class with none of its arms is no operator's.
use mathlib.Core.Path.{◌∙◌}
use mathlib.Core.Option.{none}
use Rattle.expressions.proofs.Entries.{no_arm}
use Rattle.expressions.proofs.Arms.{operators, operator_said}
use Rattle.expressions.proofs.classes.operator.Goals as goal

pub returns-in_default : goal.returns-in_default
returns-in_default c s n =
    operator_said c.args.class s n ∙ no_arm operators none c.args.class c.in_default.in_default-own.rest
