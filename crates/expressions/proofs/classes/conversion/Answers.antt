-- `expressions::classes::conversion` meets its contract: a class with none of its arms is no conversion's.
use mathlib.Core.Path.{sym, ◌∙◌}
use Rattle.std.specs.Prelude.{None}
use Rattle.expressions.proofs.Entries.{no_arm}
use Rattle.expressions.proofs.Arms.{conversions, conversion_said}
use Rattle.expressions.proofs.classes.conversion.Goals as goal

pub returns-in_default : goal.returns-in_default
returns-in_default c s n =
    sym (conversion_said c.args.class s n ∙ no_arm conversions None c.args.class c.in_default.in_default-own.rest)
