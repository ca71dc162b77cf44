-- `constants::type_of_name` meets its contract.
use mathlib.Core.Path.{◌∙◌}
use Rattle.constants.proofs.Types.{type_of_name_lem, type_of_none}
use Rattle.constants.proofs.type_of_name.Goals as goal

pub returns-in-Some : goal.returns-in-Some
returns-in-Some c =
    (rw (c.declaration.ensures.0, c.declaration.ensures.1) at c.type_of.ensures)
    ∙ type_of_name_lem _ _ _ (c.in-Some.ensures.listed c.args.vars.pool.now)

pub returns-in-None : goal.returns-in-None
returns-in-None c = type_of_none _ _ (c.in-None.ensures.listed c.args.vars.pool.now)
