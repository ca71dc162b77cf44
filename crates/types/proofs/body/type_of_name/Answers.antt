-- `types::body::type_of_name` meets its contract.
use mathlib.Core.Path.{◌∙◌}
use Rattle.types.proofs.Owns.{type_found, type_missing}
use Rattle.types.proofs.body.type_of_name.Goals as goal

pub returns-in-Some : goal.returns-in-Some
returns-in-Some c =
    (rw (c.declaration.ensures.0, c.declaration.ensures.1) at c.type_of.ensures)
    ∙ type_found _ _ _ (c.in-Some.ensures.declared c.args.vars.pool.now).1

pub returns-in-None : goal.returns-in-None
returns-in-None c = type_missing _ _ (c.in-None.ensures.declared c.args.vars.pool.now)
