-- `names::body::can_loop` meets its contract.
use mathlib.Core.Path.{◌∙◌}
use Rattle.names.proofs.Lookups.{loop_found, loop_missing}
use Rattle.names.proofs.body.can_loop.Goals as goal

pub returns-in-Some : goal.returns-in-Some
returns-in-Some c =
    let A = c.args in
    (rw (c.declaration.ensures.0, c.declaration.ensures.1) at c.runs.ensures)
    ∙ loop_found A.vars.text.now A.vars.pool.now A.vars.table.now A.place _ c.in-Some.ensures

pub returns-in-None : goal.returns-in-None
returns-in-None c = let A = c.args in loop_missing A.vars.text.now A.vars.pool.now A.vars.table.now A.place c.in-None.ensures
