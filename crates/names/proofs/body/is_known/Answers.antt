-- `names::body::is_known` meets its contract.
use mathlib.Core.Path.{◌∙◌}
use Rattle.names.proofs.Lookups.{known_seeks}
use Rattle.names.proofs.body.is_known.Goals as goal

pub returns : goal.returns
returns c =
    let A = c.args in
    c.is_some.ensures ∙ known_seeks A.vars.text.now A.vars.pool.now A.vars.table.now A.place _ c.find.ensures
