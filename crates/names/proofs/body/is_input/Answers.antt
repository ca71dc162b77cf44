-- `names::body::is_input` meets its contract.
use mathlib.Core.Path.{ap, ◌∙◌}
use Rattle.paper.specs.declared.Kind.TheVariants.{Input}
use Rattle.paper.specs.Names.{same_kind}
use Rattle.names.proofs.Nodes.{same_kinds}
use Rattle.names.proofs.Lookups.{input_found, input_missing}
use Rattle.names.proofs.body.is_input.Goals as goal

pub returns-in-Some : goal.returns-in-Some
returns-in-Some c =
    let A = c.args in
    let section = rw (c.declaration.ensures.0, c.declaration.ensures.1) at c.section_of.ensures in
    c.eq.ensures
    ∙ same_kinds c.section_of.result Input
    ∙ ap (same_kind Input) section
    ∙ input_found A.vars.text.now A.vars.pool.now A.vars.table.now A.place _ c.in-Some.ensures

pub returns-in-None : goal.returns-in-None
returns-in-None c = let A = c.args in input_missing A.vars.text.now A.vars.pool.now A.vars.table.now A.place c.in-None.ensures
