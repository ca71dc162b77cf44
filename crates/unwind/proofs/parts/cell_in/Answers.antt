-- `unwind::parts::cell_in` meets its contract.
use Rattle.unwind.proofs.Parting.{none_did, beyond_did, cell_did}
use Rattle.unwind.proofs.parts.cell_in.Goals as goal

pub returns-in_default : goal.returns-in_default
returns-in_default c =
    let d = c.in_default.ensures in
    none_did _ _ _ _ (c.no_cell.ensures c.args.vars.text.now) d.cell

pub returns-then-c-env : goal.returns-then-c-env
returns-then-c-env c =
    let d = c.in-Some.ensures in
    cell_did _ _ _ _ d.cell d.ty c.if-c-env.true

pub returns : goal.returns
returns c =
    let d = c.in-Some.ensures in
    beyond_did _ _ _ _ (c.no_cell-2.ensures c.args.vars.text.now) _ d.cell c.if-c-env.false
