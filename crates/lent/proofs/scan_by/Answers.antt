-- `lent::scan_by` meets its contract.
use mathlib.Core.Path.{ap}
use Rattle.std.specs.Prelude.{Err}
use native.Mathlib.Omega.{arith}
use lib.ListN.{length-take}
use Rattle.lent.proofs.Following.{scan_unfit, scan_done}
use Rattle.lent.proofs.scan_by.Goals as goal

pub returns-then-not-fit : goal.returns-then-not-fit
returns-then-not-fit c =
    let A = c.args in
    scan_unfit A.rows.now A.cells.now A.n A.inputs.now A.state.now _ c.fit.ensures c.if-not-fit.true-raw _ (ap Err c.refused.ensures)

pub returns : goal.returns
returns c =
    let A = c.args in
    scan_done A.rows.now A.cells.now A.n A.inputs.now A.state.now _ c.fit.ensures c.if-not-fit.false-raw _ _ (omega (arith, simp length-take at c.follow.auto.held, c.requires.cells)) c.follow.ensures _ c.lend.ensures
