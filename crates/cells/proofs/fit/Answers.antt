-- `cells::fit` meets its contract. The loop's invariant: all fit where those from `i` on do.
use native.Mathlib.Omega.{arith}
use lib.IntN.{pos}
use lib.ListN.{get_or}
use Rattle.cells.proofs.Infos.{says}
use Rattle.cells.proofs.Values.{as_read, fit_stops, fit_goes, fit_ends}
use Rattle.cells.proofs.fit.Goals as goal

pub returns-then-not-cell_fits : goal.returns-then-not-cell_fits
returns-then-not-cell_fits c =
    let A = c.args in
    let i = c.loop-i.i in
    let z = as_read (get_or A.state.now i (pos 0)) c.cell_fits-arg-1.given in
    let x = as_read (get_or A.inputs.now i (pos 0)) c.cell_fits-arg-in-loop-i-1.given in
    says _ _
    (fit_stops A.cells.now A.state.now A.inputs.now (omega arith) (omega arith) c.loop-i.i _ _ (omega arith)
    (rw (z, x) at c.cell_fits.ensures) c.if-not-cell_fits.true-raw c.loop-i.invariant)

pub loop-i-preserved : goal.loop-i-preserved
loop-i-preserved c =
    let A = c.args in
    let i = c.loop-i.i in
    let z = as_read (get_or A.state.now i (pos 0)) c.cell_fits-arg-1.given in
    let x = as_read (get_or A.inputs.now i (pos 0)) c.cell_fits-arg-in-loop-i-1.given in
    fit_goes A.cells.now A.state.now A.inputs.now (omega arith) (omega arith) c.loop-i.i _ _ (omega arith)
    (rw (z, x) at c.cell_fits.ensures) c.if-not-cell_fits.false-raw c.loop-i.invariant

pub returns : goal.returns
returns c =
    let A = c.args in
    says _ _ (fit_ends A.cells.now A.state.now A.inputs.now c.loop-i.i _ (omega arith) c.loop-i.invariant)
