-- By 0 it is 0; else the quotient of two values, brought in.
use native.Mathlib.Omega.{arith}
use mir.Facts.{to_z-of_z}
use Rattle.value.proofs.Values.{read_back, quotient_fits, quotient_zero}
use Rattle.value.proofs.quotient_of.Goals as goal

pub nonzero_div-x : goal.nonzero_div-x
nonzero_div-x c =
    let x = c.args in
    let fit = quotient_fits x.t x.a x.b in
    (omega arith, rw (read_back _ _ c.value_of-x.ensures, read_back _ _ c.value_of-y.ensures) fit)

pub returns-then-y-eq0 : goal.returns-then-y-eq0
returns-then-y-eq0 c =
    let x = c.args in
    quotient_zero x.t x.a x.b (rw c.value_of-y.ensures at c.if-y-eq0.true)

pub returns-else-y-eq0 : goal.returns-else-y-eq0
returns-else-y-eq0 c =
    let x = c.args in
    let fit = quotient_fits x.t x.a x.b in
    rw (read_back _ _ c.value_of-x.ensures, read_back _ _ c.value_of-y.ensures, to_z-of_z fit) at c.residue_of.ensures
