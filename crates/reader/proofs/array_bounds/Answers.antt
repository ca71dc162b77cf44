-- [lo..hi] OF, behind ARRAY.
use mathlib.Core.Path.{refl}
use native.Mathlib.Omega.{arith}
use Rattle.std.proofs.lemmas.Result.{err_from_is_err_and}
use Rattle.reader.proofs.Bounds.{array_1, array_2, array_3, array_4, array_5, array_6}
use Rattle.reader.proofs.array_bounds.Goals as goal

pub returns-in_err-open : goal.returns-in_err-open
returns-in_err-open c =
    let p = err_from_is_err_and c.from_residual.result c.from_residual.ensures.1 in rw (p.1, p.2) (array_1 c.requires c.in_err-open.ensures)

pub returns-in_err-lo : goal.returns-in_err-lo
returns-in_err-lo c =
    let p = err_from_is_err_and c.from_residual-in_err-lo.result c.from_residual-in_err-lo.ensures.1 in rw (p.1, p.2) (array_2 c.requires c.in_ok-open.ensures c.in_err-lo.ensures)

pub returns-in_err-range : goal.returns-in_err-range
returns-in_err-range c =
    let p = err_from_is_err_and c.from_residual-in_err-range.result c.from_residual-in_err-range.ensures.1 in rw (p.1, p.2) (array_3 c.requires c.in_ok-open.ensures c.in_ok-lo.ensures c.in_err-range.ensures)

pub returns-in_err-hi : goal.returns-in_err-hi
returns-in_err-hi c =
    let p = err_from_is_err_and c.from_residual-in_err-hi.result c.from_residual-in_err-hi.ensures.1 in rw (p.1, p.2) (array_4 c.requires c.in_ok-open.ensures c.in_ok-lo.ensures c.in_ok-range.ensures c.in_err-hi.ensures)

pub returns-in_err-end : goal.returns-in_err-end
returns-in_err-end c =
    let p = err_from_is_err_and c.from_residual-in_err-end.result c.from_residual-in_err-end.ensures.1 in rw (p.1, p.2) (array_5 c.requires c.in_ok-open.ensures c.in_ok-lo.ensures c.in_ok-range.ensures c.in_ok-hi.ensures c.in_err-end.ensures)

pub returns : goal.returns
returns c =
    let o = c.in_ok-open.ensures in
    let lo = c.in_ok-lo.ensures in
    let d = c.in_ok-range.ensures in
    let hi = c.in_ok-hi.ensures in
    rw c.node.ensures.read
    (array_6 c.requires o lo d hi c.in_ok-end.ensures
    (omega (arith, c.requires, o.within, o.step refl refl, lo.within, c.number.auto, d.within, hi.within, c.number-2.auto)) c.node.ensures.written)
