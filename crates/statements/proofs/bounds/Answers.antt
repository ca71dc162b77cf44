-- `bounds` meets its contract: one law for each of its five ways on.
use mathlib.Core.Path.{refl}
use native.Mathlib.Omega.{arith}
use Rattle.std.proofs.lemmas.Result.{err_from_is_err_and}
use Rattle.statements.proofs.Heads.{bounds_bad, bounds_from, bounds_to, bounds_half, bounds_good}
use Rattle.statements.proofs.bounds.Goals as goal

pub returns-in_err-becomes : goal.returns-in_err-becomes
returns-in_err-becomes c =
    let p = err_from_is_err_and c.from_residual.result c.from_residual.ensures.1 in rw (p.1, p.2) (bounds_bad c.in_err-becomes.ensures)

pub returns-in_err-a : goal.returns-in_err-a
returns-in_err-a c =
    let p = err_from_is_err_and c.from_residual-in_err-a.result c.from_residual-in_err-a.ensures.1 in rw (p.1, p.2) (bounds_from c.in_ok-becomes.ensures c.in_err-a.ensures)

pub returns-in_err-to : goal.returns-in_err-to
returns-in_err-to c =
    let p = err_from_is_err_and c.from_residual-in_err-to.result c.from_residual-in_err-to.ensures.1 in rw (p.1, p.2) (bounds_to c.in_ok-becomes.ensures c.in_ok-a.ensures c.in_err-to.ensures)

pub returns-in_err-b : goal.returns-in_err-b
returns-in_err-b c =
    let p = err_from_is_err_and c.from_residual-in_err-b.result c.from_residual-in_err-b.ensures.1 in rw (p.1, p.2) (bounds_half c.in_ok-becomes.ensures c.in_ok-a.ensures c.in_ok-to.ensures c.in_err-b.ensures)

pub returns : goal.returns
returns c =
    let w = c.in_ok-becomes.ensures in
    let a = c.in_ok-a.ensures in
    let u = c.in_ok-to.ensures in
    let b = c.in_ok-b.ensures in
    rw c.node.ensures.read
    (bounds_good w a u b (omega (arith, c.requires, w.within, w.step refl refl, a.within, c.expression.auto, u.within, u.step refl refl, b.within, c.expression-2.auto)) c.node.ensures.written)
