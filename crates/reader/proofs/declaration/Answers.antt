-- names : type [:= value];
use native.Mathlib.Omega.{arith}
use Rattle.std.proofs.lemmas.Result.{err_from_is_err_and}
use Rattle.reader.proofs.Declaring.{declaration_1, declaration_2, declaration_3, declaration_4}
use Rattle.reader.proofs.declaration.Goals as goal

pub returns-in_err-n : goal.returns-in_err-n
returns-in_err-n c =
    let p = err_from_is_err_and c.from_residual.result c.from_residual.ensures.1 in rw (p.1, p.2) (declaration_1 _ c.in_err-n.ensures)

pub returns-in_err-colon : goal.returns-in_err-colon
returns-in_err-colon c =
    let p = err_from_is_err_and c.from_residual-in_err-colon.result c.from_residual-in_err-colon.ensures.1 in rw (p.1, p.2) (declaration_2 _ c.in_ok-n.ensures c.in_err-colon.ensures)

pub returns-in_err-t : goal.returns-in_err-t
returns-in_err-t c =
    let p = err_from_is_err_and c.from_residual-in_err-t.result c.from_residual-in_err-t.ensures.1 in rw (p.1, p.2) (declaration_3 _ c.in_ok-n.ensures c.in_ok-colon.ensures c.in_err-t.ensures)

pub returns : goal.returns
returns c =
    let n = c.in_ok-n.ensures in
    let e = c.in_ok-colon.ensures in
    let t = c.in_ok-t.ensures in
    rw c.node.ensures.read
    (declaration_4 _ n e t (omega (arith, c.requires, n.within, c.names.auto, e.within, t.0.within, t.1, c.typing.auto)) c.node.ensures.written)
