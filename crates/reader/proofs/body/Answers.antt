-- Sections and the statement list, up to END_PROGRAM.
use native.Mathlib.Omega.{arith}
use Rattle.std.proofs.lemmas.Result.{err_from_is_err_and}
use Rattle.reader.proofs.Bodies.{body_3, body_4}
use Rattle.reader.proofs.body.Goals as goal

pub returns-in_err-end : goal.returns-in_err-end
returns-in_err-end c =
    let p = err_from_is_err_and c.from_residual-in_err-end.result c.from_residual-in_err-end.ensures.1 in rw (p.1, p.2) (body_3 c.args.p c.in_ok-d.ensures c.in_ok-b.ensures c.in_err-end.ensures)

pub returns : goal.returns
returns c =
    let d = c.in_ok-d.ensures in
    let b = c.in_ok-b.ensures in
    rw c.node.ensures.read
    (body_4 c.args.p d b c.in_ok-end.ensures (omega (arith, c.requires, d.within, c.sections.auto, b.1.within, c.list.auto)) c.node.ensures.written)
