-- PROGRAM name, sections, one statement list, END_PROGRAM, nothing after.
use native.Mathlib.Omega.{arith}
use Rattle.std.proofs.lemmas.Result.{err_from_is_err_and}
use Rattle.reader.proofs.Programs.{program_1, program_2, program_3, program_4, program_5}
use Rattle.reader.proofs.program.Goals as goal

pub returns-in_err-head : goal.returns-in_err-head
returns-in_err-head c =
    let p = err_from_is_err_and c.from_residual.result c.from_residual.ensures.1 in rw (p.1, p.2) (program_1 _ c.in_err-head.ensures)

pub returns-then-n-ne-NAME : goal.returns-then-n-ne-NAME
returns-then-n-ne-NAME c =
    rw c.broken.ensures (program_2 _ c.in_ok-head.ensures c.next_word-n.ensures c.if-n-ne-NAME.true)

pub returns-in_err-b : goal.returns-in_err-b
returns-in_err-b c =
    let p = err_from_is_err_and c.from_residual-in_err-b.result c.from_residual-in_err-b.ensures.1 in rw (p.1, p.2) (program_3 _ c.in_ok-head.ensures c.next_word-n.ensures _ c.if-n-ne-NAME.false (omega (arith, c.body.auto)) c.in_err-b.ensures)

pub returns-then-e-ne-ENDING : goal.returns-then-e-ne-ENDING
returns-then-e-ne-ENDING c =
    rw c.broken-then-e-ne-ENDING.ensures
    (program_4 _ c.in_ok-head.ensures c.next_word-n.ensures _ c.if-n-ne-NAME.false (omega (arith, c.body.auto)) c.in_ok-b.ensures c.next_word-e.ensures c.if-e-ne-ENDING.true)

pub returns : goal.returns
returns c =
    program_5 _ c.in_ok-head.ensures c.next_word-n.ensures _ c.if-n-ne-NAME.false (omega (arith, c.body.auto)) c.in_ok-b.ensures c.next_word-e.ensures c.if-e-ne-ENDING.false
