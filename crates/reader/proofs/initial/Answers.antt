-- A declared value, behind `:=`.
use native.Mathlib.Omega.{arith}
use mathlib.Core.Bool.{true, false}
use Rattle.std.proofs.lemmas.Result.{err_from_is_err_and}
use Rattle.reader.proofs.Values.{initial_flag, initial_bad, initial_good}
use Rattle.reader.proofs.initial.Goals as goal

pub returns-in-33 : goal.returns-in-33
returns-in-33 c =
    rw c.node.ensures.read
    (initial_flag true c.next_word-w.ensures c.in-33.is (omega (arith, c.requires, c.next_word-w.ensures, c.node.auto)) c.node.ensures.written)

pub returns-in-34 : goal.returns-in-34
returns-in-34 c =
    rw c.node-in-34.ensures.read
    (initial_flag false c.next_word-w.ensures c.in-34.is (omega (arith, c.requires, c.next_word-w.ensures, c.node-in-34.auto)) c.node-in-34.ensures.written)

pub returns-in_err-z-in_default : goal.returns-in_err-z-in_default
returns-in_err-z-in_default c =
    let p = err_from_is_err_and c.from_residual.result c.from_residual.ensures.1 in rw (p.1, p.2) (initial_bad _ (omega (arith, c.requires.1)) c.next_word-w.ensures (λ e. omega arith) (λ e. omega arith) c.in_err-z-in_default.ensures)

pub returns-in_ok-z-in_default : goal.returns-in_ok-z-in_default
returns-in_ok-z-in_default c =
    let z = c.in_ok-z-in_default.ensures in
    rw c.node-in_default.ensures.read
    (initial_good _ (omega (arith, c.requires.1)) c.next_word-w.ensures (λ e. omega arith) (λ e. omega arith) z (omega (arith, c.requires, z.0.within, c.signed_number.auto)) c.node-in_default.ensures.written)
