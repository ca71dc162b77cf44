-- `numbers::ten_digits` meets its contract: the digits of `pack::digits`, and the one behind them.
use mathlib.Core.Path.{sym, ◌∙◌}
use native.Mathlib.Omega.{arith}
use Rattle.numbers.proofs.Signs.{with_tenth}
use Rattle.numbers.proofs.ten_digits.Goals as goal

pub returns-in-Some : goal.returns-in-Some
returns-in-Some c =
    let behind = c.in-Some.ensures.lookup in
    let byte = behind.4 (omega arith) 0 in
    rw (c.from.ensures, byte)
    (with_tenth _ c.in_ok-n.n c.in_ok-n.ensures behind.3.0 (rw byte at (sym c.is_ascii_digit.ensures.value ∙ c.if-is_ascii_digit.true)))
