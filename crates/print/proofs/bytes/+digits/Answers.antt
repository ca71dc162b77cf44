-- The proof of the cycle of calls {digits}. The measure is the number: its tenth is less.
use native.Mathlib.Omega.{arith}
use Rattle.print.proofs.Numbers.{last_digit, more_digits}
use Rattle.print.proofs.bytes.+digits.Goals as goal

pub returns-then-n-lt10 : goal.returns-then-n-lt10
returns-then-n-lt10 t c =
    last_digit (omega arith) c.byte.ensures

pub returns : goal.returns
returns t c =
    more_digits (omega arith) c.digits-a.ensures c.byte-2.ensures
