-- `words::signs::sign_length` meets its contract.
use mathlib.Core.Path.{sym}
use native.Mathlib.Omega.{arith}
use Rattle.words.proofs.Listed.{two_bytes, one_byte}
use Rattle.words.proofs.signs.sign_length.Goals as goal

pub returns-then-class : goal.returns-then-class
returns-then-class c h k =
    sym (two_bytes c.args.class h (omega arith))

pub returns-else-class : goal.returns-else-class
returns-else-class c h k =
    sym (one_byte c.args.class (omega arith) k)
