-- `words::reserved::run_class` meets its contract: the run's key says which reserved word it is, if any.
use native.Mathlib.Omega.{arith}
use borrow.Author.Tests.{le-leb, lt-leb}
use lib.ListN.{length, length-map}
use Rattle.paper.specs.Words.{capital}
use Rattle.words.specs.Keys.{keyword_keys, operand_keys}
use Rattle.words.proofs.Keys.{other_length, other_form, other_name, reserved_word}
use Rattle.words.proofs.reserved.run_class.Goals as goal
use Rattle.words.proofs.reserved.run_class.Goals.{then-n-lt2-via-then-n-lt2, then-n-lt2-via-else-n-lt2+then-n-gt13, then-n-lt2-via-else-n-lt2+else-n-gt13+then-not-may_be_reserved}

pub returns-then-n-lt2 : goal.returns-then-n-lt2
returns-then-n-lt2 c =
    let s = c.args.run.now in
    elim c.then-n-lt2.branch [
      | then-n-lt2-via-then-n-lt2 w ↦ other_length _ (rw (length-map s capital, lt-leb 2 (length s) (omega arith)))
      | then-n-lt2-via-else-n-lt2+then-n-gt13 w ↦ other_length _ (rw (length-map s capital, le-leb 2 (length s) (omega arith), lt-leb (length s) 13 (omega arith)))
      | then-n-lt2-via-else-n-lt2+else-n-gt13+then-not-may_be_reserved w ↦ other_form s (omega arith) w.may_be_reserved.result w.may_be_reserved.ensures w.if-not-may_be_reserved.true
    ]

pub returns-in-Some : goal.returns-in-Some
returns-in-Some c = reserved_word keyword_keys _ c.in-Some.number c.key_of-key.ensures c.in-Some.ensures

pub returns-in-Some-operand_number : goal.returns-in-Some-operand_number
returns-in-Some-operand_number c = reserved_word operand_keys _ c.in-Some-operand_number.number c.key_of-key.ensures c.in-Some-operand_number.ensures

pub returns-in-None : goal.returns-in-None
returns-in-None c = other_name _ c.key_of-key.ensures c.in_default.ensures c.in-None.ensures
