-- `pack::digits` meets its contract: the bytes gone over are digits and spell the value.
use mathlib.Core.Path.{refl, sym, ◌∙◌}
use native.Mathlib.Omega.{arith}
use lib.ListN.{get_or}
use Rattle.pack.specs.Records.{none}
use Rattle.pack.proofs.Numbers.{range, one_more}
use Rattle.pack.proofs.digits.Goals as goal

pub loop-b-init : goal.loop-b-init
loop-b-init c = (refl, omega arith, none)

pub loop-b-preserved : goal.loop-b-preserved
loop-b-preserved c =
    let is_one = sym c.is_ascii_digit.ensures.value ∙ c.if-not-is_ascii_digit.false in
    let in_range = range (get_or c.args.s.now c.loop-b.b-index 0) is_one in
    (omega arith, omega arith, rw c.from.ensures (one_more _ _ _ (omega arith) is_one c.loop-b.invariant.2))
