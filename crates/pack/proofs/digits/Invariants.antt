use Rattle.std.proofs.Common.{◌≡◌, ◌<◌, take}
use Rattle.pack.specs.Records.{Decimal}
use Rattle.pack.proofs.digits.Given as goal

abbrev pub invariant-loop-b : goal.invariant-loop-b
invariant-loop-b l =
    (l.count ≡ l.b-index) × (l.value < 1000000000) × Decimal (take l.b-index l.s) l.value
