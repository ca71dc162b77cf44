use Prim.Native.Nat.{◌+◌, ◌*◌}
use Rattle.types.proofs.parts.+judging.Given as goal

abbrev pub decreases-judge : goal.decreases-judge
decreases-judge l = 2 * l.n.at + 1

abbrev pub decreases-operand : goal.decreases-operand
decreases-operand l = 2 * l.n.at
