use Prim.Native.Nat.{◌+◌, ◌*◌}
use Rattle.unwind.proofs.parts.+operands.Given as goal

abbrev pub decreases-binary_of : goal.decreases-binary_of
decreases-binary_of l = 2 * l.n.at

abbrev pub decreases-plain_of : goal.decreases-plain_of
decreases-plain_of l = 2 * l.n.at + 1
