use Prim.Native.Nat.{◌+◌, ◌*◌}
use Rattle.constants.proofs.+values.Given as goal

abbrev pub decreases-binary_value : goal.decreases-binary_value
decreases-binary_value l = 3 * l.n.at

abbrev pub decreases-cell_of : goal.decreases-cell_of
decreases-cell_of l = 3 * l.n.at

abbrev pub decreases-value_in : goal.decreases-value_in
decreases-value_in l = 3 * l.n.at + 1

abbrev pub decreases-whole_in : goal.decreases-whole_in
decreases-whole_in l = 3 * l.n.at + 2
