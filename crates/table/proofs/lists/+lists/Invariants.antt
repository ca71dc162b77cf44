use Prim.Native.Nat.{◌+◌, ◌*◌}
use Rattle.table.proofs.lists.+lists.Given as goal

abbrev pub decreases-choice_rows : goal.decreases-choice_rows
decreases-choice_rows l = 2 * l.n.at

abbrev pub decreases-list_rows : goal.decreases-list_rows
decreases-list_rows l = 2 * l.n.at + 1
