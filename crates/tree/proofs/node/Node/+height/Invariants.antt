-- The measure is the node: a child is an earlier one.
use Rattle.tree.proofs.node.Node.+height.Given as goal

abbrev pub decreases-height : goal.decreases-height
decreases-height l = l.self.at
