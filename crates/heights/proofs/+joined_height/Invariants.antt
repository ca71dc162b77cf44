use Rattle.heights.proofs.+joined_height.Given as goal

abbrev pub decreases-joined_height : goal.decreases-joined_height
decreases-joined_height l = l.n.at
