use Rattle.plain.proofs.+mark.Given as goal

abbrev pub decreases-mark : goal.decreases-mark
decreases-mark l = l.n.at
