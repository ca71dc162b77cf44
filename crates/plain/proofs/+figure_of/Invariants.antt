use Rattle.plain.proofs.+figure_of.Given as goal

abbrev pub decreases-figure_of : goal.decreases-figure_of
decreases-figure_of l = l.n.at
