use Rattle.names.proofs.declared.+names.Given as goal

abbrev pub decreases-names : goal.decreases-names
decreases-names l = l.n.at
