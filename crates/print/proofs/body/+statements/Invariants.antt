use Rattle.print.proofs.body.+statements.Given as goal

abbrev pub decreases-statements : goal.decreases-statements
decreases-statements l = l.n.at
