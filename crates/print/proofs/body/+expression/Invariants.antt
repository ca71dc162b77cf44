use Rattle.print.proofs.body.+expression.Given as goal

abbrev pub decreases-expression : goal.decreases-expression
decreases-expression l = l.n.at
