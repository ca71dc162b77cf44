use Rattle.table.proofs.parts.+expression_rows.Given as goal

abbrev pub decreases-expression_rows : goal.decreases-expression_rows
decreases-expression_rows l = l.n.at
