use Rattle.types.proofs.numbers.+number_faults.Given as goal

abbrev pub decreases-number_faults : goal.decreases-number_faults
decreases-number_faults l = l.n.at
