use Rattle.types.proofs.numbers.+is_constant.Given as goal

abbrev pub decreases-is_constant : goal.decreases-is_constant
decreases-is_constant l = l.n.at
