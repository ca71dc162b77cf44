use Rattle.unwind.proofs.cases.+tests_parts.Given as goal

abbrev pub decreases-tests_parts : goal.decreases-tests_parts
decreases-tests_parts l = l.n.at
