use Rattle.unwind.proofs.cases.+tests.Given as goal

abbrev pub decreases-tests : goal.decreases-tests
decreases-tests l = l.n.at
