use Rattle.run.proofs.+run_list.Given as goal

abbrev pub decreases-run_list : goal.decreases-run_list
decreases-run_list l = l.n.at
