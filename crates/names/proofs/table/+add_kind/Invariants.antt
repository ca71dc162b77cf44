use Rattle.names.proofs.table.+add_kind.Given as goal

abbrev pub decreases-add_kind : goal.decreases-add_kind
decreases-add_kind l = l.n.at
