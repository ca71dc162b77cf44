use lib.ListN.{drop}
use Rattle.words.proofs.Parts.{Counts}
use Rattle.words.proofs.runs.numeral_of.Given as goal

abbrev pub invariant-loop-b : goal.invariant-loop-b
invariant-loop-b l = Counts l.run (drop l.b-index l.run) l.n
