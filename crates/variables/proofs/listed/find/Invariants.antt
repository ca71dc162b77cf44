use Rattle.variables.proofs.Lookups.{NoneTo}
use Rattle.variables.proofs.listed.find.Given as goal

abbrev pub invariant-loop-v : goal.invariant-loop-v
invariant-loop-v l = NoneTo l.text l.table l.place l.v
