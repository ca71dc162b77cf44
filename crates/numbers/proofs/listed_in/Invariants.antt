use Rattle.numbers.specs.Spellings.{Begun, Read}
use Rattle.numbers.proofs.Commas.{put}
use Rattle.numbers.proofs.listed_in.Given as goal

abbrev pub invariant-loop-values : goal.invariant-loop-values
invariant-loop-values l = Read Begun l.s l.initial.out l.out (put l.values l.count)
