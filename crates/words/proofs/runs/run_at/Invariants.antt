use Rattle.words.proofs.Parts.{ReadTo}
use Rattle.words.proofs.runs.run_at.Given as goal

abbrev pub invariant-loop-i : goal.invariant-loop-i
invariant-loop-i l = ReadTo l.text l.at l.i l.parted
