use mathlib.Core.Path.{◌≡◌}
use Rattle.paper.specs.Words.{same_bytes}
use Rattle.words.specs.Denoted.{name_at, rest_at}
use Rattle.words.proofs.names.same_name.Given as goal

abbrev pub invariant-loop-i : goal.invariant-loop-i
invariant-loop-i l =
    same_bytes (name_at l.text l.a) (name_at l.text l.b) ≡ same_bytes (rest_at l.text l.a l.i) (rest_at l.text l.b l.i)
