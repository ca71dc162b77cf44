use mathlib.Core.Path.{◌≡◌}
use mathlib.Core.Bool.{true}
use Prim.Native.Nat.{ℕ, ◌+◌, ◌<◌}
use lib.ListN.{get_or}
use Rattle.paper.specs.Words.{in_run}
use Rattle.words.proofs.names.name_length.Given as goal

abbrev pub invariant-loop-n : goal.invariant-loop-n
invariant-loop-n l =
    (i : ℕ) → i < l.n → in_run (get_or l.text (l.at + i) 0) ≡ true
