use mathlib.Core.Path.{◌≡◌}
use Prim.Native.Nat.{◌-◌, ◌≤◌}
use lib.ListN.{length}
use Rattle.words.specs.Denoted.{words_at}
use Rattle.words.proofs.blanks.skip.Given as goal

abbrev pub invariant-loop-b : goal.invariant-loop-b
invariant-loop-b l =
    (l.at ≤ l.i) × (l.i ≤ length l.text) × (words_at l.text l.at ≡ words_at l.text l.i)

abbrev pub decreases-loop-b : goal.decreases-loop-b
decreases-loop-b l =
    length l.text - l.i
