use Prim.Native.Nat.{◌-◌}
use lib.ListN.{length}
use Rattle.words.proofs.Cuts.{Passed}
use Rattle.words.proofs.first_bad.Given as goal

abbrev pub invariant-loop-at : goal.invariant-loop-at
invariant-loop-at l =
    Passed l.text l.at

abbrev pub decreases-loop-at : goal.decreases-loop-at
decreases-loop-at l =
    length l.text - l.at
