use Prim.Native.Nat.{◌+◌, ◌-◌, ◌*◌}
use lib.ListN.{length}
use Rattle.words.specs.Denoted.{IsWord}
use Rattle.statements.specs.Lists.{ListDid}
use Rattle.statements.proofs.Rooms.{Turn}
use Rattle.statements.proofs.+reading.Given as goal

abbrev pub decreases-arms : goal.decreases-arms
decreases-arms l = 16 * (length l.text.now - l.at) + 15

abbrev pub decreases-branch : goal.decreases-branch
decreases-branch l = 16 * (length l.text.now - l.at) + 11

abbrev pub decreases-branches : goal.decreases-branches
decreases-branches l = 16 * (length l.text.now - l.at) + 15

abbrev pub decreases-cases : goal.decreases-cases
decreases-cases l = 16 * (length l.text.now - l.at) + 11

abbrev pub decreases-closing : goal.decreases-closing
decreases-closing l = 16 * (length l.text.now - l.at) + 9

abbrev pub decreases-list : goal.decreases-list
decreases-list l = 16 * (length l.text.now - l.at) + 14

abbrev pub decreases-more_arms : goal.decreases-more_arms
decreases-more_arms l = 16 * (length l.text.now - l.at) + 16

abbrev pub decreases-otherwise : goal.decreases-otherwise
decreases-otherwise l = 16 * (length l.text.now - l.at) + 10

abbrev pub decreases-repeat : goal.decreases-repeat
decreases-repeat l = 16 * (length l.text.now - l.at) + 15

abbrev pub decreases-statement : goal.decreases-statement
decreases-statement l = 16 * (length l.text.now - l.at) + 12

abbrev pub invariant-list-loop-s : goal.invariant-list-loop-s
invariant-list-loop-s l =
    Turn (λ old new a n b r. ListDid l.text old new a l.depth n b r) l.text l.initial.pool l.initial.read.at l.initial.read.count l.initial.read.root l.pool l.read.at l.read.count l.read.root × IsWord l.text l.read.at l.w

abbrev pub decreases-list-loop-s : goal.decreases-list-loop-s
decreases-list-loop-s l =
    length l.text - l.read.at
