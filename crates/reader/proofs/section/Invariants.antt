use Prim.Native.Nat.{◌-◌}
use lib.ListN.{length}
use Rattle.statements.proofs.Rooms.{Turn}
use Rattle.reader.specs.Declarations.{SectionDid}
use Rattle.reader.proofs.section.Given as goal

abbrev pub invariant-loop-d : goal.invariant-loop-d
invariant-loop-d l =
    Turn (λ old new a n b r. SectionDid l.text old new a l.kind n b r) l.text l.initial.pool l.initial.read.at l.initial.read.count l.initial.read.root l.pool l.read.at l.read.count l.read.root

abbrev pub decreases-loop-d : goal.decreases-loop-d
decreases-loop-d l =
    length l.text - l.read.at
