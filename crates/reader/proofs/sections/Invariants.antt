use Prim.Native.Nat.{◌-◌}
use lib.ListN.{length}
use Rattle.statements.proofs.Rooms.{Turn}
use Rattle.reader.specs.Declarations.{SectionsDid}
use Rattle.reader.proofs.sections.Given as goal

abbrev pub invariant-loop-kind : goal.invariant-loop-kind
invariant-loop-kind l =
    Turn (SectionsDid l.text) l.text l.initial.pool l.initial.read.at l.initial.read.count l.initial.read.root l.pool l.read.at l.read.count l.read.root

abbrev pub decreases-loop-kind : goal.decreases-loop-kind
decreases-loop-kind l =
    length l.text - l.read.at
