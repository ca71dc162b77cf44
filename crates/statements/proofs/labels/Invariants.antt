use Prim.Native.Nat.{◌-◌}
use lib.ListN.{length}
use Rattle.statements.specs.Lists.{LabelsDid}
use Rattle.statements.proofs.Rooms.{Turn}
use Rattle.statements.proofs.labels.Given as goal

abbrev pub invariant-loop-l : goal.invariant-loop-l
invariant-loop-l l =
    Turn (LabelsDid l.text) l.text l.initial.pool l.initial.read.at l.initial.read.count l.initial.read.root l.pool l.read.at l.read.count l.read.root

abbrev pub decreases-loop-l : goal.decreases-loop-l
decreases-loop-l l =
    length l.text - l.read.at
