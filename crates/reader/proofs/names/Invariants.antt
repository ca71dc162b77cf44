use Prim.Native.Nat.{◌-◌}
use lib.ListN.{length}
use Rattle.statements.proofs.Rooms.{Turn}
use Rattle.reader.specs.Declarations.{NamesDid}
use Rattle.reader.proofs.names.Given as goal

abbrev pub invariant-loop-read : goal.invariant-loop-read
invariant-loop-read l =
    Turn (NamesDid l.text) l.text l.initial.pool l.initial.read.at l.initial.read.count l.initial.read.root l.pool l.read.at l.read.count l.read.root

abbrev pub decreases-loop-read : goal.decreases-loop-read
decreases-loop-read l =
    length l.text - l.read.at
