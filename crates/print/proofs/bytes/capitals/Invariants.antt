use Rattle.std.proofs.Common.{◌++◌, map, take}
use Rattle.paper.specs.Words.{capital}
use Rattle.print.specs.Printed.{Printed}
use Rattle.print.proofs.bytes.capitals.Given as goal

abbrev pub invariant-loop-b : goal.invariant-loop-b
invariant-loop-b l =
    Printed l.initial.out l.out l.at (λ k. take l.b-index (map capital l.s) ++ k) l.a
