use Rattle.std.proofs.Common.{◌++◌, take}
use Rattle.print.specs.Printed.{Printed}
use Rattle.print.proofs.bytes.put.Given as goal

abbrev pub invariant-loop-b : goal.invariant-loop-b
invariant-loop-b l =
    Printed l.initial.out l.out l.at (λ k. take l.b-index l.s ++ k) l.a
