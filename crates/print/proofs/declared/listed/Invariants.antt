use Rattle.paper.specs.Printing.{declarations}
use Rattle.print.specs.Printed.{Printed}
use Rattle.print.specs.Parts.{of_section}
use Rattle.print.proofs.declared.listed.Given as goal

abbrev pub invariant-loop-v : goal.invariant-loop-v
invariant-loop-v l =
    Printed l.initial.out l.out l.at (declarations (of_section l.vars.text.now l.vars.pool.now l.vars.table.now l.section l.v)) l.a
