-- Those of the first `v` are printed.
use Rattle.std.proofs.Common.{arith, ap, ◌∙◌}
use Rattle.paper.specs.Printing.{declarations}
use Rattle.print.proofs.Laws.{none, named, ◌then◌}
use Rattle.print.proofs.Sections.{of_none, no_declarations, next_printed}
use Rattle.print.proofs.declared.listed.Goals as goal

pub loop-v-init : goal.loop-v-init
loop-v-init c =
    let A = c.args in
    named (λ k. ap (λ l. declarations l k) (of_none A.vars.text.now A.vars.pool.now A.vars.table.now A.section) ∙ no_declarations k) (none _ _ (omega arith))

pub loop-v-preserved : goal.loop-v-preserved
loop-v-preserved c =
    let A = c.args in
    named (next_printed A.vars.text.now A.vars.pool.now A.vars.table.now A.section c.loop-v.v) (c.loop-v.invariant then c.variable-a.ensures)
