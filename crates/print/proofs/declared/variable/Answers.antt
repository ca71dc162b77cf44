-- `print::declared::variable` meets its contract.
use mathlib.Core.Path.{sym, ◌∙◌}
use native.Mathlib.Omega.{arith}
use Rattle.paper.specs.Words.{bytes}
use Rattle.print.proofs.Laws.{none, named, ◌then◌}
use Rattle.print.proofs.Sections.{variable_printed, variable_passed}
use Rattle.print.proofs.declared.variable.Goals as goal

pub returns-then-is_of : goal.returns-then-is_of
unfolding bytes
returns-then-is_of c =
    let A = c.args in
    named (variable_printed A.vars.text.now A.vars.pool.now A.vars.table.now A.section A.v _ (sym c.is_of.ensures ∙ c.if-is_of.true) c.declaration.ensures.1)
    (c.named-a.ensures then c.put-b.ensures then rw c.declaration.ensures.0 at c.typed.ensures)

pub returns : goal.returns
returns c =
    let A = c.args in
    named (variable_passed A.vars.text.now A.vars.pool.now A.vars.table.now A.section A.v (sym c.is_of.ensures ∙ c.if-is_of.false)) (none _ _ (omega arith))
