-- `print::declared::headed` meets its contract.
use mathlib.Core.Path.{◌∙◌}
use Prim.Native.Nat.{◌/◌}
use lib.ListN.{length}
use Rattle.paper.specs.Words.{bytes}
use Rattle.print.specs.Parts.{of_section}
use Rattle.print.proofs.Laws.{named, ◌then◌}
use Rattle.print.proofs.Sections.{headed_some}
use Rattle.print.proofs.declared.headed.Goals as goal

pub returns : goal.returns
unfolding bytes
returns c =
    let A = c.args in
    let ds = of_section A.vars.text.now A.vars.pool.now A.vars.table.now A.section (length A.vars.table.now / 4) in
    named (λ k. headed_some A.head.now ds k (λ e. c.if-count-eq0.false (c.count.ensures A.vars.text.now ∙ e))) (c.put-a.ensures then c.listed-b.ensures then c.put.ensures)
