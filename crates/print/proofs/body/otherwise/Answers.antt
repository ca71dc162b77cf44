-- `print::body::otherwise` meets its contract.
use mathlib.Core.Path.{sym, ◌∙◌}
use Rattle.paper.specs.Words.{bytes}
use Rattle.print.proofs.Laws.{named}
use Rattle.print.proofs.body.otherwise.Goals as goal

pub returns-else-is_empty : goal.returns-else-is_empty
unfolding bytes
returns-else-is_empty c =
    named (λ k. rw (sym c.is_empty.ensures ∙ c.if-is_empty.false)) c.put.ensures
