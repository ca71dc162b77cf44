-- `print::body::semicolon` meets its contract.
use mathlib.Core.Path.{sym, ◌∙◌}
use Rattle.paper.specs.Words.{bytes}
use Rattle.print.proofs.Laws.{named}
use Rattle.print.proofs.body.semicolon.Goals as goal

pub returns-then-is_empty : goal.returns-then-is_empty
unfolding bytes
returns-then-is_empty c =
    named (λ k. rw (sym c.is_empty.ensures ∙ c.if-is_empty.true)) c.put.ensures
