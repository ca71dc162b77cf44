-- A declared value, if one comes next.
use mathlib.Core.Path.{sym, ◌∙◌}
use mathlib.Core.Bool.{true≢false}
use borrow.Author.Tests.{eqb-true, eqb-false}
use Rattle.reader.proofs.Values.{initial_some, initial_none}
use Rattle.reader.proofs.initial_part.Goals as goal
use Rattle.reader.proofs.initial_part.Goals.{else-allowed-via-then-allowed+else-w-eq-BECOMES, else-allowed-via-else-allowed}

pub returns-then-w-eq-BECOMES : goal.returns-then-w-eq-BECOMES
returns-then-w-eq-BECOMES c =
    initial_some c.requires c.next_word-w.ensures c.if-allowed.true (eqb-true c.next_word-w.result.class 54 c.if-w-eq-BECOMES.true-raw) c.initial.ensures

pub returns : goal.returns
returns c =
    initial_none c.requires c.next_word-w.ensures
    (λ x y. elim c.else-allowed.branch [ else-allowed-via-then-allowed+else-w-eq-BECOMES w ↦ eqb-false c.next_word-w.result.class 54 w.if-w-eq-BECOMES.false-raw y | else-allowed-via-else-allowed w ↦ true≢false (sym x ∙ w.if-allowed.false) ])
