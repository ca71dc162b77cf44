-- `print::declared::named` meets its contract.
use mathlib.Core.Path.{sym, ap, ◌∙◌}
use mathlib.Core.List.{◌++◌}
use Rattle.tree.specs.Trees.{name_at}
use Rattle.variables.specs.Table.{key_of}
use Rattle.variables.proofs.Keys as keys
use Rattle.print.proofs.Laws.{named}
use Rattle.print.proofs.declared.named.Goals as goal

pub returns-then-word-key_of : goal.returns-then-word-key_of
returns-then-word-key_of c =
    let A = c.args in
    let is =
    keys.named A.text.now A.table.now A.v _ (sym c.word-place.ensures)
    (sym c.word.ensures ∙ c.if-word-key_of.true ∙ c.key_of.ensures) in
    named (λ k. ap (λ s. s ++ k) is ∙ rw c.name_of.ensures) c.capitals.ensures

pub returns : goal.returns
returns c =
    let A = c.args in
    let t = A.text.now in
    let is =
    keys.unnamed t A.table.now A.v
    (λ e. c.if-word-key_of.false
    (c.word.ensures ∙ e ∙ ap (λ w. key_of (name_at t w)) (sym c.word-place.ensures) ∙ sym c.key_of.ensures)) in
    named (λ k. ap (λ s. s ++ k) is) c.put.ensures
