-- type [:= value];
use native.Mathlib.Omega.{arith}
use mathlib.Core.Path.{refl, ap, ◌∙◌}
use Prim.Native.Nat.{◌+◌}
use Rattle.tree.specs.Nodes.{written}
use borrow.Author.Tests.{ne_eqb}
use Rattle.std.proofs.lemmas.Result.{err_from_is_err_and}
use Rattle.reader.proofs.Typings.{typing_1, typing_2, typing_3, typing_4, typing_5}
use Rattle.reader.proofs.typing.Goals as goal
use Rattle.reader.proofs.typing.Goals.{else-b-eq0, then-b-eq0}

pub returns-in_err-b : goal.returns-in_err-b
returns-in_err-b c =
    let p = err_from_is_err_and c.from_residual.result c.from_residual.ensures.1 in rw (p.1, p.2) (typing_1 _ c.in_err-b.ensures)

pub returns-in_default : goal.returns-in_default
returns-in_default c =
    rw c.broken.ensures (typing_2 _ c.in_ok-b.ensures c.next_word-t.ensures c.in_default.ensures)

pub returns-in_err-v : goal.returns-in_err-v
returns-in_err-v c =
    let p = err_from_is_err_and c.from_residual-in_err-v.result c.from_residual-in_err-v.ensures.1 in rw (p.1, p.2) (typing_3 _ c.in_ok-b.ensures c.next_word-t.ensures c.in-Some.ensures
    (λ x. elim c.if-b-eq0.branch [ then-b-eq0 w ↦ w.allowed-is ∙ w.holds_values-allowed.ensures | else-b-eq0 w ↦ absurd (w.if-b-eq0.false x) ]) (λ x. elim c.if-b-eq0.branch [ then-b-eq0 w ↦ absurd (x w.if-b-eq0.true) | else-b-eq0 w ↦ w.allowed-is ∙ ne_eqb c.in_ok-b.b.root 0 x ])
    c.in_err-v.ensures)

pub returns-in_err-end : goal.returns-in_err-end
returns-in_err-end c =
    let p = err_from_is_err_and c.from_residual-in_err-end.result c.from_residual-in_err-end.ensures.1 in rw (p.1, p.2) (typing_4 _ c.in_ok-b.ensures c.next_word-t.ensures c.in-Some.ensures
    (λ x. elim c.if-b-eq0.branch [ then-b-eq0 w ↦ w.allowed-is ∙ w.holds_values-allowed.ensures | else-b-eq0 w ↦ absurd (w.if-b-eq0.false x) ]) (λ x. elim c.if-b-eq0.branch [ then-b-eq0 w ↦ absurd (x w.if-b-eq0.true) | else-b-eq0 w ↦ w.allowed-is ∙ ne_eqb c.in_ok-b.b.root 0 x ])
    c.in_ok-v.ensures c.in_err-end.ensures)

pub returns : goal.returns
returns c =
    let v = c.in_ok-v.ensures in
    let e = c.in_ok-end.ensures in
    rw c.node.ensures.read
    (typing_5 _ c.in_ok-b.ensures c.next_word-t.ensures c.in-Some.ensures
    (λ x. elim c.if-b-eq0.branch [ then-b-eq0 w ↦ w.allowed-is ∙ w.holds_values-allowed.ensures | else-b-eq0 w ↦ absurd (w.if-b-eq0.false x) ]) (λ x. elim c.if-b-eq0.branch [ then-b-eq0 w ↦ absurd (x w.if-b-eq0.true) | else-b-eq0 w ↦ w.allowed-is ∙ ne_eqb c.in_ok-b.b.root 0 x ])
    v e
    (omega (arith, c.requires, c.in_ok-b.ensures.0.within, c.bounds_part.auto, c.next_word-t.ensures, v.within, c.initial_part.auto, e.within, e.step refl refl))
    (c.node.ensures.written ∙ ap (λ x. written c.initial_part.new.pool (c.in_ok-v.v.count + 1) 30 c.in_ok-b.b.root c.in_ok-v.v.root x) (c.from-tag.ensures ∙ c.from.ensures)))
