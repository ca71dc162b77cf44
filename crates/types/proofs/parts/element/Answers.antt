-- `types::parts::element` meets its contract.
use mathlib.Core.Path.{ap₂, ◌∙◌}
use mathlib.Core.Bool.{not}
use Rattle.std.specs.Bool.{then_some}
use Rattle.std.specs.Option.{option_or}
use Rattle.paper.specs.declared.Ty.TheVariants.{Dint as DINT}
use Rattle.paper.specs.Typing as T
use Rattle.tree.specs.Nodes.{word_of}
use Rattle.tree.specs.Kinds.{operand}
use Rattle.types.specs.Says.{around}
use Rattle.types.proofs.Judging.{rule_faults}
use Rattle.types.proofs.parts.element.Goals as goal

pub returns : goal.returns
returns c =
    let A = c.args in
    let at = c.child-a.ensures in
    let e = operand A.n.pool.now A.n.at A.vars.text.now 1 in
    let loops = around A.vars.text.now A.loops.now in
    let q = word_of A.n.pool.now A.n.at 2 in
    let constant = rw (at.0, at.1) at c.is_constant.ensures in
    let settled = rw (at.0, at.1) at c.settle-s.ensures in
    let all = c.of_rule-sub.ensures ∙ ap₂ (λ b q. option_or c.settle-s.result.first (then_some (not b) q)) constant c.word.ensures in
    λ j says.
    let s = T.settle DINT e j in
    (rw c.place.ensures at c.named.ensures) (T.subscript_faults loops q e s)
    (all ∙ rule_faults c.settle-s.result s q (T.is_constant loops e) (settled A.vars.text.now j says))
