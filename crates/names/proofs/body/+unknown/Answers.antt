-- The measure is the node: a child is an earlier one. A turn leaves the faults of the first operand, after the soonest so far.
use borrow.Author.Rules.{rules}
use mathlib.Core.Path.{refl, ◌∙◌}
use Rattle.names.proofs.After.{alone, then, before}
use Rattle.names.proofs.Exprs.{leaf_unknown, variable_unknown, element_unknown, unary_unknown, binary_unknown}
use Rattle.names.proofs.body.+unknown.Goals as goal
use Rattle.names.proofs.body.+unknown.Goals.{in-Element, in-Minus, in-Binary}

pub returns-in-Variable : goal.returns-in-Variable
returns-in-Variable t c =
    let L = c.loop-vars in
    alone L.x _ _ _ (rw c.place.ensures at c.known.ensures) (variable_unknown _ c.args.vars.text.now L.rest.pool.now L.rest.at c.in-Variable.ensures)
    ∙ L.invariant.1

pub returns-in_default : goal.returns-in_default
returns-in_default t c =
    let L = c.loop-vars in
    let d = c.in_default in
    leaf_unknown _ c.args.vars.text.now L.rest.pool.now L.rest.at L.x _ c.expression.ensures
    d.not-Variable d.not-Element d.not-Minus d.not-Complement d.not-Brackets d.not-Conversion d.not-Binary
    ∙ L.invariant.1

pub loop-vars-preserved : goal.loop-vars-preserved
loop-vars-preserved t c =
    let L = c.loop-vars in
    let p = L.rest.pool.now in
    let i = L.rest.at in
    let r = c.child-rest.ensures in (
      search rules,
      rw (r.0, r.1) (elim c.match-expression.branch [
        | in-Element w ↦
            rw w.x-is (then L.x _ _ _ _ _ (rw w.place-in-Element.ensures at w.known-x.ensures) refl (element_unknown _ c.args.vars.text.now p i w.in-Element.ensures))
            ∙ L.invariant.1
        | in-Minus w ↦ rw w.x-is (alone L.x _ _ _ refl (unary_unknown _ c.args.vars.text.now p i _ c.expression.ensures w.in-Minus.is)) ∙ L.invariant.1
        | in-Binary w ↦
            rw w.x-is (before L.x _ _ _ _ _ (rw (w.child.ensures.0, w.child.ensures.1) at w.unknown-x.ensures) refl (binary_unknown _ c.args.vars.text.now p i _ w.in-Binary.ensures))
            ∙ L.invariant.1
      ]),
    )
