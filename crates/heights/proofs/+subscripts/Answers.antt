-- The measure is the node.
use native.Mathlib.Omega.{arith}
use Rattle.tree.proofs.Decodes.{child_most}
use Rattle.heights.proofs.Expressions.{leaf_subscripts, unary_subscripts, element_subscripts, binary_subscripts}
use Rattle.heights.proofs.+subscripts.Goals as goal

pub loop-rest-preserved-in-Element : goal.loop-rest-preserved-in-Element
loop-rest-preserved-in-Element t c =
    let L = c.loop-rest in
    let at = c.child-rest.ensures in (
      rw (at.0, L.invariant.0),
      omega (arith, at, L.invariant, child_most L.rest.pool.now L.rest.at 1),
      λ r k. L.invariant.2 r
          (element_subscripts L.rest.pool.now L.rest.at L.x r c.by_itself-x.result c.in-Element.ensures (rw (at.0, at.1) at c.by_itself-x.ensures) (rw (at.0, at.1) at k)),
    )

pub loop-rest-preserved-in-Minus : goal.loop-rest-preserved-in-Minus
loop-rest-preserved-in-Minus t c =
    let L = c.loop-rest in
    let at = c.child-rest-in-Minus.ensures in (
      rw (at.0, L.invariant.0),
      omega (arith, at, L.invariant, child_most L.rest.pool.now L.rest.at 1),
      λ r k. L.invariant.2 r (unary_subscripts L.rest.pool.now L.rest.at L.x r _ c.expression.ensures c.in-Minus.is (rw (at.0, at.1) at k)),
    )

pub loop-rest-preserved : goal.loop-rest-preserved
loop-rest-preserved t c =
    let L = c.loop-rest in
    let at = c.child-rest-in-Binary.ensures in (
      rw (at.0, L.invariant.0),
      omega (arith, at, L.invariant, child_most L.rest.pool.now L.rest.at 1),
      λ r k. L.invariant.2 r
          (binary_subscripts L.rest.pool.now L.rest.at L.x r _ c.subscripts-x.result c.in-Binary.ensures
          (rw (c.child.ensures.0, c.child.ensures.1) at c.subscripts-x.ensures) (rw (at.0, at.1) at k)),
    )

pub returns-in_default : goal.returns-in_default
returns-in_default t c =
    let L = c.loop-rest in
    let d = c.in_default in
    L.invariant.2 _
    (leaf_subscripts L.rest.pool.now L.rest.at L.x _ c.expression.ensures d.not-Element d.not-Minus d.not-Complement d.not-Brackets d.not-Conversion d.not-Binary)
