-- A turn goes to the first operand, an earlier node.
use Rattle.constants.proofs.Types.{inner_own, other_own, test_own, first_own}
use Rattle.constants.proofs.is_typed.Goals as goal

pub loop-first-preserved-in-Minus : goal.loop-first-preserved-in-Minus
loop-first-preserved-in-Minus c =
    let L = c.loop-first in
    let at = c.child-first.ensures in
    λ r typed. L.invariant r (λ s vs h. inner_own vs s L.first.pool.now L.first.at _ c.expression.ensures c.in-Minus.is
    ((rw (at.0, at.1) at typed) s vs h))

pub returns-in-Binary : goal.returns-in-Binary
returns-in-Binary c =
    let L = c.loop-first in
    L.invariant _ (λ s vs h. test_own vs s L.first.pool.now L.first.at _ c.in-Binary.ensures _ c.is_arithmetic.ensures c.if-not-is_arithmetic.true)

pub loop-first-preserved : goal.loop-first-preserved
loop-first-preserved c =
    let L = c.loop-first in
    let at = c.child-first-in-Binary-2.ensures in
    λ r typed. L.invariant r (λ s vs h. first_own vs s L.first.pool.now L.first.at _ c.in-Binary.ensures _ c.is_arithmetic.ensures c.if-not-is_arithmetic.false
    ((rw (at.0, at.1) at typed) s vs h))

pub returns-in_default : goal.returns-in_default
returns-in_default c =
    let L = c.loop-first in
    let d = c.in_default in
    L.invariant _ (λ s vs h. other_own vs s L.first.pool.now L.first.at _ c.expression.ensures d.not-Nothing d.not-Number d.not-Minus d.not-Brackets d.not-Binary)
