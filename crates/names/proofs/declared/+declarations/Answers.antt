-- The proof of the cycle of calls {declarations}. The measure is the node: a child is an earlier one.
use native.Mathlib.Omega.{arith}
use Rattle.names.proofs.Declaring.{no_declarations, declarations_more}
use Rattle.names.proofs.declared.+declarations.Goals as goal

pub returns-then-n-eq0 : goal.returns-then-n-eq0
returns-then-n-eq0 t c =
    let A = c.args in
    (omega arith, rw c.if-n-eq0.true (no_declarations A.text.now A.n.pool.now A.seen.now A.s))

pub returns : goal.returns
returns t c =
    let A = c.args in
    let x = c.declarations-r in
    let r = c.names in
    let node = c.child-declaration.ensures in (
      omega (arith, r.ensures.0, x.auto.seen),
      declarations_more A.text.now A.n.pool.now A.seen.now _ _ A.n.at _ A.s x.result r.result (omega (arith, c))
          (rw (node.0, node.1) at c.size_of-size.ensures) x.auto.seen
          (rw (c.child.ensures.0, c.child.ensures.1) at x.ensures.1)
          (rw (c.child-2.ensures.0, c.child-2.ensures.1, node.0, node.1) at r.ensures.1),
    )
