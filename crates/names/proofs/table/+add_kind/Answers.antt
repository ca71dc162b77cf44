-- The proof of the cycle of calls {add_kind}. The measure is the node: a child is an earlier one.
use native.Mathlib.Omega.{arith}
use Rattle.names.proofs.Filling.{fills_kind, fills_other, fills_no_kind}
use Rattle.names.proofs.table.+add_kind.Goals as goal

pub returns-then-n-eq0 : goal.returns-then-n-eq0
returns-then-n-eq0 t c =
    let A = c.args in
    (omega arith, rw c.if-n-eq0.true (fills_no_kind A.text.now A.n.pool.now A.table.now A.section A.f (omega arith)))

pub returns-then-eq : goal.returns-then-eq
returns-then-eq t c =
    let A = c.args in
    let m = c.add_kind-g in
    let r = c.add_names in
    let node = c.child-declaration.ensures in
    let first = c.child-then-eq.ensures in
    let section = rw (node.0, node.1) at c.section_of.ensures in (
      omega (arith, r.ensures.0, m.auto.table),
      fills_kind A.text.now A.n.pool.now A.table.now _ A.n.at A.section _ _ A.f m.result (omega (arith, c)) section c.eq.ensures
          _ _ r.result m.auto.table c.if-eq.true
          (rw (node.0, node.1) at c.child-declaration.result.inside)
          (rw (node.0, node.1) at c.size_of-size.ensures)
          (rw (c.child.ensures.0, c.child.ensures.1) at m.ensures.1)
          (rw (first.0, first.1, node.0, node.1, c.number_of.ensures) at r.ensures.1),
    )

pub returns : goal.returns
returns t c =
    let A = c.args in
    let m = c.add_kind-g in
    let node = c.child-declaration.ensures in
    let section = rw (node.0, node.1) at c.section_of.ensures in (
      omega (arith, m.ensures.0),
      fills_other A.text.now A.n.pool.now A.table.now _ A.n.at A.section _ _ A.f m.result (omega (arith, c)) section c.eq.ensures
          c.if-eq.false
          (rw (c.child.ensures.0, c.child.ensures.1) at m.ensures.1),
    )
