-- The proof of the cycle of calls {names}. The measure is the node: a child is an earlier one.
use native.Mathlib.Omega.{arith}
use Rattle.names.proofs.Declaring.{no_names_lem, names_more}
use Rattle.names.proofs.declared.+names.Goals as goal

pub returns-then-n-eq0 : goal.returns-then-n-eq0
returns-then-n-eq0 t c =
    let A = c.args in
    (omega arith, rw c.if-n-eq0.true (no_names_lem A.text.now A.n.pool.now A.seen.now A.size A.s))

pub returns : goal.returns
returns t c =
    let A = c.args in
    let x = c.names-r in
    let r = c.declare in (
      omega (arith, r.ensures.0, x.auto.seen),
      names_more A.text.now A.n.pool.now A.seen.now _ _ A.n.at _ A.size A.s x.result r.result (omega (arith, c))
          c.place.ensures x.auto.seen (rw (c.child.ensures.0, c.child.ensures.1) at x.ensures.1) r.ensures.1,
    )
