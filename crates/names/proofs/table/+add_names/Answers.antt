-- The proof of the cycle of calls {add_names}. The measure is the node: a child is an earlier one.
use native.Mathlib.Omega.{arith}
use Rattle.names.proofs.Filling.{adds_most, fills_names, fills_no_names}
use Rattle.names.proofs.table.+add_names.Goals as goal

pub returns-then-n-eq0 : goal.returns-then-n-eq0
returns-then-n-eq0 t c =
    let A = c.args in
    (omega arith, rw c.if-n-eq0.true (fills_no_names A.text.now A.n.pool.now A.table.now A.number A.size A.f (omega arith)))

pub returns : goal.returns
returns t c =
    let A = c.args in
    let m = c.add_names-g in
    let r = c.add in (
      rw (← m.auto.table) (adds_most A.text.now _ _ _ A.number A.size m.result r.result (rw m.auto.table m.ensures.0) r.ensures),
      fills_names A.text.now A.n.pool.now A.table.now _ _ A.n.at _ A.number A.size A.f m.result r.result (omega (arith, c))
          c.place.ensures m.auto.table m.ensures.0 (rw (c.child.ensures.0, c.child.ensures.1) at m.ensures.1) r.ensures,
    )
