-- `names::table::fill` meets its contract.
use native.Mathlib.Omega.{arith}
use Rattle.names.proofs.Filling.{fills_all}
use Rattle.names.proofs.table.fill.Goals as goal

pub returns : goal.returns
returns c =
    let A = c.args in
    let a = c.add_kind-inputs in
    let b = c.add_kind-outputs in
    let r = c.add_kind in (
      omega (arith, r.ensures.0, a.auto.table, b.auto.table),
      fills_all A.text.now A.n.pool.now A.table.now a.new.table b.new.table r.new.table A.n.at a.result b.result r.result
          a.auto.table b.auto.table a.ensures.1 b.ensures.1 r.ensures.1,
    )
