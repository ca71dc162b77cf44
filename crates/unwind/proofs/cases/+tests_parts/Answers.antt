-- The proof of the cycle of calls {tests_parts}. The measure is the node: the labels before are an earlier one.
use mathlib.Core.Path.{sym, ◌∙◌}
use native.Mathlib.Omega.{arith}
use Rattle.unwind.proofs.Tests.{parts_none, parts_first, parts_more}
use Rattle.unwind.proofs.cases.+tests_parts.Goals as goal

pub returns-then-n-eq0 : goal.returns-then-n-eq0
returns-then-n-eq0 t c =
    parts_none c.args.n.pool.now c.args.parts c.args.n.at c.if-n-eq0.true

pub returns-then-b-eq0 : goal.returns-then-b-eq0
returns-then-b-eq0 t c =
    let A = c.args in
    let last = rw (c.child.ensures.0, c.child.ensures.1) at c.test_parts-m.ensures in
    parts_first A.n.pool.now A.parts A.n.at (omega (arith, c.if-n-eq0.false)) _ last (sym c.child-b.ensures.1 ∙ c.if-b-eq0.true) c.min.result (omega (arith, c.min.ensures))

pub returns : goal.returns
returns t c =
    let A = c.args in
    let last = rw (c.child.ensures.0, c.child.ensures.1) at c.test_parts-m.ensures in
    let before = rw (c.child-b.ensures.0, c.child-b.ensures.1) at c.tests_parts.ensures in
    parts_more A.n.pool.now A.parts A.n.at (omega (arith, c.if-n-eq0.false)) _ last (omega (arith, c.if-b-eq0.false, c.child-b.ensures.1)) c.tests_parts.result c.min-2.result before (omega (arith, c.min-2.ensures))
