-- The proof of the cycle of calls {tests}. The measure is the node: the labels before are an earlier one.
use native.Mathlib.Omega.{arith}
use Rattle.unwind.proofs.Spells.{tests_none, tests_single, tests_joined}
use Rattle.unwind.proofs.cases.+tests.Goals as goal

pub returns-then-n-eq0 : goal.returns-then-n-eq0
returns-then-n-eq0 t c =
    let A = c.args in tests_none A.n.pool.now A.n.at A.sel A.root A.out.now _ A.count _ c.if-n-eq0.true c.emit.ensures

pub returns-then-b-eq0 : goal.returns-then-b-eq0
returns-then-b-eq0 t c =
    let A = c.args in
    let last = rw (c.child.ensures.0) at c.test.ensures in
    tests_single A.n.pool.now A.n.at (omega (arith, c.if-n-eq0.false)) A.sel A.root A.out.now A.count c.requires.1 _ _ _ _ c.child-b.ensures.1 c.if-b-eq0.true c.child.ensures.1 last

pub returns : goal.returns
returns t c =
    let A = c.args in
    let before = rw (c.child-b.ensures.0) at c.tests-x.ensures in
    let last = rw (c.child-2.ensures.0) at c.test-y.ensures in
    tests_joined A.n.pool.now A.n.at (omega (arith, c.if-n-eq0.false)) A.sel A.root A.out.now A.count c.requires.1 _ _ _ _ _ _ _ _ c.child-b.ensures.1 (omega (arith, c.if-b-eq0.false)) c.child-2.ensures.1 before last c.emit-2.ensures
