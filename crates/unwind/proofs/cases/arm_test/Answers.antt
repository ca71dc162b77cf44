-- `unwind::cases::arm_test` meets its contract.
use native.Mathlib.Omega.{arith}
use Rattle.tree.specs.Trees.{expr_at}
use Rattle.variables.specs.Table.{listed_in}
use Rattle.unwind.proofs.ArmTests.{arm_none, arm_some}
use Rattle.unwind.proofs.cases.arm_test.Goals as goal

pub returns-then-n-eq0 : goal.returns-then-n-eq0
returns-then-n-eq0 c =
    let A = c.args in
    arm_none (listed_in A.vars.text.now A.vars.pool.now A.vars.table.now) A.env.now A.out.now _ A.sel (expr_at A.vars.text.now A.sel.node.pool.now A.sel.node.at) A.n.pool.now A.n.at A.count A.weight _ c.in_ok-v.ensures
    _ c.tests_parts.ensures _ _ _ c.in_ok-w.ensures.0 c.in_ok-w.ensures.1 c.requires.0.0 c.requires.0.2 c.if-n-eq0.true c.emit-c.ensures

pub returns : goal.returns
returns c =
    let A = c.args in
    arm_some (listed_in A.vars.text.now A.vars.pool.now A.vars.table.now) A.env.now A.out.now _ A.sel (expr_at A.vars.text.now A.sel.node.pool.now A.sel.node.at) A.n.pool.now A.n.at A.count A.weight _ c.in_ok-v.ensures
    _ c.tests_parts.ensures _ _ _ c.in_ok-w.ensures.0 c.in_ok-w.ensures.1 c.requires.0.0 c.requires.0.2 (omega (arith, c.if-n-eq0.false)) c.tests-c.ensures
