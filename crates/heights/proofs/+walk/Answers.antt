-- The measure is twice the node, and one more for the lists of an IF, whose own node may be nil.
use native.Mathlib.Omega.{arith}
use Rattle.tree.proofs.Decodes.{child_most}
use Rattle.heights.proofs.Lists.{no_list, assign_listed, choice_listed, select_listed, loop_listed, list_listed, no_arms, arm_listed, else_listed}
use Rattle.heights.proofs.+walk.Goals as goal

pub arms-returns-in-Nothing : goal.arms-returns-in-Nothing
arms-returns-in-Nothing t c =
    let L = c.loop-x in
    L.invariant.2 _ (no_arms L.rest.pool.now L.rest.at c.args.h L.x c.in-Nothing.ensures)

pub arms-returns-in-Otherwise : goal.arms-returns-in-Otherwise
arms-returns-in-Otherwise t c =
    let L = c.loop-x in
    L.invariant.2 _
    (else_listed L.rest.pool.now L.rest.at c.args.h L.x _ c.in-Otherwise.ensures
    (rw (c.child-a.ensures.0, c.child-a.ensures.1) at c.statements.ensures))

pub arms-loop-x-preserved : goal.arms-loop-x-preserved
arms-loop-x-preserved t c =
    let L = c.loop-x in
    let at = c.child-rest.ensures in (
      rw (at.0, L.invariant.0),
      omega (arith, at, L.invariant, child_most L.rest.pool.now L.rest.at 3),
      λ r k. L.invariant.2 r
          (arm_listed L.rest.pool.now L.rest.at c.args.h L.x _ _ r c.in-Arm.ensures
          (rw (c.child-a.ensures.0, c.child-a.ensures.1) at c.tests-x.ensures)
          (rw (c.child.ensures.0, c.child.ensures.1) at c.statements-x.ensures)
          (rw (at.0, at.1) at k)),
    )

pub statements-returns-in-Nothing : goal.statements-returns-in-Nothing
statements-returns-in-Nothing t c =
    let L = c.loop-x in
    L.invariant.2 _ (no_list L.rest.pool.now L.rest.at L.x c.in-Nothing.ensures)

pub statements-returns-in-Assignment : goal.statements-returns-in-Assignment
statements-returns-in-Assignment t c =
    let L = c.loop-x in
    L.invariant.2 _ (assign_listed L.rest.pool.now L.rest.at L.x _ c.in-Assignment.ensures c.assignment.ensures)

pub statements-returns-in-Choice : goal.statements-returns-in-Choice
statements-returns-in-Choice t c =
    let L = c.loop-x in
    L.invariant.2 _
    (choice_listed L.rest.pool.now L.rest.at L.x _ _ c.in-Choice.ensures
    (rw (c.child-a.ensures.0, c.child-a.ensures.1) at c.measured-x.ensures)
    (rw (c.child-b.ensures.0, c.child-b.ensures.1) at c.branches.ensures))

pub statements-returns-in-Selection : goal.statements-returns-in-Selection
statements-returns-in-Selection t c =
    let L = c.loop-x in
    let at = c.child-a.ensures in
    L.invariant.2 _
    (select_listed L.rest.pool.now L.rest.at L.x _ _ _ c.in-Selection.ensures
    (rw (at.0, at.1) at c.selector-x.ensures)
    (rw (at.0, at.1) at c.height.ensures)
    (rw (c.child-b.ensures.0, c.child-b.ensures.1) at c.arms.ensures))

pub statements-loop-x-preserved-in-Loop : goal.statements-loop-x-preserved-in-Loop
statements-loop-x-preserved-in-Loop t c =
    let L = c.loop-x in
    let at = c.child-b.ensures in (
      rw (at.0, L.invariant.0),
      omega (arith, at, L.invariant, child_most L.rest.pool.now L.rest.at 2),
      λ r k. L.invariant.2 r
          (loop_listed L.rest.pool.now L.rest.at L.x r _ c.in-Loop.ensures
          (rw (c.child-a.ensures.0, c.child-a.ensures.1) at c.head-x.ensures)
          (rw (at.0, at.1) at k)),
    )

pub statements-loop-x-preserved : goal.statements-loop-x-preserved
statements-loop-x-preserved t c =
    let L = c.loop-x in
    let at = c.child-a.ensures in (
      rw (at.0, L.invariant.0),
      omega (arith, at, L.invariant, child_most L.rest.pool.now L.rest.at 1),
      λ r k. L.invariant.2 r
          (list_listed L.rest.pool.now L.rest.at L.x r _ c.in-List.ensures
          (rw (c.child-b.ensures.0, c.child-b.ensures.1) at c.statements-x.ensures)
          (rw (at.0, at.1) at k)),
    )
