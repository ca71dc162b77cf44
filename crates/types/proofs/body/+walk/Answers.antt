-- The measure is twice the node, and one more for `statements`: a child is an earlier node.
use mathlib.Core.Path.{◌∙◌}
use native.Mathlib.Omega.{arith}
use Rattle.tree.proofs.Frames.{child_most}
use Rattle.types.proofs.Fronts.{walk_none, walk_as, walk_assign, walk_list, choice_walk, select_walk, loop_walk, no_arms_lem, arms_else, arms_more}
use Rattle.types.proofs.body.+walk.Goals as goal

pub arms-returns-in-Nothing : goal.arms-returns-in-Nothing
arms-returns-in-Nothing t c =
    let A = c.args in
    let L = c.loop-y in
    L.invariant.whole _ _
    (no_arms_lem A.vars.text.now A.vars.pool.now A.vars.table.now L.loops L.loops A.n.pool.now A.depth L.rest.at L.y L.y A.s
    (rw L.invariant.pool at c.in-Nothing.ensures))

pub arms-returns-in-Otherwise : goal.arms-returns-in-Otherwise
arms-returns-in-Otherwise t c =
    let A = c.args in
    let L = c.loop-y in
    let same = L.invariant.pool in
    L.invariant.whole _ _
    (arms_else A.vars.text.now A.vars.pool.now A.vars.table.now L.loops _ A.n.pool.now A.depth L.rest.at L.y _ A.s (rw same at c.in-Otherwise.ensures)
    (rw (c.child.ensures.0, c.child.ensures.1, same) at c.statements.ensures))

pub arms-loop-y-preserved : goal.arms-loop-y-preserved
arms-loop-y-preserved t c =
    let A = c.args in
    let L = c.loop-y in
    let same = L.invariant.pool in
    record {
      pool = c.child-rest.ensures.0 ∙ same;
      at = omega (arith, child_most);
      loops = omega arith;
      whole = λ after r w. L.invariant.whole after r
          (arms_more A.vars.text.now A.vars.pool.now A.vars.table.now L.loops after A.n.pool.now A.depth L.rest.at L.y r A.s (rw same at c.in-Arm.ensures) _ _ _
          (rw (c.child-in-Arm.ensures.0, c.child-in-Arm.ensures.1, same) at c.labels_of-x.ensures)
          (rw (c.child-in-Arm-2.ensures.0, c.child-in-Arm-2.ensures.1, same) at c.statements-y.ensures)
          (rw (c.child-rest.ensures.1, same) at w));
    }

pub choice-returns : goal.choice-returns
choice-returns t c =
    let A = c.args in
    let lists = c.child-lists.ensures in
    choice_walk A.vars.text.now A.vars.pool.now A.vars.table.now A.loops.now _ A.n.pool.now A.depth A.n.at A.best _ (omega (arith, c.requires))
    c.condition-c.result c.condition-c.ensures _ c.statements-x.result c.sooner_of.result c.sooner_of.ensures
    (rw (c.child.ensures.0, c.child.ensures.1, lists.0, lists.1) at c.statements-x.ensures)
    (rw (c.child-2.ensures.0, c.child-2.ensures.1, lists.0, lists.1) at c.statements.ensures)

pub repeat-returns : goal.repeat-returns
repeat-returns t c =
    let A = c.args in
    loop_walk A.vars.text.now A.vars.pool.now A.vars.table.now A.loops.now _ A.n.pool.now A.depth A.n.at A.best _ (omega (arith, c.requires))
    c.head-h.result c.head-h.ensures c.place-v.result c.sooner_of-x.result
    (rw (c.child.ensures.0, c.child.ensures.1) at c.place-v.ensures) c.sooner_of-x.ensures
    (rw (c.child-2.ensures.0, c.child-2.ensures.1) at c.statements.ensures)

pub selection-returns : goal.selection-returns
selection-returns t c =
    let A = c.args in
    select_walk A.vars.text.now A.vars.pool.now A.vars.table.now A.loops.now _ A.n.pool.now A.depth A.n.at A.best _ (omega (arith, c.requires))
    c.selector_of-s.result c.selector_of-s.ensures c.sooner_of-x.result c.sooner_of-x.ensures
    (rw (c.child.ensures.0, c.child.ensures.1) at c.arms.ensures)

pub statements-returns-in-Nothing : goal.statements-returns-in-Nothing
statements-returns-in-Nothing t c =
    let A = c.args in
    let L = c.loop-x in
    L.invariant.whole _ _
    (walk_none A.vars.text.now A.vars.pool.now A.vars.table.now L.loops L.loops A.n.pool.now A.depth L.rest.at L.x L.x
    (rw L.invariant.pool at c.in-Nothing.ensures))

pub statements-returns-in-Assignment : goal.statements-returns-in-Assignment
statements-returns-in-Assignment t c =
    let A = c.args in
    let L = c.loop-x in
    let same = L.invariant.pool in
    L.invariant.whole _ _
    (walk_assign A.vars.text.now A.vars.pool.now A.vars.table.now L.loops L.loops A.n.pool.now A.depth L.rest.at L.x _ (rw same at c.in-Assignment.ensures)
    (omega (arith, c.requires)) c.assignment.result (rw same at c.assignment.ensures) c.sooner_of.ensures)

pub statements-returns-in-Choice : goal.statements-returns-in-Choice
statements-returns-in-Choice t c =
    let A = c.args in
    let L = c.loop-x in
    let same = L.invariant.pool in
    L.invariant.whole _ _
    (walk_as A.vars.text.now A.vars.pool.now A.vars.table.now L.loops _ A.n.pool.now A.depth L.rest.at L.x _ _ (rw same at c.choice.ensures)
    (rw same at (c.in-Choice.ensures.list A.vars.text.now)))

pub statements-returns-in-Selection : goal.statements-returns-in-Selection
statements-returns-in-Selection t c =
    let A = c.args in
    let L = c.loop-x in
    let same = L.invariant.pool in
    L.invariant.whole _ _
    (walk_as A.vars.text.now A.vars.pool.now A.vars.table.now L.loops _ A.n.pool.now A.depth L.rest.at L.x _ _ (rw same at c.selection.ensures)
    (rw same at (c.in-Selection.ensures.list A.vars.text.now)))

pub statements-returns-in-Loop : goal.statements-returns-in-Loop
statements-returns-in-Loop t c =
    let A = c.args in
    let L = c.loop-x in
    let same = L.invariant.pool in
    L.invariant.whole _ _
    (walk_as A.vars.text.now A.vars.pool.now A.vars.table.now L.loops _ A.n.pool.now A.depth L.rest.at L.x _ _ (rw same at c.repeat.ensures)
    (rw same at (c.in-Loop.ensures.list A.vars.text.now)))

pub statements-loop-x-preserved : goal.statements-loop-x-preserved
statements-loop-x-preserved t c =
    let A = c.args in
    let L = c.loop-x in
    let same = L.invariant.pool in
    record {
      pool = c.child-rest.ensures.0 ∙ same;
      at = omega (arith, child_most);
      loops = omega arith;
      whole = λ after r w. L.invariant.whole after r
          (walk_list A.vars.text.now A.vars.pool.now A.vars.table.now L.loops after A.n.pool.now A.depth L.rest.at L.x r (rw same at c.in-List.ensures) _ _
          (rw (c.child.ensures.0, c.child.ensures.1, same) at c.statements-x.ensures)
          (rw (c.child-rest.ensures.1, same) at w));
    }
