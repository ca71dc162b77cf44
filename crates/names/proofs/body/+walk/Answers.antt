-- The measure is twice the node, one more for a list and arms, and two more for the lists of an IF, whose own node may be nil.
-- A turn of a loop leaves the faults of what is left, after the soonest so far.
use borrow.Author.Rules.{rules}
use mathlib.Core.Path.{refl, ap, ◌∙◌}
use native.Mathlib.Omega.{arith}
use Rattle.names.specs.Walks.{after}
use Rattle.names.proofs.After.{stays, alone, then, before}
use Rattle.names.proofs.Places.{kept_set}
use Rattle.names.proofs.Fronts.{no_statements, assignment_faults, choice_faults, select_faults, repeat_faults, list_faults, no_arms, else_faults, arm_faults_lem, part_head, part_assignment, inner_statements}
use Rattle.names.proofs.body.+walk.Goals as goal

pub arms-returns-in-Nothing : goal.arms-returns-in-Nothing
arms-returns-in-Nothing t c =
    let A = c.args in
    let L = c.loop-x in
    (stays L.x _ (no_arms _ A.vars.text.now L.rest.pool.now L.loops A.depth L.rest.at c.in-Nothing.ensures) ∙ L.invariant.3, L.invariant.2)

pub arms-returns-in-Otherwise : goal.arms-returns-in-Otherwise
arms-returns-in-Otherwise t c =
    let A = c.args in
    let L = c.loop-x in
    let s = rw (c.child.ensures.0, c.child.ensures.1) at c.statements.ensures in (
      alone L.x _ _ _ s.0 (else_faults _ A.vars.text.now L.rest.pool.now L.loops A.depth L.rest.at c.in-Otherwise.ensures) ∙ L.invariant.3,
      λ k l. s.1 k l ∙ L.invariant.2 k l,
    )

pub arms-loop-x-preserved : goal.arms-loop-x-preserved
arms-loop-x-preserved t c =
    let A = c.args in
    let L = c.loop-x in
    let s = rw (c.child-in-Arm.ensures.0, c.child-in-Arm.ensures.1) at c.statements-x.ensures in
    let r = c.child-rest.ensures in (
      search rules,
      search rules,
      λ k l. s.1 k l ∙ L.invariant.2 k l,
      rw (r.0, r.1) (then L.x _ _ _ _ _ s.0 refl (arm_faults_lem _ A.vars.text.now L.rest.pool.now L.loops A.depth L.rest.at _ s.1 c.in-Arm.ensures))
          ∙ L.invariant.3,
    )

pub repeat-returns : goal.repeat-returns
repeat-returns t c =
    let A = c.args in
    let h = c.child-h.ensures in
    let x = c.head-x in
    let own = rw (h.0, h.1) at x.ensures in
    let place = rw (h.0, h.1) at c.place.ensures in
    let s = rw (c.child.ensures.0, c.child.ensures.1) at c.statements.ensures in
    let P = c.requires in (
      then A.best x.result _ _ _ _ (own ∙ ap (after A.best) (part_head _ A.vars.text.now A.n.pool.now A.loops.now A.depth (omega (arith, P)) _))
          (s.0 ∙ ap (after x.result) (inner_statements _ A.vars.text.now A.n.pool.now A.loops.now A.depth _ _ _ (omega (arith, P)) place))
          refl,
      λ k l. s.1 k (omega arith) ∙ kept_set A.depth A.loops.now _ k l,
    )

pub statements-returns-in-Nothing : goal.statements-returns-in-Nothing
statements-returns-in-Nothing t c =
    let A = c.args in
    let L = c.loop-x in
    (stays L.x _ (no_statements _ A.vars.text.now L.rest.pool.now L.loops A.depth L.rest.at c.in-Nothing.ensures) ∙ L.invariant.3, L.invariant.2)

pub statements-returns-in-Assignment : goal.statements-returns-in-Assignment
statements-returns-in-Assignment t c =
    let A = c.args in
    let L = c.loop-x in (
      alone L.x _ _ _
          (c.assignment.ensures ∙ ap (after L.x) (part_assignment _ A.vars.text.now L.rest.pool.now L.loops A.depth (omega (arith, c.requires, L.invariant.1)) _ _))
          (assignment_faults _ A.vars.text.now L.rest.pool.now L.loops A.depth L.rest.at c.in-Assignment.ensures)
          ∙ L.invariant.3,
      L.invariant.2,
    )

pub statements-returns-in-Choice : goal.statements-returns-in-Choice
statements-returns-in-Choice t c =
    let A = c.args in
    let L = c.loop-x in
    let y = rw (c.child-a.ensures.0, c.child-a.ensures.1) at c.unknown-y.ensures in
    let s = rw (c.child-b.ensures.0, c.child-b.ensures.1) at c.branches.ensures in (
      then L.x _ _ _ _ _ y s.0 (choice_faults _ A.vars.text.now L.rest.pool.now L.loops A.depth L.rest.at c.in-Choice.ensures) ∙ L.invariant.3,
      λ k l. s.1 k l ∙ L.invariant.2 k l,
    )

pub statements-returns-in-Selection : goal.statements-returns-in-Selection
statements-returns-in-Selection t c =
    let A = c.args in
    let L = c.loop-x in
    let y = rw (c.child-a.ensures.0, c.child-a.ensures.1) at c.unknown-y-in-Selection.ensures in
    let s = rw (c.child-b.ensures.0, c.child-b.ensures.1) at c.arms.ensures in (
      then L.x _ _ _ _ _ y s.0 (select_faults _ A.vars.text.now L.rest.pool.now L.loops A.depth L.rest.at c.in-Selection.ensures) ∙ L.invariant.3,
      λ k l. s.1 k l ∙ L.invariant.2 k l,
    )

pub statements-returns-in-Loop : goal.statements-returns-in-Loop
statements-returns-in-Loop t c =
    let A = c.args in
    let L = c.loop-x in
    let s = c.repeat.ensures in (
      alone L.x _ _ _ s.0 (repeat_faults _ A.vars.text.now L.rest.pool.now L.loops A.depth L.rest.at c.in-Loop.ensures) ∙ L.invariant.3,
      λ k l. s.1 k l ∙ L.invariant.2 k l,
    )

pub statements-loop-x-preserved : goal.statements-loop-x-preserved
statements-loop-x-preserved t c =
    let A = c.args in
    let L = c.loop-x in
    let s = rw (c.child-b.ensures.0, c.child-b.ensures.1) at c.statements-x.ensures in
    let r = c.child-a.ensures in (
      search rules,
      search rules,
      λ k l. s.1 k l ∙ L.invariant.2 k l,
      rw (r.0, r.1) (before L.x _ _ _ _ _ s.0 refl (list_faults _ A.vars.text.now L.rest.pool.now L.loops A.depth L.rest.at _ s.1 c.in-List.ensures))
          ∙ L.invariant.3,
    )
