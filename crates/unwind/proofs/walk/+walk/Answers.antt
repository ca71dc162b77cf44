-- The proof of the cycle of calls {arm, arms, both, choice, repeat, select, turns, unwind}. The measure is the weight that is still free, then the
-- node, then the rank of the function: a child is an earlier node, and each pass of a FOR weighs 1. Assumes nothing.
use mathlib.Core.Path.{refl, sym, ◌∙◌}
use native.Mathlib.Omega.{arith}
use Rattle.std.proofs.lemmas.Result.{err_from_is_err_and}
use Rattle.tree.specs.Trees.{expr_at}
use Rattle.variables.specs.Table.{listed_in}
use Rattle.unwind.proofs.Values.{back_small}
use Rattle.unwind.proofs.Steps.{none_did, assign_node, first_refused, second_refused, both_did}
use Rattle.unwind.proofs.Choosing.{test_refused, test_heavy, left_refused, right_refused, choice_did}
use Rattle.unwind.proofs.Arming.{no_arms_did, else_did, test_bad, left_bad, right_bad, arm_did}
use Rattle.unwind.proofs.Selecting.{selector_refused, select_did}
use Rattle.unwind.proofs.Turning.{set_stops, body_stops, passed_goes, last_pass, turns_ready, more_passes}
use Rattle.unwind.proofs.Repeating.{no_head, no_pass, passes_fall, passes_ready, all_passes}
use Rattle.unwind.proofs.walk.+walk.Goals as goal

pub arm-returns-in_err-c : goal.arm-returns-in_err-c
arm-returns-in_err-c t c =
    let A = c.args in
    let test = rw (c.child-labels.ensures.0) at c.in_err-c.ensures in
    let p = err_from_is_err_and c.from_residual.result c.from_residual.ensures.1 in
    rw (p.1, p.2) (test_bad (listed_in A.vars.text.now A.vars.pool.now A.vars.table.now) A.vars.text.now A.n.pool.now A.env.now A.sel (expr_at A.vars.text.now A.sel.node.pool.now A.sel.node.at) A.n.at A.count A.weight A.out.now c.requires.1 _ _ c.child-labels.ensures.1 _ test)

pub arm-returns-in_err-a : goal.arm-returns-in_err-a
arm-returns-in_err-a t c =
    let A = c.args in
    let test = rw (c.child-labels.ensures.0) at c.in_ok-c.ensures in
    let left = rw (c.child-list.ensures.0) at c.in_err-a.ensures in
    let p = err_from_is_err_and c.from_residual-in_err-a.result c.from_residual-in_err-a.ensures.1 in
    rw (p.1, p.2) (left_bad (listed_in A.vars.text.now A.vars.pool.now A.vars.table.now) A.vars.text.now A.n.pool.now A.env.now A.sel (expr_at A.vars.text.now A.sel.node.pool.now A.sel.node.at) A.n.at A.count A.weight A.out.now c.requires.1 _ _ c.child-labels.ensures.1 _ test _ _ _ c.child-list.ensures.1 _ left)

pub arm-returns-in_err-b : goal.arm-returns-in_err-b
arm-returns-in_err-b t c =
    let A = c.args in
    let test = rw (c.child-labels.ensures.0) at c.in_ok-c.ensures in
    let left = rw (c.child-list.ensures.0) at c.in_ok-a.ensures in
    let right = rw (c.child-rest.ensures.0) at c.in_err-b.ensures in
    let p = err_from_is_err_and c.from_residual-in_err-b.result c.from_residual-in_err-b.ensures.1 in
    rw (p.1, p.2) (right_bad (listed_in A.vars.text.now A.vars.pool.now A.vars.table.now) A.vars.text.now A.n.pool.now A.env.now A.sel (expr_at A.vars.text.now A.sel.node.pool.now A.sel.node.at) A.n.at A.count A.weight A.out.now c.requires.1 _ _ c.child-labels.ensures.1 _ test _ _ _ c.child-list.ensures.1 _ left _ _ _ c.child-rest.ensures.1 _ right)

pub arm-returns : goal.arm-returns
arm-returns t c =
    let A = c.args in
    let test = rw (c.child-labels.ensures.0) at c.in_ok-c.ensures in
    let left = rw (c.child-list.ensures.0) at c.in_ok-a.ensures in
    let right = rw (c.child-rest.ensures.0) at c.in_ok-b.ensures in
    arm_did (listed_in A.vars.text.now A.vars.pool.now A.vars.table.now) A.vars.text.now A.n.pool.now A.env.now A.sel (expr_at A.vars.text.now A.sel.node.pool.now A.sel.node.at) A.n.at A.count A.weight A.out.now c.requires.1 _ _ c.child-labels.ensures.1 _ test _ _ _ c.child-list.ensures.1 _ left _ _ _ c.child-rest.ensures.1 _ right _ refl _ _ c.joined.ensures

pub arms-returns-in-Nothing : goal.arms-returns-in-Nothing
arms-returns-in-Nothing t c =
    let A = c.args in no_arms_did (listed_in A.vars.text.now A.vars.pool.now A.vars.table.now) A.vars.text.now A.n.pool.now A.env.now A.sel (expr_at A.vars.text.now A.sel.node.pool.now A.sel.node.at) A.n.at A.count A.weight A.out.now c.in-Nothing.ensures _ c.nothing.ensures.0 c.nothing.ensures.1 c.nothing.ensures.2 c.requires.1.1

pub arms-returns-in-Otherwise : goal.arms-returns-in-Otherwise
arms-returns-in-Otherwise t c =
    let A = c.args in
    let list = rw (c.child-list.ensures.0) at c.unwind.ensures in
    else_did (listed_in A.vars.text.now A.vars.pool.now A.vars.table.now) A.vars.text.now A.n.pool.now A.env.now A.sel (expr_at A.vars.text.now A.sel.node.pool.now A.sel.node.at) A.n.at A.count A.weight A.out.now c.in-Otherwise.ensures _ _ _ c.child-list.ensures.1 _ list

pub both-returns-in_err-a : goal.both-returns-in_err-a
both-returns-in_err-a t c =
    let A = c.args in
    let left = rw (c.child-first.ensures.0) at c.in_err-a.ensures in
    let p = err_from_is_err_and c.from_residual.result c.from_residual.ensures.1 in
    rw (p.1, p.2) (first_refused (listed_in A.vars.text.now A.vars.pool.now A.vars.table.now) A.vars.text.now A.n.pool.now A.env.now A.n.at A.count A.weight A.out.now c.requires.1 _ _ _ c.child-first.ensures.1 _ left)

pub both-returns-in_err-b : goal.both-returns-in_err-b
both-returns-in_err-b t c =
    let A = c.args in
    let left = rw (c.child-first.ensures.0) at c.in_ok-a.ensures in
    let right = rw (c.child-next.ensures.0) at c.in_err-b.ensures in
    let p = err_from_is_err_and c.from_residual-in_err-b.result c.from_residual-in_err-b.ensures.1 in
    rw (p.1, p.2) (second_refused (listed_in A.vars.text.now A.vars.pool.now A.vars.table.now) A.vars.text.now A.n.pool.now A.env.now A.n.at A.count A.weight A.out.now c.requires.1 _ _ _ c.child-first.ensures.1 _ left _ _ _ c.child-next.ensures.1 _ right)

pub both-returns : goal.both-returns
both-returns t c =
    let A = c.args in
    let left = rw (c.child-first.ensures.0) at c.in_ok-a.ensures in
    let right = rw (c.child-next.ensures.0) at c.in_ok-b.ensures in
    both_did (listed_in A.vars.text.now A.vars.pool.now A.vars.table.now) A.vars.text.now A.n.pool.now A.env.now A.n.at A.count A.weight A.out.now c.requires.1 _ _ _ c.child-first.ensures.1 _ left _ _ _ c.child-next.ensures.1 _ right _ _ c.linked.ensures

pub choice-returns-in_err-v : goal.choice-returns-in_err-v
choice-returns-in_err-v t c =
    let A = c.args in
    let place = rw (c.child-j.ensures.0) at c.place-q.ensures in
    let test = rw (c.child-test.ensures.0) at c.in_err-v.ensures in
    let p = err_from_is_err_and c.from_residual.result c.from_residual.ensures.1 in
    rw (p.1, p.2) (test_refused (listed_in A.vars.text.now A.vars.pool.now A.vars.table.now) A.vars.text.now A.n.pool.now A.env.now A.n.at A.count A.weight A.out.now c.requires.1 _ _ c.child-j.ensures.1 place _ _ c.child-test.ensures.1 _ test)

pub choice-returns-in_err-w : goal.choice-returns-in_err-w
choice-returns-in_err-w t c =
    let A = c.args in
    let place = rw (c.child-j.ensures.0) at c.place-q.ensures in
    let test = rw (c.child-test.ensures.0) at c.in_ok-v.ensures in
    let p = err_from_is_err_and c.from_residual-in_err-w.result c.from_residual-in_err-w.ensures.1 in
    rw (p.1, p.2) (test_heavy (listed_in A.vars.text.now A.vars.pool.now A.vars.table.now) A.vars.text.now A.n.pool.now A.env.now A.n.at A.count A.weight A.out.now c.requires.1 _ _ c.child-j.ensures.1 place _ _ c.child-test.ensures.1 _ test _ c.in_err-w.ensures.0 c.in_err-w.ensures.1)

pub choice-returns-in_err-a : goal.choice-returns-in_err-a
choice-returns-in_err-a t c =
    let A = c.args in
    let place = rw (c.child-j.ensures.0) at c.place-q.ensures in
    let test = rw (c.child-test.ensures.0) at c.in_ok-v.ensures in
    let to_left = rw (c.child-j.ensures.0) at c.child-first.ensures in
    let left = rw (to_left.0) at c.in_err-a.ensures in
    let p = err_from_is_err_and c.from_residual-in_err-a.result c.from_residual-in_err-a.ensures.1 in
    rw (p.1, p.2) (left_refused (listed_in A.vars.text.now A.vars.pool.now A.vars.table.now) A.vars.text.now A.n.pool.now A.env.now A.n.at A.count A.weight A.out.now c.requires.1 _ _ c.child-j.ensures.1 place _ _ c.child-test.ensures.1 _ test
    _ c.in_ok-w.ensures.0 c.in_ok-w.ensures.1 c.requires.0.1.0 c.requires.0.1.2 _ _ _ to_left.1 _ left)

pub choice-returns-in_err-b : goal.choice-returns-in_err-b
choice-returns-in_err-b t c =
    let A = c.args in
    let place = rw (c.child-j.ensures.0) at c.place-q.ensures in
    let test = rw (c.child-test.ensures.0) at c.in_ok-v.ensures in
    let to_left = rw (c.child-j.ensures.0) at c.child-first.ensures in
    let left = rw (to_left.0) at c.in_ok-a.ensures in
    let to_right = rw (c.child-j.ensures.0) at c.child-second.ensures in
    let right = rw (to_right.0) at c.in_err-b.ensures in
    let p = err_from_is_err_and c.from_residual-in_err-b.result c.from_residual-in_err-b.ensures.1 in
    rw (p.1, p.2) (right_refused (listed_in A.vars.text.now A.vars.pool.now A.vars.table.now) A.vars.text.now A.n.pool.now A.env.now A.n.at A.count A.weight A.out.now c.requires.1 _ _ c.child-j.ensures.1 place _ _ c.child-test.ensures.1 _ test
    _ c.in_ok-w.ensures.0 c.in_ok-w.ensures.1 c.requires.0.1.0 c.requires.0.1.2 _ _ _ to_left.1 _ left _ _ _ to_right.1 _ right)

pub choice-returns : goal.choice-returns
choice-returns t c =
    let A = c.args in
    let place = rw (c.child-j.ensures.0) at c.place-q.ensures in
    let test = rw (c.child-test.ensures.0) at c.in_ok-v.ensures in
    let to_left = rw (c.child-j.ensures.0) at c.child-first.ensures in
    let left = rw (to_left.0) at c.in_ok-a.ensures in
    let to_right = rw (c.child-j.ensures.0) at c.child-second.ensures in
    let right = rw (to_right.0) at c.in_ok-b.ensures in
    choice_did (listed_in A.vars.text.now A.vars.pool.now A.vars.table.now) A.vars.text.now A.n.pool.now A.env.now A.n.at A.count A.weight A.out.now c.requires.1 _ _ c.child-j.ensures.1 place _ _ c.child-test.ensures.1 _ test
    _ c.in_ok-w.ensures.0 c.in_ok-w.ensures.1 c.requires.0.1.0 c.requires.0.1.2 _ _ _ to_left.1 _ left _ _ _ to_right.1 _ right _ refl _ _ c.joined.ensures

pub repeat-returns-in_default : goal.repeat-returns-in_default
repeat-returns-in_default t c =
    let A = c.args in
    no_head (listed_in A.vars.text.now A.vars.pool.now A.vars.table.now) A.vars.text.now A.n.pool.now A.env.now A.n.at A.out.now A.count A.weight c.requires.1 c.in_default.ensures _ c.place.ensures

pub repeat-returns-then-passed : goal.repeat-returns-then-passed
repeat-returns-then-passed t c =
    let A = c.args in
    no_pass (listed_in A.vars.text.now A.vars.pool.now A.vars.table.now) A.vars.text.now A.n.pool.now A.env.now A.n.at A.out.now A.count A.weight c.requires.1 c.in-Some.ensures (sym c.passed.ensures ∙ c.if-passed.true) c.set_variable.ensures

pub repeat-turns-r-requires : goal.repeat-turns-r-requires
repeat-turns-r-requires t c =
    let A = c.args in (
      omega (arith, passes_fall (listed_in A.vars.text.now A.vars.pool.now A.vars.table.now) A.vars.text.now A.n.pool.now A.env.now A.n.at A.out.now A.count A.weight c.requires.1 c.in-Some.ensures _ c.child-body.ensures.1 (sym c.passed.ensures ∙ c.if-passed.false)),
      passes_ready (listed_in A.vars.text.now A.vars.pool.now A.vars.table.now) A.vars.text.now A.n.pool.now A.env.now A.n.at A.out.now A.count A.weight c.requires.1 c.in-Some.ensures _ c.child-body.ensures.1 (sym c.passed.ensures ∙ c.if-passed.false) c.requires.0,
    )

pub repeat-returns : goal.repeat-returns
repeat-returns t c =
    let A = c.args in
    let passes = rw (c.child-body.ensures.0) at c.turns-r.ensures in
    all_passes (listed_in A.vars.text.now A.vars.pool.now A.vars.table.now) A.vars.text.now A.n.pool.now A.env.now A.n.at A.out.now A.count A.weight c.requires.1 c.in-Some.ensures _ c.child-body.ensures.1 (sym c.passed.ensures ∙ c.if-passed.false) passes

pub select-returns-in_err-v : goal.select-returns-in_err-v
select-returns-in_err-v t c =
    let A = c.args in
    let looked = rw (c.child-s.ensures.0) at c.in_err-v.ensures in
    let p = err_from_is_err_and c.from_residual.result c.from_residual.ensures.1 in
    rw (p.1, p.2) (selector_refused (listed_in A.vars.text.now A.vars.pool.now A.vars.table.now) A.vars.text.now A.n.pool.now A.env.now A.n.at A.count A.weight A.out.now c.requires.1 _ _ c.child-s.ensures.1 _ looked)

pub select-returns : goal.select-returns
select-returns t c =
    let A = c.args in
    let looked = rw (c.child-s.ensures.0) at c.in_ok-v.ensures in
    let rest = rw (c.child-first.ensures.0) at c.arms.ensures in
    select_did (listed_in A.vars.text.now A.vars.pool.now A.vars.table.now) A.vars.text.now A.n.pool.now A.env.now A.n.at A.count A.weight A.out.now c.requires.1 _ _ c.child-s.ensures.1 _ looked _ c.place.ensures refl _ (rw (c.child-s.ensures.0) refl) _ _ _ c.child-first.ensures.1 _ rest

pub turns-returns-in_err-s : goal.turns-returns-in_err-s
turns-returns-in_err-s t c =
    let L = c.loop-s in
    let whole = rw (back_small c.args.v c.requires.small.1) at L.invariant.2 in
    let p = err_from_is_err_and c.from_residual.result c.from_residual.ensures.1 in
    rw (p.1, p.2) (whole _ _ _ (set_stops _ _ _ L.invariant.1 c.in_err-s.ensures))

pub turns-returns-in_err-b : goal.turns-returns-in_err-b
turns-returns-in_err-b t c =
    let L = c.loop-s in
    let whole = rw (back_small c.args.v c.requires.small.1) at L.invariant.2 in
    let p = err_from_is_err_and c.from_residual-in_err-b.result c.from_residual-in_err-b.ensures.1 in
    rw (p.1, p.2) (whole _ _ _ (body_stops _ _ _ L.invariant.1 c.in_ok-s.ensures c.residue_of.ensures c.in_err-b.ensures))

pub turns-returns-then-passed : goal.turns-returns-then-passed
turns-returns-then-passed t c =
    let L = c.loop-s in
    let whole = rw (back_small c.args.v c.requires.small.1) at L.invariant.2 in
    whole _ _ _ (last_pass _ _ _ L.invariant.1 c.in_ok-s.ensures c.residue_of.ensures c.in_ok-b.ensures c.linked-x.ensures c.linked-passes.ensures (sym c.passed.ensures ∙ c.if-passed.true))

pub turns-loop-s-preserved : goal.turns-loop-s-preserved
turns-loop-s-preserved t c =
    let L = c.loop-s in
    let on = sym c.passed.ensures ∙ c.if-passed.false in (
      omega (arith, L.invariant.0, (passed_goes _ _ _ L.invariant.1 c.in_ok-s.ensures c.residue_of.ensures c.in_ok-b.ensures c.linked-x.ensures c.linked-passes.ensures).heavy),
      turns_ready _ _ _ L.invariant.1 c.in_ok-s.ensures c.residue_of.ensures c.in_ok-b.ensures c.linked-x.ensures c.linked-passes.ensures on,
      λ env new r passes. L.invariant.2 env new r (more_passes _ _ _ L.invariant.1 c.in_ok-s.ensures c.residue_of.ensures c.in_ok-b.ensures c.linked-x.ensures c.linked-passes.ensures on env new r passes),
    )

pub unwind-returns-in-Nothing : goal.unwind-returns-in-Nothing
unwind-returns-in-Nothing t c =
    let A = c.args in none_did (listed_in A.vars.text.now A.vars.pool.now A.vars.table.now) A.vars.text.now A.n.pool.now A.env.now A.n.at A.count A.weight A.out.now c.in-Nothing.ensures _ c.nothing.ensures.0 c.nothing.ensures.1 c.nothing.ensures.2 c.requires.1.1

pub unwind-returns-in-Assignment : goal.unwind-returns-in-Assignment
unwind-returns-in-Assignment t c =
    let A = c.args in assign_node (listed_in A.vars.text.now A.vars.pool.now A.vars.table.now) A.vars.text.now A.n.pool.now A.env.now A.n.at A.count A.weight A.out.now _ _ c.in-Assignment.ensures c.assignment.ensures
