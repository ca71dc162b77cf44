-- `unwind::loops::head_of` meets its contract.
use mathlib.Core.Path.{refl}
use Rattle.variables.specs.Table.{listed_in}
use Rattle.unwind.proofs.Heads.{no_step_did, no_start_did, no_end_did, beyond_did, zero_did, head_did}
use Rattle.unwind.proofs.loops.head_of.Goals as goal
use Rattle.unwind.proofs.loops.head_of.Goals.{then-env-v-via-then-env-v, then-env-v-via-else-env-v+then-by-eq0}

pub returns-in_err-by : goal.returns-in_err-by
returns-in_err-by c =
    let A = c.args in
    let h = c.child-h.ensures in
    let g = rw (h.0) at c.child-g.ensures in
    let place = rw (h.0) at c.place.ensures in
    let step = rw (h.0) at c.child.ensures in
    let cell = c.in_ok-v.ensures in
    let none = rw (step.0) at c.in_err-by.ensures in
    rw c.from_residual-in_err-by.ensures (no_step_did (listed_in A.vars.text.now A.vars.pool.now A.vars.table.now) A.vars.text.now A.n.pool.now A.env.now A.n.at _ _ _ _ _ _ h.1 g.1 place step.1 refl refl _ _ cell.cell cell.ty none)

pub returns-in_err-from : goal.returns-in_err-from
returns-in_err-from c =
    let A = c.args in
    let h = c.child-h.ensures in
    let g = rw (h.0) at c.child-g.ensures in
    let place = rw (h.0) at c.place.ensures in
    let step = rw (h.0) at c.child.ensures in
    let start = rw (g.0) at c.child-2.ensures in
    let cell = c.in_ok-v.ensures in
    let by = rw (step.0) at c.in_ok-by.ensures in
    let none = rw (start.0) at c.in_err-from.ensures in
    rw c.from_residual-in_err-from.ensures (no_start_did (listed_in A.vars.text.now A.vars.pool.now A.vars.table.now) A.vars.text.now A.n.pool.now A.env.now A.n.at _ _ _ _ _ _ h.1 g.1 place step.1 start.1 refl _ _ cell.cell cell.ty _ by none)

pub returns-in_err-to : goal.returns-in_err-to
returns-in_err-to c =
    let A = c.args in
    let h = c.child-h.ensures in
    let g = rw (h.0) at c.child-g.ensures in
    let place = rw (h.0) at c.place.ensures in
    let step = rw (h.0) at c.child.ensures in
    let start = rw (g.0) at c.child-2.ensures in
    let end = rw (g.0) at c.child-3.ensures in
    let cell = c.in_ok-v.ensures in
    let by = rw (step.0) at c.in_ok-by.ensures in
    let from = rw (start.0) at c.in_ok-from.ensures in
    let none = rw (end.0) at c.in_err-to.ensures in
    rw c.from_residual-in_err-to.ensures (no_end_did (listed_in A.vars.text.now A.vars.pool.now A.vars.table.now) A.vars.text.now A.n.pool.now A.env.now A.n.at _ _ _ _ _ _ h.1 g.1 place step.1 start.1 end.1 _ _ cell.cell cell.ty _ by _ from none)

pub returns-then-env-v : goal.returns-then-env-v
returns-then-env-v c =
    let A = c.args in
    let h = c.child-h.ensures in
    let g = rw (h.0) at c.child-g.ensures in
    let place = rw (h.0) at c.place.ensures in
    let step = rw (h.0) at c.child.ensures in
    let start = rw (g.0) at c.child-2.ensures in
    let end = rw (g.0) at c.child-3.ensures in
    let cell = c.in_ok-v.ensures in
    let by = rw (step.0) at c.in_ok-by.ensures in
    let from = rw (start.0) at c.in_ok-from.ensures in
    let to = rw (end.0) at c.in_ok-to.ensures in
    elim c.then-env-v.branch [
      | then-env-v-via-then-env-v w ↦ beyond_did (listed_in A.vars.text.now A.vars.pool.now A.vars.table.now) A.vars.text.now A.n.pool.now A.env.now A.n.at _ _ _ _ _ _ h.1 g.1 place step.1 start.1 end.1 _ _ cell.cell cell.ty _ by _ from _ to w.if-env-v.true
      | then-env-v-via-else-env-v+then-by-eq0 w ↦ zero_did (listed_in A.vars.text.now A.vars.pool.now A.vars.table.now) A.vars.text.now A.n.pool.now A.env.now A.n.at _ _ _ _ _ _ h.1 g.1 place step.1 start.1 end.1 _ _ cell.cell cell.ty _ by _ from _ to w.if-by-eq0.true
    ]

pub returns : goal.returns
returns c =
    let A = c.args in
    let h = c.child-h.ensures in
    let g = rw (h.0) at c.child-g.ensures in
    let place = rw (h.0) at c.place.ensures in
    let step = rw (h.0) at c.child.ensures in
    let start = rw (g.0) at c.child-2.ensures in
    let end = rw (g.0) at c.child-3.ensures in
    let cell = c.in_ok-v.ensures in
    let by = rw (step.0) at c.in_ok-by.ensures in
    let from = rw (start.0) at c.in_ok-from.ensures in
    let to = rw (end.0) at c.in_ok-to.ensures in
    head_did (listed_in A.vars.text.now A.vars.pool.now A.vars.table.now) A.vars.text.now A.n.pool.now A.env.now A.n.at _ _ _ _ _ _ h.1 g.1 place step.1 start.1 end.1 _ _ cell.cell cell.ty _ by _ from _ to _ c.place-2.ensures c.if-env-v.false c.if-by-eq0.false
