-- Each entry is the first variable from `v` on that has the cell.
use Rattle.std.proofs.Common.{arith, ◌≡◌, refl, ◌-◌, get_or}
use lib.ListN.{get_or-replicate}
use Rattle.print.proofs.Indexes.{from_none, from_one, from_all}
use Rattle.print.proofs.index.indexed.Goals as goal

pub loop-v-init : goal.loop-v-init
loop-v-init c =
    let A = c.args in
    (refl, λ i l. rw (get_or-replicate 64 i c.count-n.result 0 l, c.count-n.ensures) (from_none A.vars.pool.now A.vars.table.now i))

pub loop-v-preserved : goal.loop-v-preserved
loop-v-preserved c =
    let A = c.args in
    let L = c.loop-v in
    (c.enter.ensures.size, λ i l. rw (c.enter.ensures.entries i l) (from_one A.vars.pool.now A.vars.table.now i (L.v - 1) L.v (get_or L.index i 0) (omega arith) (omega arith) (L.invariant.1 i l)))

pub returns : goal.returns
returns c =
    let A = c.args in
    let L = c.loop-v in
    let z : L.v ≡ 0 = omega arith in
    λ i l. from_all A.vars.pool.now A.vars.table.now i (get_or L.index i 0) (rw z at (L.invariant.1 i l))
