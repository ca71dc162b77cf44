-- `cells::start` meets its contract. The loop's invariant: the values of the first `v` variables are written.
use mathlib.Core.Path.{◌≡◌, ap, ◌∙◌}
use mathlib.Core.List.{[]}
use Prim.Native.Nat.{◌+◌, ◌/◌}
use native.Mathlib.Omega.{arith}
use lib.ListN.{length}
use Rattle.paper.specs.Judge.{initial_value, start_of}
use Rattle.variables.specs.Table.{initial_in}
use Rattle.cells.proofs.Pours.{poured_kept}
use Rattle.cells.proofs.Values.{as_read}
use Rattle.cells.proofs.Variables.{starts, PouredTo, table_start, table_more, starts_end}
use Rattle.cells.proofs.start.Goals as goal

pub loop-v-init : goal.loop-v-init
loop-v-init c =
    let A = c.args in
    (omega arith, table_start start_of _ starts A.pool.now A.table.now A.state.now)

pub loop-v-preserved : goal.loop-v-preserved
loop-v-preserved c =
    let A = c.args in
    let p = A.pool.now in
    let n = c.declaration_in-n.ensures in
    let z = as_read c.declared_value.result c.declared_value.type_inv in
    let h : PouredTo start_of p A.table.now (c.loop-v.v + 1) A.state.now c.fill-at.new.list c.fill-at.result =
    table_more start_of _ starts p A.table.now A.state.now c.loop-v.v _ _ _ c.declaration_in-n.result.at _ _ _ c.loop-v.invariant.1 c.fill-at.ensures
    n.1 (rw n.0 at c.size_of.ensures) (λ text e. z ∙ (rw n.0 at c.declared_value.ensures) ∙ ap (λ j. initial_value (initial_in p j)) e) in
    let kept = poured_kept _ _ _ _ (h []) in
    (omega (arith, kept, (h []).behind), h)

pub returns : goal.returns
returns c =
    let A = c.args in
    let e : c.loop-v.v ≡ length A.table.now / 4 = omega arith in
    starts_end A.pool.now A.table.now A.state.now _ _ (rw e at c.loop-v.invariant.1)
