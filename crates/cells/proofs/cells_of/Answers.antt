-- `cells::cells_of` meets its contract. The loop's invariant: the cells of the first `v` variables are written.
use mathlib.Core.Path.{◌≡◌, ap, ◌∙◌}
use mathlib.Core.List.{[]}
use Prim.Native.Nat.{◌+◌, ◌/◌}
use native.Mathlib.Omega.{arith}
use lib.ListN.{length}
use Rattle.cells.specs.Numbers.{number_of, declared_info}
use Rattle.cells.proofs.Pours.{poured_kept}
use Rattle.cells.proofs.Variables.{numbers_of, numbers, PouredTo, table_start, table_more, numbers_end}
use Rattle.cells.proofs.cells_of.Goals as goal

pub loop-v-init : goal.loop-v-init
loop-v-init c =
    let A = c.args in
    (omega arith, table_start numbers_of _ numbers A.pool.now A.table.now A.cells.now)

pub loop-v-preserved : goal.loop-v-preserved
loop-v-preserved c =
    let A = c.args in
    let p = A.pool.now in
    let n = c.declaration_in-n.ensures in
    let h : PouredTo numbers_of p A.table.now (c.loop-v.v + 1) A.cells.now c.fill-at.new.list c.fill-at.result =
    table_more numbers_of _ numbers p A.table.now A.cells.now c.loop-v.v _ _ _ c.declaration_in-n.result.at _ _ _ c.loop-v.invariant.1 c.fill-at.ensures
    n.1 (rw n.0 at c.size_of.ensures) (λ text e. (rw n.0 at c.cell_number.ensures) ∙ ap (λ j. number_of (declared_info p j)) e) in
    let kept = poured_kept _ _ _ _ (h []) in
    (omega (arith, kept, (h []).behind), h)

pub returns : goal.returns
returns c =
    let A = c.args in
    let e : c.loop-v.v ≡ length A.table.now / 4 = omega arith in
    numbers_end A.pool.now A.table.now A.cells.now _ _ (rw e at c.loop-v.invariant.1)
