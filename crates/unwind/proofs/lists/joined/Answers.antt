-- `unwind::lists::joined` meets its contract.
use native.Mathlib.Omega.{arith}
use Rattle.plain.specs.Flat.{list_at}
use Rattle.unwind.proofs.Walking.{cells_most, joined_good}
use Rattle.unwind.proofs.lists.joined.Goals as goal

pub heavier-requires : goal.heavier-requires
heavier-requires c =
    omega (arith, cells_most c.args.cells (list_at c.args.out.now c.args.a) (list_at c.args.out.now c.args.b.root), (rw (c.node_at.ensures.0, c.node_at.ensures.1, c.node_at-2.ensures.0, c.node_at-2.ensures.1) at c.cells_within.ensures), c.requires)

pub returns : goal.returns
returns c =
    let A = c.args in
    joined_good A.out.now A.cells A.q A.c A.a _ A.b (rw (c.node_at.ensures.0, c.node_at.ensures.1, c.node_at-2.ensures.0, c.node_at-2.ensures.1) at c.cells_within.ensures) _ _ _ c.emit-n.ensures c.in_ok-w.ensures.0 c.in_ok-w.ensures.1 (omega (arith, c.requires)) (omega (arith, c.requires)) (omega (arith, c.requires)) (omega (arith, c.requires))
