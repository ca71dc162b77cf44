-- `unwind::lists::linked` meets its contract.
use native.Mathlib.Omega.{arith}
use Rattle.unwind.proofs.Walking.{linked_second, linked_first, linked_both}
use Rattle.unwind.proofs.lists.linked.Goals as goal

pub returns-then-a-eq0 : goal.returns-then-a-eq0
returns-then-a-eq0 c =
    linked_second c.args.out.now c.args.count c.args.a c.args.b c.args.weight (omega (arith, c.requires)) c.if-a-eq0.true

pub returns-then-b-eq0 : goal.returns-then-b-eq0
returns-then-b-eq0 c =
    linked_first c.args.out.now c.args.count c.args.a c.args.b c.args.weight (omega (arith, c.requires)) c.if-b-eq0.true

pub returns : goal.returns
returns c =
    linked_both c.args.out.now c.args.count c.args.a c.args.b c.args.weight _ _ c.emit-n.ensures (omega (arith, c.requires)) (omega (arith, c.requires)) (omega (arith, c.requires)) (omega (arith, c.if-a-eq0.false)) (omega (arith, c.if-b-eq0.false))
