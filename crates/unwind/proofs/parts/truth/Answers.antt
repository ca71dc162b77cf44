-- `unwind::parts::truth` meets its contract.
use Prim.Native.Nat.{◌+◌}
use native.Mathlib.Omega.{arith}
use mathlib.Core.Bool.{true, false}
use Rattle.plain.proofs.Forms.{put_truth}
use Rattle.unwind.proofs.Emits.{spelt_one}
use Rattle.unwind.proofs.parts.truth.Goals as goal

pub returns-then-b-clause-node : goal.returns-then-b-clause-node
returns-then-b-clause-node c =
    rw (c.if-b.true, c.ended.ensures.0) (spelt_one _ _ _ _ _ _ _ _ _ c.emit.ensures (λ h. put_truth c.args.out.now (c.args.count + 1) 0 0 0 (omega arith) h true))

pub returns-clause-node : goal.returns-clause-node
returns-clause-node c =
    rw (c.if-b.false, c.ended-2.ensures.0) (spelt_one _ _ _ _ _ _ _ _ _ c.emit-2.ensures (λ h. put_truth c.args.out.now (c.args.count + 1) 0 0 0 (omega arith) h false))
