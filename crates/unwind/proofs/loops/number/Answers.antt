-- `unwind::loops::number` meets its contract.
use mir.Facts.{to_z-of_z}
use Rattle.unwind.proofs.Numbers.{spelt_below, spelt_above}
use Rattle.unwind.proofs.loops.number.Goals as goal

pub returns-then-z-lt0 : goal.returns-then-z-lt0
returns-then-z-lt0 c =
    let A = c.args in
    spelt_below A.out.now _ A.count c.unsigned_abs-m.result _ _ A.t A.z _ (to_z-of_z c.ranges.z) c.unsigned_abs-m.ensures.value c.from-v.ensures c.if-z-lt0.true c.emit.ensures

pub returns : goal.returns
returns c =
    let A = c.args in
    spelt_above A.out.now _ A.count c.unsigned_abs-m.result _ _ A.t A.z _ (to_z-of_z c.ranges.z) c.unsigned_abs-m.ensures.value c.from-v.ensures c.if-z-lt0.false c.emit-2.ensures
