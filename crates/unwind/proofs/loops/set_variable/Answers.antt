-- `unwind::loops::set_variable` meets its contract.
use mir.Facts.{to_z-of_z}
use Rattle.unwind.proofs.Numbers.{set_good}
use Rattle.unwind.proofs.loops.set_variable.Goals as goal

pub returns : goal.returns
returns c =
    let A = c.args in
    let pre = c.requires in
    set_good A.out.now A.h A.v A.count A.weight _ _ _ _ _ _ (to_z-of_z c.ranges.v) c.number-n.ensures c.emit-m.ensures c.in_ok-w.ensures.0 c.in_ok-w.ensures.1 pre.2.0 pre.2.2
