-- `unwind::lists::assigned` meets its contract.
use Rattle.unwind.proofs.Walking.{assigned_good}
use Rattle.unwind.proofs.lists.assigned.Goals as goal

pub returns : goal.returns
returns c =
    let A = c.args in
    assigned_good A.out.now A.at A.cell A.weight A.v _ _ _ c.emit-n.ensures c.in_ok-w.ensures.0 c.in_ok-w.ensures.1 c.requires.3
