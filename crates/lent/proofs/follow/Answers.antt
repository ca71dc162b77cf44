-- `lent::follow` meets its contract: the readings put, and the table run.
use Rattle.lent.proofs.Following.{follows}
use Rattle.lent.proofs.follow.Goals as goal

pub returns-then-n-le64 : goal.returns-then-n-le64
returns-then-n-le64 c =
    let A = c.args in
    let P = c.requires in
    follows A.rows.now A.cells.now A.n A.inputs.now A.state.now _ _ _ P.1 P.0.state P.0.readings c.hold.ensures c.run_in.ensures

pub returns-then-n-le512 : goal.returns-then-n-le512
returns-then-n-le512 c =
    let A = c.args in
    let P = c.requires in
    follows A.rows.now A.cells.now A.n A.inputs.now A.state.now _ _ _ P.1 P.0.state P.0.readings c.hold.ensures c.run_in-then-n-le512.ensures

pub returns-else-n-le512 : goal.returns-else-n-le512
returns-else-n-le512 c =
    let A = c.args in
    let P = c.requires in
    follows A.rows.now A.cells.now A.n A.inputs.now A.state.now _ _ _ P.1 P.0.state P.0.readings c.hold.ensures c.run_in-else-n-le512.ensures
