-- `unwind::parts::read` meets its contract.
use Rattle.std.proofs.lemmas.Result.{err_from_is_err_and}
use Rattle.variables.specs.Table.{listed_in}
use Rattle.unwind.proofs.Parting.{unread_did, read_did}
use Rattle.unwind.proofs.parts.read.Goals as goal

pub returns-in_err-c : goal.returns-in_err-c
returns-in_err-c c =
    let A = c.args in
    let p = err_from_is_err_and c.from_residual.result c.from_residual.ensures.1 in
    rw (p.1, p.2) (unread_did (listed_in A.vars.text.now A.vars.pool.now A.vars.table.now) A.vars.text.now A.n.pool.now A.env.now A.n.at A.out.now A.count _ c.in_err-c.ensures)

pub returns : goal.returns
returns c =
    let A = c.args in
    read_did (listed_in A.vars.text.now A.vars.pool.now A.vars.table.now) A.vars.text.now A.n.pool.now A.env.now A.n.at A.out.now A.count _ c.in_ok-c.ensures _ _ c.ended.result c.emit-last.ensures c.ended.ensures.0 c.ended.ensures.1 c.ended.ensures.2
