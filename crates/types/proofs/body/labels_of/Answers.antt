-- `types::body::labels_of` meets its contract.
use Rattle.types.proofs.Owns.{labels_unheard}
use Rattle.types.proofs.body.labels_of.Goals as goal

pub returns-in-Some : goal.returns-in-Some
returns-in-Some c =
    let A = c.args in
    rw c.in-Some.is (labels_unheard A.n.pool.now A.n.at A.best)
