-- `kaldvimur::counted` meets its contract.
use Rattle.kaldvimur.proofs.Standing.{counts}
use Rattle.kaldvimur.proofs.counted.Goals as goal

pub returns : goal.returns
returns c =
    let A = c.args in
    counts A.text.now A.program.pool.now A.program.table.now A.program.plain.now A.program.judged _ _ _ c.printed.ensures
