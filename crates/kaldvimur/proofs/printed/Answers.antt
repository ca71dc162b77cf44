-- `kaldvimur::printed` meets its contract.
use Rattle.kaldvimur.proofs.Standing.{prints}
use Rattle.kaldvimur.proofs.printed.Goals as goal

pub returns : goal.returns
returns c =
    let A = c.args in
    prints A.text.now A.program.pool.now A.program.table.now A.program.plain.now A.program.judged _ _ _ _ c.word-name.ensures c.print.ensures
