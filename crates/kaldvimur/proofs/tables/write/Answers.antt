-- `kaldvimur::tables::write` meets its contract.
use mathlib.Core.Path.{refl}
use Rattle.kaldvimur.proofs.Tabling.{writes}
use Rattle.kaldvimur.proofs.tables.write.Goals as goal

pub returns : goal.returns
returns c =
    let A = c.args in
    writes A.program.pool.now A.program.table.now A.program.plain.now A.program.judged _ _ _ _ _ _ _ _ refl c.requires.few c.cells_of.ensures c.table_of.ensures
