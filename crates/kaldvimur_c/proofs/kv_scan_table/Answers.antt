-- `kaldvimur_c::kv_scan_table` meets its contract.
use Rattle.paper.specs.Tables.{table_in}
use Rattle.paper.specs.Judge.{scan_lent}
use Rattle.lent.proofs.Checking.{reads_lent}
use Rattle.kaldvimur_c.proofs.Bounds.{scanned_by}
use Rattle.kaldvimur_c.proofs.Codes.{is_near}
use Rattle.kaldvimur_c.proofs.kv_scan_table.Goals as goal

pub answer-requires : goal.answer-requires
answer-requires c =
    is_near _ _ (scanned_by scan_lent table_in reads_lent _ _ _) c.scan_table.ensures.answer
