-- `kaldvimur_c::kv_scan_checked` meets its contract.
use Rattle.paper.specs.Tables.{total_in}
use Rattle.paper.specs.Judge.{scan_checked}
use Rattle.lent.proofs.Checking.{reads_checked}
use Rattle.kaldvimur_c.proofs.Bounds.{scanned_by}
use Rattle.kaldvimur_c.proofs.Codes.{is_near}
use Rattle.kaldvimur_c.proofs.kv_scan_checked.Goals as goal

pub answer-requires : goal.answer-requires
answer-requires c =
    is_near _ _ (scanned_by scan_checked total_in reads_checked _ _ _) c.scan_checked.ensures.answer
