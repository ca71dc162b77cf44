-- `kaldvimur_c::kv_check_table` meets its contract.
use Rattle.kaldvimur_c.proofs.Bounds.{checked}
use Rattle.kaldvimur_c.proofs.Codes.{is_near}
use Rattle.kaldvimur_c.proofs.kv_check_table.Goals as goal

pub answer-requires : goal.answer-requires
answer-requires c =
    is_near _ _ (checked _) c.check_table.ensures
