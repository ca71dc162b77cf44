-- `kaldvimur_c::kv_print` meets its contract.
use Rattle.kaldvimur_c.proofs.Bounds.{printed}
use Rattle.kaldvimur_c.proofs.Codes.{is_near}
use Rattle.kaldvimur_c.proofs.kv_print.Goals as goal

pub answer-requires : goal.answer-requires
answer-requires c =
    is_near _ _ (printed _ _) c.print.ensures.answer
