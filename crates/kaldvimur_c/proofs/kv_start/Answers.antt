-- `kaldvimur_c::kv_start` meets its contract.
use Rattle.kaldvimur_c.proofs.Bounds.{begun}
use Rattle.kaldvimur_c.proofs.Codes.{is_near}
use Rattle.kaldvimur_c.proofs.kv_start.Goals as goal

pub answer-requires : goal.answer-requires
answer-requires c =
    is_near _ _ (begun _ _) c.start.ensures.answer
