-- The end of an array's bounds.
use Rattle.std.proofs.lemmas.Result.{err_from_is_err_and}
use Rattle.reader.proofs.Bounds.{end_bad, end_good}
use Rattle.reader.proofs.array_end.Goals as goal

pub returns-in_err-close : goal.returns-in_err-close
returns-in_err-close c =
    let p = err_from_is_err_and c.from_residual.result c.from_residual.ensures.1 in rw (p.1, p.2) (end_bad c.in_err-close.ensures)

pub returns : goal.returns
returns c =
    end_good c.in_ok-close.ensures c.expect-2.ensures
