-- `try_runs::short::table_made` meets its contract.
use mathlib.Core.Path.{◌∙◌}
use native.Mathlib.Omega.{arith}
use Rattle.try_runs.proofs.Rooms.{is_made, fronts}
use Rattle.try_runs.proofs.short.table_made.Goals as goal

pub returns : goal.returns
returns c e =
    let m = is_made (c.table_as.ensures e) in
    (m.0, fronts _ c.args.n 12256 c.args.k 64 7 (omega arith) (omega arith) ∙ m.1, m.2)
