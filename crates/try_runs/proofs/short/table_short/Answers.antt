-- `try_runs::short::table_short` meets its contract.
use mathlib.Core.Path.{◌∙◌}
use native.Mathlib.Omega.{arith}
use Rattle.try_runs.proofs.Rooms.{fronts}
use Rattle.try_runs.proofs.short.table_short.Goals as goal

pub returns : goal.returns
returns c e =
    fronts _ c.args.n 12256 c.args.k 64 7 (omega arith) (omega arith) ∙ (c.untabled.ensures e).answer
