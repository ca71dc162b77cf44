-- `try_runs::short::state_short` meets its contract.
use mathlib.Core.Path.{ap, ◌∙◌}
use lib.IntN.{pos}
use Rattle.paper.specs.Judge.{start_into}
use Rattle.try_runs.proofs.Rooms.{no_state, front}
use Rattle.try_runs.proofs.short.state_short.Goals as goal

pub returns-then-n-le64 : goal.returns-then-n-le64
returns-then-n-le64 c e =
    ap (start_into _) (front _ 64 (pos 7) c.if-n-le64.true) ∙ no_state (c.started.ensures e)
