use Prim.Native.Nat.{◌+◌, ◌*◌, ◌-◌, ◌≤◌}
use Rattle.variables.specs.Table.{listed_in}
use Rattle.unwind.specs.Loops.{TurnsReady}
use Rattle.unwind.proofs.Turning.{Carries}
use Rattle.unwind.proofs.walk.+walk.Given as goal

abbrev pub decreases-arm : goal.decreases-arm
decreases-arm l = 4194304 * (3001 - l.weight) + 32 * l.n.at

abbrev pub decreases-arms : goal.decreases-arms
decreases-arms l = 4194304 * (3001 - l.weight) + 32 * l.n.at + 1

abbrev pub decreases-both : goal.decreases-both
decreases-both l = 4194304 * (3001 - l.weight) + 32 * l.n.at

abbrev pub decreases-choice : goal.decreases-choice
decreases-choice l = 4194304 * (3001 - l.weight) + 32 * l.n.at

abbrev pub decreases-repeat : goal.decreases-repeat
decreases-repeat l = 4194304 * (3001 - l.weight) + 32 * l.n.at

abbrev pub decreases-select : goal.decreases-select
decreases-select l = 4194304 * (3001 - l.weight) + 32 * l.n.at

abbrev pub decreases-turns : goal.decreases-turns
decreases-turns l = 4194304 * (3001 - l.weight) + 32 * l.body.at

abbrev pub invariant-turns-loop-s : goal.invariant-turns-loop-s
invariant-turns-loop-s l =
    (l.weight ≤ l.passes.weight) × TurnsReady l.env l.out l.h l.next l.body.at l.passes.count l.passes.weight l.passes.root × Carries (listed_in l.vars.text.now l.vars.pool.now l.vars.table.now) l.vars.text.now l.body.pool.now l.initial.env l.env l.initial.out l.out l.h l.body.at l.v l.next l.count l.weight l.before l.passes

abbrev pub decreases-turns-loop-s : goal.decreases-turns-loop-s
decreases-turns-loop-s l =
    3001 - l.passes.weight

abbrev pub decreases-unwind : goal.decreases-unwind
decreases-unwind l = 4194304 * (3001 - l.weight) + 32 * l.n.at + 1
