use mathlib.Core.List.{◌++◌}
use mathlib.Core.Path.{◌≡◌}
use lib.ListN.{take, drop}
use Rattle.rows.proofs.Infos.{nexts}
use Rattle.rows.proofs.next_state.Given as goal

abbrev pub invariant-loop-i : goal.invariant-loop-i
invariant-loop-i l =
    take l.i l.state ++ nexts l.vals (drop l.i l.cells) (drop l.i l.state) ≡ nexts l.vals l.cells l.initial.state
