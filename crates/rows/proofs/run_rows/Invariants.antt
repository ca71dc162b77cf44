use Rattle.std.proofs.Common.{[], ◌≡◌, take}
use Rattle.paper.specs.Tables.{values, lines_in}
use Rattle.rows.proofs.run_rows.Given as goal

abbrev pub invariant-loop-i : goal.invariant-loop-i
invariant-loop-i l =
    take l.i l.vals ≡ values l.state [] (lines_in l.i l.rows)
