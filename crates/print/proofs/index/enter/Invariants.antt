use Rattle.std.proofs.Common.{◌≡◌, ◌≤◌, ◌+◌, length}
use Rattle.print.proofs.Indexes.{EnteredTo}
use Rattle.print.proofs.index.enter.Given as goal

-- the entries up to the cell `c` are the variable's
abbrev pub invariant-loop-c : goal.invariant-loop-c
invariant-loop-c l =
    (length l.index ≡ 64) × (l.c ≤ l.first + l.n) × EnteredTo l.first l.v l.initial.index l.c l.index
