use Rattle.std.proofs.Common.{ℕ, List, ◌≡◌, length}
use Rattle.table.specs.Walks.{Starts}
use Rattle.table.proofs.read_cells.Given as goal

-- what starts from the cell i on starts from the first on
abbrev pub invariant-loop-i : goal.invariant-loop-i
invariant-loop-i l =
    (env rows : List ℕ) (r : ℕ) → length env ≡ length l.initial.env → Starts l.i l.infos l.env env l.rows rows l.count r
    → Starts 0 l.infos l.initial.env env l.initial.rows rows 0 r
