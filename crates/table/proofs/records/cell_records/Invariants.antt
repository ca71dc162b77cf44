use Rattle.std.proofs.Common.{List, ℕ, ◌≡◌, length}
use Rattle.table.specs.Walks.{Ends}
use Rattle.table.proofs.records.cell_records.Given as goal

-- what ends from the cell i on ends from the first on
abbrev pub invariant-loop-i : goal.invariant-loop-i
invariant-loop-i l =
    (cells : List ℕ) → length cells ≡ length l.initial.cells → Ends l.i l.infos l.env l.cells cells → Ends 0 l.infos l.env l.initial.cells cells
