use Rattle.std.proofs.Common.{List, ℕ, ◌≡◌, length}
use Rattle.table.specs.Walks.{Merges}
use Rattle.table.proofs.merging.merge_cells.Given as goal

-- what is merged from the cell i on is merged from the first on
abbrev pub invariant-loop-i : goal.invariant-loop-i
invariant-loop-i l =
    (env rows : List ℕ) (r : ℕ) → length env ≡ length l.initial.env → Merges l.i l.test l.infos l.marks l.env env l.other l.rows rows l.count r
    → Merges 0 l.test l.infos l.marks l.initial.env env l.other l.initial.rows rows l.initial.count r
