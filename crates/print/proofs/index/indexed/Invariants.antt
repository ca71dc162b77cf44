use Rattle.std.proofs.Common.{ℕ, ◌≡◌, ◌<◌, length, get_or}
use Rattle.print.proofs.Indexes.{HoldsFrom}
use Rattle.print.proofs.index.indexed.Given as goal

-- each entry is the first variable from `v` on that has the cell
abbrev pub invariant-loop-v : goal.invariant-loop-v
invariant-loop-v l =
    (length l.index ≡ 64) × ((c : ℕ) → c < 64 → HoldsFrom l.vars.pool.now l.vars.table.now l.v c (get_or l.index c 0))
