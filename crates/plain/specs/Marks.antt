-- Marks of the cells that lists assign: a number for each cell, and not 0 where it is marked.
use Rattle.std.specs.Prelude.{◌≡◌, Bool, cond, List, ℕ, ◌<◌, ltb, length, get_or}
use Rattle.paper.specs.Plain.{Stmts, assigns}

abbrev pub is_marked : List ℕ → ℕ → Bool
is_marked m c = ltb 0 (get_or m c 0)

-- the marks with those of a list
pub record Marks (s : Stmts) (old new : List ℕ) : Type 0 where
  pub kept : length new ≡ length old
  pub each : (c : ℕ) → c < length old → get_or new c 0 ≡ cond (assigns s c) 1 (get_or old c 0)
