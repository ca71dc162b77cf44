-- Rows that stand in front of what a buffer held, and rows added behind them.
use Rattle.std.specs.Prelude.{◌≡◌, List, [], ◌∷◌, ◌++◌, map, ℕ, ◌*◌, ◌≤◌, length, take}
use Rattle.paper.specs.declared.Row.{Row}
use Rattle.paper.specs.Tables.{Line, row, record_of, records}
use Rattle.paper.specs.Judge.{over}

-- the rows that stand for the cells, by their numbers
abbrev pub rows_in : List ℕ → List Row
rows_in env = map row env

-- n rows, which have numbers of 16 bits, have their place in a buffer
abbrev pub Room : List ℕ → ℕ → Type 0
Room base n = (4 * n ≤ length base) × (n ≤ 65535)

-- a buffer that held `base` holds the n rows rs
pub record Holds (base buffer : List ℕ) (n : ℕ) (rs : List Line) : Type 0 where
  pub count : n ≡ length rs
  pub rows : buffer ≡ over (records rs) base

-- behind any n rows there are those that f makes of them, r in all, where there is room
abbrev pub Adds : List ℕ → List ℕ → ℕ → ℕ → (List Line → List Line) → Type 0
Adds old new n r f =
    (base : List ℕ) (rs : List Line) → Holds base old n rs → Room base (length (f rs)) → Holds base new r (f rs)

-- one row more, by the four numbers of its record
abbrev pub Emits : List ℕ → List ℕ → ℕ → ℕ → ℕ → ℕ → ℕ → ℕ → Type 0
Emits old new n h a b c r = (l : Line) → record_of l ≡ h ∷ a ∷ b ∷ c ∷ [] → Adds old new n r (λ rs. rs ++ l ∷ [])

-- what stands before the place i is kept
abbrev pub Front : ℕ → List ℕ → List ℕ → Type 0
Front i old new = take i new ≡ take i old
