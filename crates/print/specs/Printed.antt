-- What printing leaves in a lent buffer. A place is where the next byte goes; bytes beyond the buffer are counted and not written.
use Rattle.std.specs.Prelude.{◌≡◌, List, [], ◌++◌, ℕ, suc, ◌+◌, ◌^◌, ◌≤◌, ◌<◌, min, length, take, drop}
use Rattle.paper.specs.Printing as P

-- where a place stops: no buffer is longer
abbrev pub limit : ℕ
limit = 18446744073709551615

-- From `at` on the buffer has what `front` prints in front of nothing, and r is the place behind it.
pub record Printed (old new : List ℕ) (at : ℕ) (front : List ℕ → List ℕ) (r : ℕ) : Type 0 where
  -- the same bytes in front of anything
  pub law : (k : List ℕ) → front k ≡ front [] ++ k
  pub place : r ≡ min limit (at + length (front []))
  pub size : length new ≡ length old
  pub written : at + length (front []) ≤ length old → length old ≤ limit
      → new ≡ take at old ++ front [] ++ drop (at + length (front [])) old

-- the digits of a number, by any count that is enough for them
abbrev pub PrintedDigits : List ℕ → List ℕ → ℕ → ℕ → ℕ → Type 0
PrintedDigits old new at n r = (f : ℕ) → n < 10 ^ suc f → Printed old new at (P.digits (suc f) n) r
