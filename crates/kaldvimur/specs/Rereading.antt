-- A print lent again as a text: what `accept` and `print` answer to it, by what `print` left.
use Rattle.std.specs.Prelude.{◌≡◌, List, ℕ, ◌≤◌, length, take, Ok}
use Rattle.paper.specs.Judge.{verdict}
use Rattle.lent.specs.Outcomes.{Outcome}
use Rattle.kaldvimur.specs.Outcomes.{PrintDid}

-- done with the count n, and the n bytes in front of `before` stand in front of `after` too
pub record Repeats (before after : List ℕ) (n : ℕ) (r : Outcome) : Type 0 where
  pub answer : r ≡ Ok n
  pub bytes : take n after ≡ take n before

-- the n bytes in front of `new`, read as a text: `accept` answers to them the four numbers of t,
-- and `print` leaves the same n bytes in every buffer that has room for them
pub record Reread (t new : List ℕ) (n : ℕ) : Type 0 where
  pub four_numbers : verdict (take n new) ≡ verdict t
  pub print : (old after : List ℕ) (r : Outcome) → PrintDid (take n new) old after r → n ≤ length old → Repeats new after n r

-- for every text that `print` printed, whatever the buffer held, where the print fits the limit for a text
abbrev pub RereadForAll : Type 0
RereadForAll = (t old new : List ℕ) (n : ℕ) → PrintDid t old new (Ok n) → n ≤ 8192 → Reread t new n
