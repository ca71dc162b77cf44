-- Whole numbers as bytes spell them: one, and several parted by commas.
use Rattle.std.specs.Prelude.{◌≡◌, Bool, true, false, cond, ◌⊎◌, List, [], ◌∷◌, ◌++◌, ℕ, ◌-◌, ◌≤◌, ◌<◌, ℤ, pos, neg_ℤ, nat_abs, length, get_or, take, drop}
use Rattle.paper.specs.Words.{is_digit, begins}
use Rattle.pack.specs.Records.{Decimal}
use Rattle.pack.specs.declared.Spelled.{Spelled as Digits}
use Rattle.numbers.specs.declared.Whole.{Whole}
use Rattle.numbers.specs.declared.Listed.{Listed}

-- digits, or a minus (45) and digits
pub data Signed : List ℕ → ℤ → Type 0 where
  plain : {s : List ℕ} {n : ℕ} → 0 < length s → Decimal s n → Signed s (pos n)
  minus : {s : List ℕ} {n : ℕ} → 0 < length s → Decimal s n → Signed (45 ∷ s) (neg_ℤ (pos n))

-- one whole number, or one, a comma (44), and more
pub data Spelled : List ℕ → List ℤ → Type 0 where
  one : {s : List ℕ} {z : ℤ} → Signed s z → Spelled s (z ∷ [])
  more : {s t : List ℕ} {z : ℤ} {zs : List ℤ} → Signed s z → Spelled t zs → Spelled (s ++ (44 ∷ t)) (z ∷ zs)

-- all digits that s begins with, unless the number has ten places before they end
pub record IsTen (s : List ℕ) (r : Digits) : Type 0 where
  pub some : 0 < r.count
  pub within : r.count ≤ length s
  pub small : r.value < 10000000000
  pub digits : Decimal (take r.count s) r.value
  pub stops : r.count < length s → r.value < 1000000000 → is_digit (get_or s r.count 0) ≡ false

-- the same as a whole number
pub record IsPlain (s : List ℕ) (r : Whole) : Type 0 where
  pub value : ℕ
  pub as_whole : r.value ≡ pos value
  pub digits : IsTen s (record { value = value; count = r.count })

-- whether a digit stands first, and whether one does behind a minus, if there is one
abbrev pub digit_first : List ℕ → Bool
digit_first [] = false
digit_first (c ∷ s) = is_digit c

abbrev pub number_first : List ℕ → Bool
number_first s = digit_first (cond (begins (45 ∷ []) s) (drop 1 s) s)

-- the whole number that s begins with: all its digits, unless it has ten places before they end
pub record IsWhole (s : List ℕ) (r : Whole) : Type 0 where
  pub first : number_first s ≡ true
  pub within : r.count ≤ length s
  pub small : nat_abs r.value ≤ 9999999999
  pub spelled : Signed (take r.count s) r.value
  pub stops : r.count < length s → nat_abs r.value < 1000000000 → is_digit (get_or s r.count 0) ≡ false

-- what has been read where a number must follow: nothing, or values and a comma behind them
pub data Begun : List ℕ → List ℤ → Type 0 where
  start : Begun [] []
  comma : {s : List ℕ} {zs : List ℤ} → Spelled s zs → Begun (s ++ (44 ∷ [])) zs

-- bytes and the values put are as P wants them; what stands behind these in the buffer is left as it was
pub record Read (P : List ℕ → List ℤ → Type 0) (s : List ℕ) (old new : List ℤ) (r : Listed) : Type 0 where
  pub room : r.values ≤ length old
  pub within : r.count ≤ length s
  pub kept : length new ≡ length old
  pub behind : drop r.values new ≡ drop r.values old
  pub read : P (take r.count s) (take r.values new)

-- the values that s begins with, where no comma follows and no digit that belongs to the last of them
pub record IsListed (s : List ℕ) (old new : List ℤ) (r : Listed) : Type 0 where
  pub spelled : Read Spelled s old new r
  pub no_comma : r.count < length s → get_or s r.count 0 ≡ 44 → ⊥
  pub no_digit : r.count < length s → nat_abs (get_or new (r.values - 1) (pos 0)) < 1000000000 → is_digit (get_or s r.count 0) ≡ false

-- as many as there are until there is no room or no number
pub record IsUnlisted (s : List ℕ) (old new : List ℤ) (r : Listed) : Type 0 where
  pub begun : Read Begun s old new r
  pub ends : (r.values ≡ length old) ⊎ (number_first (drop r.count s) ≡ false)
