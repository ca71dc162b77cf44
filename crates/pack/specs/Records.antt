-- What a pack's bytes say: a number, a line of two numbers, a record's lengths, and what is expected.
use Rattle.std.specs.Prelude.{◌≡◌, true, false, List, [], ◌∷◌, ◌++◌, ℕ, ◌+◌, ◌-◌, ◌*◌, ◌≤◌, ◌<◌, length, get_or, take, Option, None, Some, Result, IfSome, IfOk}
use Rattle.paper.specs.Words.{bytes, is_digit, begins}
use Rattle.pack.specs.declared.Spelled.{Spelled}
use Rattle.pack.specs.declared.Lengths.{Lengths}
use Rattle.pack.specs.declared.RecordError.{RecordError}
use Rattle.pack.specs.declared.Refused.{Refused}
use Rattle.pack.specs.declared.Expected.{Expected}
use Rattle.pack.specs.declared.Expected.TheVariants as E

-- digits, and the number that they spell in tens
pub data Decimal : List ℕ → ℕ → Type 0 where
  none : Decimal [] 0
  more : {s : List ℕ} {n : ℕ} → Decimal s n → (c : ℕ) → is_digit c ≡ true → Decimal (s ++ (c ∷ [])) (n * 10 + (c - 48))

-- no digit stands first
abbrev pub NoDigit : List ℕ → Type 0
NoDigit s = 0 < length s → is_digit (get_or s 0 0) ≡ false

-- all digits that s begins with, unless the number has nine places before they end
pub record Spells (s : List ℕ) (r : Spelled) : Type 0 where
  pub some : 0 < r.count
  pub within : r.count ≤ length s
  pub small : r.value < 1000000000
  pub digits : Decimal (take r.count s) r.value
  pub stops : r.count < length s → r.value < 100000000 → is_digit (get_or s r.count 0) ≡ false

-- digits that spell n, and LF
pub record IsAlone (s : List ℕ) (n : ℕ) : Type 0 where
  pub front : List ℕ
  pub some : 0 < length front
  pub digits : Decimal front n
  pub whole : s ≡ front ++ (10 ∷ [])

-- digits that spell n, what stands between, digits that spell p, and LF
pub record Line (between s : List ℕ) (n p : ℕ) : Type 0 where
  pub first : List ℕ
  pub second : List ℕ
  pub number : Decimal first n
  pub place : Decimal second p
  pub some : 0 < length first
  pub some_more : 0 < length second
  pub whole : s ≡ first ++ (between ++ (second ++ (10 ∷ [])))

-- the first n bytes of xs lie within it
abbrev pub IsPrefixLen : ℕ → List ℕ → Type 0
IsPrefixLen n xs = (n ≤ length xs) × (n ≡ length (take n xs))

-- a whole record lies within the buffers
abbrev pub IsRecord : List ℕ → List ℕ → Result (Option Lengths) RecordError → Type 0
IsRecord t x r = IfOk r (λ o. IfSome o (λ l. IsPrefixLen l.text t × IsPrefixLen l.expected x))

-- a refusal by its number, with its place
abbrev pub numbered : ℕ → ℕ → Refused
numbered n p = record { number = n; place = p }

-- a print begins otherwise than a refusal
abbrev pub IsExpected : List ℕ → Option Expected → Type 0
IsExpected s (Some E.Print) = begins (bytes "refused ") s ≡ false
IsExpected s (Some (E.Refused r)) = (t : List ℕ) × (s ≡ bytes "refused " ++ t) × Line (bytes " at ") t r.number r.place
IsExpected s None = begins (bytes "refused ") s ≡ true
