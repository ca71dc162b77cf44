-- The numbers that answer a refusal, and what every stage answers.
use Rattle.std.specs.Prelude.{◌≡◌, List, [], ◌∷◌, ℕ, ◌-◌, get_or, Result, Err, MatchResult}
use Rattle.paper.specs.declared.Why.{Why}
use Rattle.paper.specs.declared.Refusal.{Refusal}
use Rattle.paper.specs.declared.Why.TheVariants.{TooLong, NoWord, BadShape, TooDeep, BadName, BadType, TooHigh, BadWalk, TooHeavy, NoRoom, BadTable, BadValue}

abbrev pub number_of : Why → ℕ
number_of TooLong = 1
number_of NoWord = 2
number_of BadShape = 3
number_of TooDeep = 4
number_of BadName = 5
number_of BadType = 6
number_of TooHigh = 7
number_of BadWalk = 8
number_of TooHeavy = 9
number_of NoRoom = 10
number_of BadTable = 11
number_of BadValue = 12

-- a refusal by its number
abbrev pub whys : List Why
whys = TooLong ∷ NoWord ∷ BadShape ∷ TooDeep ∷ BadName ∷ BadType ∷ TooHigh ∷ BadWalk ∷ TooHeavy ∷ NoRoom ∷ BadTable ∷ BadValue ∷ []

abbrev pub why_of : ℕ → Why
why_of n = get_or whys (n - 1) BadValue

-- a refusal with its place, or what was asked for
pub data Answer (A : Type 0) : Type 0 where
  refused : Why → ℕ → Answer A
  given : A → Answer A

-- as the functions say it
abbrev pub refusal : Why → ℕ → Refusal
refusal w p = record { why = w; place = p }

-- a function's result r is that refusal, or what P says of what was asked for
abbrev pub Gives : {A T : Type 0} → (A → T → Type 0) → Answer A → Result T Refusal → Type 0
Gives P (refused w p) r = r ≡ Err (refusal w p)
Gives P (given x) r = MatchResult r (P x) (λ e. ⊥)

-- one stage after another: the first refusal is the answer
infixl 20 ◌>>=◌
abbrev pub ◌>>=◌ : {A B : Type 0} → Answer A → (A → Answer B) → Answer B
refused w p >>= f = refused w p
given a >>= f = f a
