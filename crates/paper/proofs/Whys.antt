-- Refusals and their numbers.
use mathlib.Core.Path.{◌≡◌, refl}
use mathlib.Core.Bool.{Bool, true, false, ◌&&◌, false≢true}
use mathlib.Core.List.{List, [], ◌∷◌}
use Prim.Native.Nat.{ℕ, zero, suc, ◌+◌, ◌-◌, ◌≤◌, ◌<◌}
use native.Mathlib.Omega.{arith}
use borrow.Author.Tests.{eqb-true}
use lib.Dec.{eqb}
use lib.ListN.{get_or}
use Rattle.paper.specs.declared.Why.{Why}
use Rattle.paper.specs.declared.Why.TheVariants.{TooLong, NoWord, BadShape, TooDeep, BadName, BadType, TooHigh, BadWalk, TooHeavy, NoRoom, BadTable, BadValue}
use Rattle.paper.specs.Refusals.{number_of, whys, why_of}

-- 0 stands for no refusal
pub code_pos : (w : Why) → number_of w ≡ 0 → ⊥
code_pos TooLong e = omega arith
code_pos NoWord e = omega arith
code_pos BadShape e = omega arith
code_pos TooDeep e = omega arith
code_pos BadName e = omega arith
code_pos BadType e = omega arith
code_pos TooHigh e = omega arith
code_pos BadWalk e = omega arith
code_pos TooHeavy e = omega arith
code_pos NoRoom e = omega arith
code_pos BadTable e = omega arith
code_pos BadValue e = omega arith

pub few_numbers : (w : Why) → number_of w ≤ 12
few_numbers TooLong = omega arith
few_numbers NoWord = omega arith
few_numbers BadShape = omega arith
few_numbers TooDeep = omega arith
few_numbers BadName = omega arith
few_numbers BadType = omega arith
few_numbers TooHigh = omega arith
few_numbers BadWalk = omega arith
few_numbers TooHeavy = omega arith
few_numbers NoRoom = omega arith
few_numbers BadTable = omega arith
few_numbers BadValue = omega arith

-- a refusal is known by its number
pub why_number : (w : Why) → why_of (number_of w) ≡ w
why_number TooLong = refl
why_number NoWord = refl
why_number BadShape = refl
why_number TooDeep = refl
why_number BadName = refl
why_number BadType = refl
why_number TooHigh = refl
why_number BadWalk = refl
why_number TooHeavy = refl
why_number NoRoom = refl
why_number BadTable = refl
why_number BadValue = refl

-- the numbers go up from k
abbrev is_counted : ℕ → List Why → Bool
is_counted k [] = true
is_counted k (w ∷ ws) = eqb (number_of w) k && is_counted (k + 1) ws

both : (x y : Bool) → (x && y) ≡ true → (x ≡ true) × (y ≡ true)
both true y e = (refl, e)
both false y e = (e, absurd (false≢true e))

counted : (k : ℕ) (ws : List Why) → is_counted k ws ≡ true → (n : ℕ) → number_of (get_or ws n BadValue) < 12 → number_of (get_or ws n BadValue) ≡ k + n
counted k [] c n h = absurd (omega arith)
counted k (w ∷ ws) c zero h = omega (arith, eqb-true (number_of w) k (both (eqb (number_of w) k) (is_counted (k + 1) ws) c).0)
counted k (w ∷ ws) c (suc n) h = omega (arith, counted (k + 1) ws (both (eqb (number_of w) k) (is_counted (k + 1) ws) c).1 n h)

-- the number of a refusal that a number gives
pub number_why : (n : ℕ) → (n ≡ 0 → ⊥) → number_of (why_of n) < 12 → number_of (why_of n) ≡ n
number_why n l h = omega (arith, counted 1 whys refl (n - 1) h, l)
