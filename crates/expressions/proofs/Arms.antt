-- Operators, types and conversions by the class of their word: the arms of a `match` on it say what the list of all words says.
use mathlib.Core.Path.{◌≡◌, refl}
use mathlib.Core.Option as M
use mathlib.Core.List.{List, [], ◌∷◌}
use Prim.Native.Nat.{ℕ}
use Rattle.std.specs.Prelude.{Option, None, Some}
use Rattle.paper.specs.declared.Ty.{Ty}
use Rattle.paper.specs.declared.Ty.TheVariants.{Bool as BOOL, Int as INT, Uint as UINT, Dint as DINT, Udint as UDINT}
use Rattle.paper.specs.declared.Op.{Op}
use Rattle.paper.specs.declared.Op.TheVariants.{Mul, Div, Mod, Add, Sub, Lt, Gt, Le, Ge, Eq, Ne, And, Xor, Or}
use Rattle.paper.specs.Words.{bytes, same_bytes, reserved, signs}
use Rattle.paper.specs.Reading.{a_type, an_operator}
use Rattle.words.specs.Denoted.{entries, denoted}
use Rattle.expressions.specs.Reads.{as_conversion}
use Rattle.expressions.proofs.Entries.{words, said, chosen, by_arms}

-- from the last arm to the first
abbrev pub operators : List (ℕ × M.Option Op)
operators =
    (32, M.some Or) ∷ (31, M.some Xor) ∷ (73, M.some And) ∷ (30, M.some And) ∷ (58, M.some Ne)
    ∷ (72, M.some Eq) ∷ (57, M.some Ge) ∷ (56, M.some Le) ∷ (71, M.some Gt) ∷ (70, M.some Lt)
    ∷ (69, M.some Sub) ∷ (68, M.some Add) ∷ (29, M.some Mod) ∷ (67, M.some Div) ∷ (66, M.some Mul) ∷ []

abbrev pub types : List (ℕ × M.Option Ty)
types = (27, M.some UDINT) ∷ (26, M.some DINT) ∷ (25, M.some UINT) ∷ (24, M.some INT) ∷ (23, M.some BOOL) ∷ []

abbrev pub conversions : List (ℕ × Option ℕ)
conversions =
    (46, Some 35) ∷ (45, Some 34) ∷ (44, Some 33) ∷ (43, Some 28) ∷ (42, Some 26) ∷ (41, Some 25)
    ∷ (40, Some 20) ∷ (39, Some 19) ∷ (38, Some 17) ∷ (37, Some 12) ∷ (36, Some 11) ∷ (35, Some 10) ∷ []

pub operator_said : (c : ℕ) (s : List ℕ) (n : ℕ) → an_operator (denoted c s n) ≡ chosen operators M.none c
unfolding bytes same_bytes reserved signs entries words said
operator_said c s n = by_arms an_operator operators s n refl refl c

pub type_said : (c : ℕ) (s : List ℕ) (n : ℕ) → a_type (denoted c s n) ≡ chosen types M.none c
unfolding reserved signs entries words said
type_said c s n = by_arms a_type types s n refl refl c

pub conversion_said : (c : ℕ) (s : List ℕ) (n : ℕ) → as_conversion (denoted c s n) ≡ chosen conversions None c
unfolding reserved signs entries words said
conversion_said c s n = by_arms as_conversion conversions s n refl refl c
