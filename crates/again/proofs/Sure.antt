-- What typing leaves in plain expressions beyond their types: numbers fit, and numbers alone compared are DINT.
use mathlib.Core.Path.{◌≡◌}
use mathlib.Core.Bool.{Bool, true, false, ◌&&◌}
use Prim.Native.Nat.{◌≤◌}
use Rattle.paper.specs.declared.Ty.TheVariants.{Dint as DINT}
use Rattle.paper.specs.Types.{is_integer, fits, sort_of, is_arithmetic}
use Rattle.paper.specs.Plain.{Expr, number, truth, read, minus, complement, binary, conversion, Stmts, done, assign, choice}
use Rattle.again.proofs.Forms.{height}

-- made of numbers and arithmetic only: printed, it takes its type from its surroundings
unfoldable pub is_open : Expr → Bool
is_open (number t z) = true
is_open (truth b) = false
is_open (read c) = false
is_open (minus t e) = is_open e
is_open (complement e) = false
is_open (binary o t l r) = is_arithmetic (sort_of o) && (is_open l && is_open r)
is_open (conversion t u e) = false

abbrev pub Sure : Expr → Type 0
Sure (number t z) = (is_integer t ≡ true) × (fits t z ≡ true)
Sure (truth b) = Unit {0}
Sure (read c) = Unit {0}
Sure (minus t e) = Sure e
Sure (complement e) = Sure e
Sure (binary o t l r) = Sure l × Sure r × (is_arithmetic (sort_of o) ≡ false → is_open l ≡ true → is_open r ≡ true → t ≡ DINT)
Sure (conversion t u e) = Sure e

-- and is low enough
abbrev pub Low : Expr → Type 0
Low e = Sure e × (height e ≤ 32)

abbrev pub AllLow : Stmts → Type 0
AllLow done = Unit {0}
AllLow (assign c e k) = Low e × AllLow k
AllLow (choice c a b k) = Low c × AllLow a × AllLow b × AllLow k
