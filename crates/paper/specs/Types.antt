-- 'Types' and the first part of 'Meaning': the five types and what operations do, stated once over width and sign.
-- A value is held as its residue, the number below 2 ^ width that differs from it by a multiple of 2 ^ width.
use Rattle.std.specs.Prelude.{Bool, true, false, not, cond, ◌&&◌, ◌||◌, ℕ, suc, ◌+◌, ◌-◌, ◌%◌, ◌^◌, leb, eqb, ℤ, pos, negsuc, neg_ℤ, ◌+ℤ◌, ◌-ℤ◌, ◌*ℤ◌}
use Rattle.std.specs.Int.Signed.{quot_z, lt_z, le_z}
use Rattle.paper.specs.declared.Ty.{Ty}
use Rattle.paper.specs.declared.Ty.TheVariants.{Bool as BOOL, Int as INT, Uint as UINT, Dint as DINT, Udint as UDINT}
use Rattle.paper.specs.declared.Op.{Op}
use Rattle.paper.specs.declared.Op.TheVariants.{Mul, Div, Mod, Add, Sub, Lt, Gt, Le, Ge, Eq, Ne, And, Xor, Or}

-- how many bits a value has
abbrev pub width : Ty → ℕ
width BOOL = 1
width INT = 16
width UINT = 16
width DINT = 32
width UDINT = 32

-- those with U are unsigned, and so is BOOL
abbrev pub signed : Ty → Bool
signed BOOL = false
signed INT = true
signed UINT = false
signed DINT = true
signed UDINT = false

-- a type's number, by which two are compared and a table names it
abbrev pub tag : Ty → ℕ
tag BOOL = 0
tag INT = 1
tag UINT = 2
tag DINT = 3
tag UDINT = 4

abbrev pub same_ty : Ty → Ty → Bool
same_ty t u = eqb (tag t) (tag u)

abbrev pub is_integer : Ty → Bool
is_integer t = not (same_ty t BOOL)

-- the ends of a type
abbrev pub lowest : Ty → ℤ
lowest t = cond (signed t) (negsuc (2 ^ (width t - 1) - 1)) (pos 0)

abbrev pub highest : Ty → ℤ
highest t = cond (signed t) (pos (2 ^ (width t - 1) - 1)) (pos (2 ^ width t - 1))

-- z is a value of the type
unfoldable pub fits : Ty → ℤ → Bool
fits t z = le_z (lowest t) z && le_z z (highest t)

-- z modulo m
abbrev pub residue : ℕ → ℤ → ℕ
residue m (pos n) = n % m
residue m (negsuc n) = m - suc (n % m)

-- r, or r - m
abbrev pub reading : Bool → ℕ → ℕ → ℤ
reading false m r = pos r
reading true m r = negsuc (m - suc r)

-- whether a residue stands for a value below 0: a signed type, and the upper half
abbrev pub below : Ty → ℕ → Bool
below t r = signed t && leb (2 ^ width t) (r + r)

-- Meaning, 'modulo': the residue of a whole number
unfoldable pub encode : Ty → ℤ → ℕ
encode t z = residue (2 ^ width t) z

-- Meaning, 'brought into': the value that a residue stands for
unfoldable pub decode : Ty → ℕ → ℤ
decode t r = reading (below t (r % 2 ^ width t)) (2 ^ width t) (r % 2 ^ width t)

abbrev pub add : Ty → ℕ → ℕ → ℕ
add t a b = encode t (decode t a +ℤ decode t b)

abbrev pub sub : Ty → ℕ → ℕ → ℕ
sub t a b = encode t (decode t a -ℤ decode t b)

abbrev pub mul : Ty → ℕ → ℕ → ℕ
mul t a b = encode t (decode t a *ℤ decode t b)

abbrev pub negate : Ty → ℕ → ℕ
negate t a = encode t (neg_ℤ (decode t a))

-- Meaning, 'quotient': fractions are dropped
abbrev pub quotient : Ty → ℕ → ℕ → ℕ
quotient t a b = encode t (quot_z (decode t a) (decode t b))

-- Meaning, MOD: what the quotient leaves
abbrev pub remainder : Ty → ℕ → ℕ → ℕ
remainder t a b = sub t a (mul t (quotient t a b) b)

-- from the type t to the type u
abbrev pub convert : Ty → Ty → ℕ → ℕ
convert t u a = encode u (decode t a)

-- BOOL holds 0 or 1
abbrev pub bit : Bool → ℕ
bit true = 1
bit false = 0

abbrev pub is_true : ℕ → Bool
is_true r = not (eqb (r % 2) 0)

abbrev pub differ : Bool → Bool → Bool
differ p q = cond p (not q) q

abbrev pub equal : ℤ → ℤ → Bool
equal x y = le_z x y && le_z y x

-- an operator on two operands of the type t
unfoldable pub apply : Op → Ty → ℕ → ℕ → ℕ
apply Mul t a b = mul t a b
apply Div t a b = quotient t a b
apply Mod t a b = remainder t a b
apply Add t a b = add t a b
apply Sub t a b = sub t a b
apply Lt t a b = bit (lt_z (decode t a) (decode t b))
apply Gt t a b = bit (lt_z (decode t b) (decode t a))
apply Le t a b = bit (le_z (decode t a) (decode t b))
apply Ge t a b = bit (le_z (decode t b) (decode t a))
apply Eq t a b = bit (equal (decode t a) (decode t b))
apply Ne t a b = bit (not (equal (decode t a) (decode t b)))
apply And t a b = bit (is_true a && is_true b)
apply Xor t a b = bit (differ (is_true a) (is_true b))
apply Or t a b = bit (is_true a || is_true b)

-- the four sorts of operators
pub data Sort : Type 0 where
  arithmetic order equality logic : Sort

abbrev pub sort_of : Op → Sort
sort_of Mul = arithmetic
sort_of Div = arithmetic
sort_of Mod = arithmetic
sort_of Add = arithmetic
sort_of Sub = arithmetic
sort_of Lt = order
sort_of Gt = order
sort_of Le = order
sort_of Ge = order
sort_of Eq = equality
sort_of Ne = equality
sort_of And = logic
sort_of Xor = logic
sort_of Or = logic

-- Types: which types an operator of each sort takes
abbrev pub takes : Sort → Ty → Bool
takes arithmetic t = is_integer t
takes order t = is_integer t
takes equality t = true
takes logic t = same_ty t BOOL

-- the type of the result for operands of the type t
abbrev pub gives : Sort → Ty → Ty
gives arithmetic t = t
gives order t = BOOL
gives equality t = BOOL
gives logic t = BOOL

abbrev pub is_arithmetic : Sort → Bool
is_arithmetic arithmetic = true
is_arithmetic order = false
is_arithmetic equality = false
is_arithmetic logic = false

-- the operators that have a divisor
abbrev pub divides : Op → Bool
divides Mul = false
divides Div = true
divides Mod = true
divides Add = false
divides Sub = false
divides Lt = false
divides Gt = false
divides Le = false
divides Ge = false
divides Eq = false
divides Ne = false
divides And = false
divides Xor = false
divides Or = false

-- Types, 'surroundings': the type that numbers take where t is offered; BOOL is no offer
abbrev pub for_numbers : Ty → Ty
for_numbers t = cond (is_integer t) t DINT
