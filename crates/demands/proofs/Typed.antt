-- ST0 whose expressions have types: what typing gives of an accepted program, and what the table's rules and 'in type' need.
use mathlib.Core.Path.{◌≡◌}
use mathlib.Core.Bool.{true, false}
use mathlib.Core.Option.{some}
use mathlib.Core.List.{List}
use lib.ListN.{get_elem?}
use Rattle.paper.specs.declared.Ty.{Ty}
use Rattle.paper.specs.declared.Ty.TheVariants.{Bool as BOOL}
use Rattle.paper.specs.Types.{signed, same_ty, is_integer, fits, sort_of, takes, gives, divides}
use Rattle.paper.specs.Names.{Info}
use Rattle.paper.specs.Typing.{is_zero}
use Rattle.paper.specs.Plain.{Expr, number, truth, read, minus, complement, binary, conversion, Stmts, done, assign, choice}

-- a number of its type that is not zero
abbrev pub NonZero : Expr → Type 0
NonZero (number t z) = (is_zero z ≡ false) × (fits t z ≡ true)
NonZero (truth b) = ⊥
NonZero (read c) = ⊥
NonZero (minus t e) = ⊥
NonZero (complement e) = ⊥
NonZero (binary o t l r) = ⊥
NonZero (conversion t u e) = ⊥

-- the expression has the type t
abbrev pub Typed : List Info → Expr → Ty → Type 0
Typed is (number u z) t = u ≡ t
Typed is (truth b) t = BOOL ≡ t
Typed is (read c) t = (i : Info) × (get_elem? is c.0 ≡ some i) × (i.ty ≡ t)
Typed is (minus u e) t = (u ≡ t) × (signed u ≡ true) × Typed is e u
Typed is (complement e) t = (BOOL ≡ t) × Typed is e BOOL
Typed is (binary o u l r) t =
    (gives (sort_of o) u ≡ t)
    × (takes (sort_of o) u ≡ true)
    × Typed is l u
    × Typed is r u
    × (divides o ≡ true → NonZero r)
Typed is (conversion u v e) t =
    (v ≡ t) × (is_integer u ≡ true) × (is_integer v ≡ true) × (same_ty u v ≡ false) × Typed is e u

-- what may be assigned: a cell that is no input, of the type t
abbrev pub Target : List Info → Expr → Info → Type 0
Target is e i = (i.is_input ≡ false) × Typed is e i.ty

abbrev pub WellTyped : List Info → Stmts → Type 0
WellTyped is done = Unit {0}
WellTyped is (assign c e k) =
    ((i : Info) × (get_elem? is c.0 ≡ some i) × Target is e i) × WellTyped is k
WellTyped is (choice c a b k) = Typed is c BOOL × WellTyped is a × WellTyped is b × WellTyped is k
