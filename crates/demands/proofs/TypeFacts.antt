-- The five types: a tag tells its type, and numbers take the integer types.
use mathlib.Core.Path.{◌≡◌, refl, sym, ap, ◌∙◌}
use mathlib.Core.Bool.{Bool, true, false, cond}
use mathlib.Core.Option.{some, some_inj}
use borrow.Author.Tests.{eqb-true, eq-eqb}
use lib.ListN.{get_elem?}
use Rattle.paper.specs.declared.Ty.{Ty}
use Rattle.paper.specs.declared.Ty.TheVariants.{Bool as BOOL, Int as INT, Uint as UINT, Dint as DINT, Udint as UDINT}
use Rattle.paper.specs.Types.{tag, same_ty, is_integer, for_numbers}
use Rattle.paper.specs.Tables.{types}

-- the type of a tag
pub type_back : (t : Ty) → get_elem? types (tag t) ≡ some t
type_back BOOL = refl
type_back INT = refl
type_back UINT = refl
type_back DINT = refl
type_back UDINT = refl

-- types with one tag are one type
pub same_eq : (t u : Ty) → same_ty t u ≡ true → t ≡ u
same_eq t u h = some_inj.0 (sym (type_back t) ∙ ap (get_elem? types) (eqb-true (tag t) (tag u) h) ∙ type_back u)

pub same_refl : (t : Ty) → same_ty t t ≡ true
same_refl t = eq-eqb (tag t) (tag t) refl

-- where an integer type is offered, numbers take it, and only there
pub integer_numbers : (t : Ty) → is_integer t ≡ true → for_numbers t ≡ t
integer_numbers t h = rw h refl

pub numbers_integer : (t : Ty) → for_numbers t ≡ t → is_integer t ≡ true
numbers_integer t h = rw (← h) (integer (is_integer t) refl)
  where
    integer : (b : Bool) → is_integer t ≡ b → is_integer (cond b t DINT) ≡ true
    integer true e = e
    integer false e = refl
