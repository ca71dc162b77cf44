-- What the answers stand for: a value, or none.
use Rattle.std.specs.Prelude.{◌≡◌, Bool, true, false, cond, ◌&&◌, List, ℕ, ◌+◌, ◌-◌, ◌%◌, leb, eqb, ltb, get_or, Option, Some, None, option_map, IfSome}
use Rattle.std.proofs.Math.Option as Math
use Rattle.std.proofs.Math.Option.{none, some}
use Rattle.paper.specs.declared.Ty.{Ty}
use Rattle.paper.specs.declared.Ty.TheVariants.{Bool as BOOL}
use Rattle.paper.specs.declared.Op.{Op}
use Rattle.paper.specs.declared.Cell.{Cell}
use Rattle.paper.specs.Source.{Name, Expr}
use Rattle.paper.specs.Names.{Variable}
use Rattle.paper.specs.Typing.{type_of_name, type_of, type_in, operand_type}
use Rattle.paper.specs.Meaning as Meaning
use Rattle.paper.specs.Types.{sort_of, gives}
use Rattle.tree.specs.Trees.{types, expr_at}
use Rattle.tree.specs.declared.kinds.Expression.{Expression}
use Rattle.tree.specs.declared.kinds.Expression.TheVariants as E
use Rattle.constants.specs.declared.Valued.{Valued}
use Rattle.constants.specs.declared.Celled.{Celled}

-- the definitions' own option
abbrev pub maybe : {A : Type 0} → Option A → Math.Option A
maybe None = none
maybe (Some a) = some a

abbrev pub valued : Option Valued → Math.Option ℕ
valued x = maybe (option_map (λ v. v.residue) x)

abbrev pub celled : Option Celled → Math.Option Cell
celled x = maybe (option_map (λ c. record { 0 = c.cell }) x)

-- ---- the types of answers

-- the type of what a name has a cell of
abbrev pub OfName : List Variable → Name → Option Celled → Type 0
OfName vs n x = IfSome x (λ c. c.ty ≡ type_of_name vs n)

-- the type of what has a value or a cell, whatever type is offered
abbrev pub OfType : List Variable → Expr → Option Celled → Type 0
OfType vs e x = IfSome x (λ c. (t : Ty) → c.ty ≡ type_in vs t e)

-- the cell c of a name, if it has one, and its type
pub record NamedCell (vs : List Variable) (n : Name) (c : Math.Option Cell) (x : Option Celled) : Type 0 where
  pub cell : celled x ≡ c
  pub ty : OfName vs n x

-- the cell that an expression stands for, and its type
pub record CellIn (vs : List Variable) (s : List ℕ) (e : Expr) (x : Option Celled) : Type 0 where
  pub cell : celled x ≡ Meaning.cell_of vs s e
  pub ty : OfType vs e x

-- the value of an expression where t is offered, and its type
pub record ValueIn (vs : List Variable) (s : List ℕ) (t : Ty) (e : Expr) (x : Option Valued) : Type 0 where
  pub value : valued x ≡ Meaning.value vs s t e
  pub ty : IfSome x (λ v. v.ty ≡ type_in vs t e)

-- whether there is a type of its own
abbrev pub is_typed : Math.Option Ty → Bool
is_typed none = false
is_typed (some u) = true

-- where r is true, the node i has a type of its own, whatever the text and the variables
abbrev pub TypedAt : List ℕ → ℕ → Bool → Type 0
TypedAt p i r = (t : List ℕ) (vs : List Variable) → r ≡ true → is_typed (type_of vs (expr_at t p i)) ≡ true

-- u may be offered to the first operand l: any to one with a type of its own, else the one type of both
abbrev pub Offers : List Variable → Ty → Op → Expr → Expr → Ty → Type 0
Offers vs t o l r u = is_typed (type_of vs l) ≡ false → u ≡ operand_type vs t o l r

-- the type of a node of kind k, whose word 2 is w, over operands of the type u
abbrev pub result_at : ℕ → ℕ → Ty → Ty
result_at k w u = cond (eqb k 8) BOOL (cond (eqb k 10) (get_or types (w % 8) BOOL) (cond (ltb 15 k) BOOL u))

-- the type of what a node is, over operands of the type u
abbrev pub type_over : Expression → Ty → Ty
type_over E.Nothing u = u
type_over E.Number u = u
type_over (E.Truth b) u = u
type_over E.Variable u = u
type_over E.Element u = u
type_over E.Minus u = u
type_over E.Complement u = BOOL
type_over E.Brackets u = u
type_over (E.Conversion v w) u = w
type_over (E.Binary o) u = gives (sort_of o) u

-- ---- parts of the definitions

-- the cell of an array's element n
abbrev pub cell_between : ℕ → ℕ → ℕ → ℕ → Math.Option ℕ
cell_between first lo hi n = cond (leb lo n && leb n hi) (some (first + (n - lo))) none
