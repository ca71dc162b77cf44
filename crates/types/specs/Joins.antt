-- How the judgement of an expression comes from those of its parts, one for each function of the walk.
use Rattle.std.specs.Prelude.{◌≡◌, Bool, true, false, ◌&&◌, List, ℕ, Option, None}
use Rattle.paper.specs.declared.Ty.{Ty}
use Rattle.paper.specs.declared.Ty.TheVariants.{Bool as BOOL, Dint as DINT}
use Rattle.paper.specs.declared.Op.{Op}
use Rattle.paper.specs.Names.{Variable}
use Rattle.paper.specs.Types as Y
use Rattle.paper.specs.Typing as T
use Rattle.tree.specs.Nodes.{word_of}
use Rattle.tree.specs.Trees.{place_at, name_at, expr_at}
use Rattle.tree.specs.Kinds.{operand}
use Rattle.faults.specs.Soonest.{soonest}
use Rattle.variables.specs.Table.{variables_in}
use Rattle.types.specs.declared.parts.Judged.{Judged}
use Rattle.types.specs.declared.parts.Judged.TheVariants.{Typed, Numbers, Faulty}
use Rattle.types.specs.declared.parts.Settled.{Settled}
use Rattle.types.specs.Says.{Says, Settles, around}

-- of the type t where no fault stands in the list whose soonest it is
abbrev pub Unless : Option ℕ → Ty → Judged → Type 0
Unless first u r = (ps : List ℕ) → first ≡ soonest ps → Says r (T.unless ps u)

-- a name, with a subscript whose faults are ps, or without one
abbrev pub NamedAs : List ℕ → List ℕ → List ℕ → ℕ → Bool → Option ℕ → Judged → Type 0
NamedAs t p tab q false sub r = sub ≡ None → Says r (T.of_name (variables_in t p tab) q (name_at t q))
NamedAs t p tab q true sub r = (ps : List ℕ) → sub ≡ soonest ps → Says r (T.of_element (variables_in t p tab) q (name_at t q) ps)

-- with the variables vs
abbrev pub ElementAs : List Variable → List ℕ → List ℕ → List ℕ → ℕ → Judged → Judged → Type 0
ElementAs vs t loops p i x r =
    (j : T.Judged) → Says x j
    → Says r (T.of_element vs (place_at p i) (name_at t (place_at p i))
    (T.subscript_faults (around t loops) (word_of p i 2) (operand p i t 1) (T.settle DINT (operand p i t 1) j)))

abbrev pub NegatedAs : ℕ → Judged → Judged → Type 0
NegatedAs q x r = (j : T.Judged) → Says x j → Says r (T.negated q j)

abbrev pub ComplementAs : List ℕ → ℕ → Judged → Judged → Type 0
ComplementAs p i x r =
    (t : List ℕ) (j : T.Judged) → Says x j → Says r (T.unless (T.demand_faults BOOL (place_at p i) (T.settle DINT (operand p i t 1) j)) BOOL)

abbrev pub ConvertedAs : List ℕ → ℕ → Ty → Ty → Judged → Judged → Type 0
ConvertedAs p i u v x r =
    (t : List ℕ) (j : T.Judged) → Says x j → Says r (T.converted (place_at p i) u v (T.settle u (operand p i t 1) j))

-- of whatever text
abbrev pub IsOperation : List ℕ → Op → ℕ → Ty → Ty → Bool → Type 0
IsOperation p o b u v r =
    (t : List ℕ) → r ≡ (Y.same_ty u v && Y.takes (Y.sort_of o) u && T.is_good_divisor o (expr_at t p b))

-- the type that two operands offer each other
abbrev pub offered_by : Judged → Judged → Ty
offered_by (Typed t) y = t
offered_by Numbers (Typed u) = u
offered_by Numbers Numbers = DINT
offered_by Numbers (Faulty q) = DINT
offered_by (Faulty p) (Typed u) = u
offered_by (Faulty p) Numbers = DINT
offered_by (Faulty p) (Faulty q) = DINT

abbrev pub OperatedAs : List ℕ → ℕ → Op → Settled → Settled → Judged → Type 0
OperatedAs p i o x y r =
    (t : List ℕ) (u v : T.Settled) → Settles x u → Settles y v → Says r (T.operated (place_at p i) o (operand p i t 2) u v)

abbrev pub JoinedAs : List ℕ → ℕ → Op → Judged → Judged → Judged → Type 0
JoinedAs p i o x y r =
    (t : List ℕ) (j l : T.Judged) → Says x j → Says y l
    → Says r (T.joined (place_at p i) o (operand p i t 1) (operand p i t 2) j l)
