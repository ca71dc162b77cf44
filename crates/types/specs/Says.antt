-- What the answers of judging types stand for.
use Rattle.std.specs.Prelude.{◌≡◌, Bool, true, false, List, ℕ, length, Option, None, Some, ⊤}
use Rattle.std.proofs.Math.Option.{none, some}
use Rattle.paper.specs.declared.Ty.{Ty}
use Rattle.paper.specs.declared.Op.{Op}
use Rattle.paper.specs.Source.{Name}
use Rattle.paper.specs.Names.{Variable}
use Rattle.paper.specs.Typing as T
use Rattle.tree.specs.Trees.{expr_at}
use Rattle.faults.specs.Soonest.{soonest}
use Rattle.variables.specs.Table.{names_to}
use Rattle.types.specs.declared.parts.Judged.{Judged}
use Rattle.types.specs.declared.parts.Judged.TheVariants.{Typed, Numbers, Faulty}
use Rattle.types.specs.declared.parts.Settled.{Settled}

-- a judgement: its type, or numbers only, or its soonest fault
abbrev pub Says : Judged → T.Judged → Type 0
Says (Typed u) (T.faulty ps) = ⊥
Says (Typed u) T.numbers = ⊥
Says (Typed u) (T.typed t) = u ≡ t
Says Numbers (T.faulty ps) = ⊥
Says Numbers T.numbers = ⊤
Says Numbers (T.typed t) = ⊥
Says (Faulty q) (T.faulty ps) = Some q ≡ soonest ps
Says (Faulty q) T.numbers = ⊥
Says (Faulty q) (T.typed t) = ⊥

abbrev pub is_open : Judged → Bool
is_open (Typed u) = false
is_open Numbers = true
is_open (Faulty q) = false

abbrev pub fault_of : Judged → Option ℕ
fault_of (Typed u) = None
fault_of Numbers = None
fault_of (Faulty q) = Some q

pub record Settles (r : Settled) (s : T.Settled) : Type 0 where
  pub first : r.first ≡ soonest s.faults
  pub ty : r.ty ≡ s.ty

-- the variables of the FORs around
abbrev pub around : List ℕ → List ℕ → List Name
around t loops = names_to t loops (length loops)

-- of whatever text
abbrev pub IsNumber : List ℕ → ℕ → Bool → Type 0
IsNumber p i r = (t : List ℕ) → r ≡ elim (T.plain_number (expr_at t p i)) [ none ↦ false | some n ↦ true ]

abbrev pub IsNumberFaults : List ℕ → Ty → ℕ → Option ℕ → Type 0
IsNumberFaults p u i r = (t : List ℕ) → r ≡ soonest (T.number_faults u (expr_at t p i))

abbrev pub IsDivisorFault : List ℕ → Op → ℕ → Option ℕ → Type 0
IsDivisorFault p o i r = (t : List ℕ) → r ≡ soonest (T.divisor_fault o (expr_at t p i))

abbrev pub IsGoodDivisor : List ℕ → Op → ℕ → Bool → Type 0
IsGoodDivisor p o i r = (t : List ℕ) → r ≡ T.is_good_divisor o (expr_at t p i)

-- what settling a judgement of the node i gives, where u is offered
abbrev pub Settling : List ℕ → Ty → ℕ → Judged → Settled → Type 0
Settling p u i x r = (t : List ℕ) (j : T.Judged) → Says x j → Settles r (T.settle u (expr_at t p i) j)

-- the expression at a node, with the variables vs
abbrev pub JudgedAt : List Variable → List ℕ → List ℕ → List ℕ → ℕ → Judged → Type 0
JudgedAt vs t loops p i r = Says r (T.judged vs (around t loops) (expr_at t p i))

abbrev pub SettledAt : List Variable → List ℕ → List ℕ → List ℕ → Ty → ℕ → Settled → Type 0
SettledAt vs t loops p u i r = Settles r (T.settled vs (around t loops) u (expr_at t p i))
