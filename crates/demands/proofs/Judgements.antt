-- A judgement and the type of an expression agree; and what a rule asked for where it finds no fault.
use mathlib.Core.Path.{◌≡◌, refl}
use mathlib.Core.Bool.{Bool, true, false, not, cond, ◌&&◌}
use mathlib.Core.Option.{Option, none, some}
use mathlib.Core.List.{List, [], ◌∷◌, ◌++◌}
use Prim.Native.Nat.{ℕ}
use Rattle.paper.specs.declared.Ty.{Ty}
use Rattle.paper.specs.declared.Ty.TheVariants.{Bool as BOOL, Dint as DINT}
use Rattle.paper.specs.declared.Op.{Op}
use Rattle.paper.specs.Types.{signed, same_ty, is_integer, Sort, arithmetic, order, equality, logic, sort_of, takes, gives, is_arithmetic}
use Rattle.paper.specs.Source.{Name, Expr, number, truth, variable, element, minus, complement, binary, conversion, brackets, Bounds, single, array}
use Rattle.paper.specs.Names.{Variable, find, at}
use Rattle.paper.specs.Typing.{Judged, faulty, numbers, typed, unless, or_else, divisor_fault, is_good_divisor, Settled, settle, demand_faults, negated, operated, joined, subscript_faults, either, type_of_name, of_name, of_element, judged, type_of, type_in, operand_type}
use Rattle.demands.proofs.Truths.{and_true}
use Rattle.demands.proofs.Answers.{no_fault₃, no_fault_else, test_passed}
use Rattle.demands.proofs.TypeFacts.{same_eq}

-- what has a type unless there are faults, and settles without any, had none
pub unless_none : (t : Ty) (e : Expr) (ps : List ℕ) (u : Ty) → (settle t e (unless ps u)).faults ≡ [] → ps ≡ []
unless_none t e [] u h = refl
unless_none t e (p ∷ ps) u h = h

-- ---- judgements and types agree

-- a judgement of an expression whose type is o: an answer of faults has some
abbrev pub Tells : Option Ty → Judged → Type 0
Tells o (faulty []) = ⊥
Tells o (faulty (p ∷ ps)) = Unit {0}
Tells o numbers = o ≡ none
Tells o (typed u) = o ≡ some u

unless_tells : (o : Option Ty) (ps : List ℕ) (t : Ty) → (ps ≡ [] → o ≡ some t) → Tells o (unless ps t)
unless_tells o [] t h = h refl
unless_tells o (p ∷ ps) t h = tt

negated_tells : (o : Option Ty) (p : ℕ) (j : Judged) → Tells o j → Tells o (negated p j)
negated_tells o p (faulty []) h = h
negated_tells o p (faulty (q ∷ ps)) h = tt
negated_tells o p numbers h = h
negated_tells o p (typed t) h = unless_tells o (at p (not (signed t))) t (λ k. h)

-- the faults that a conversion's rule finds
abbrev pub conversion_faults : ℕ → Ty → Ty → Settled → List ℕ
conversion_faults p t u s =
    or_else s.faults (at p (not (same_ty t s.ty && is_integer t && is_integer u && not (same_ty t u))))

-- what the operator's rule asked for
pub record Operated (o : Op) (r : Expr) (x y : Settled) : Type 0 where
  pub left : x.faults ≡ []
  pub right : y.faults ≡ []
  pub same : x.ty ≡ y.ty
  pub taken : takes (sort_of o) x.ty ≡ true
  pub divisor : divisor_fault o r ≡ []
  pub good : is_good_divisor o r ≡ true

pub operated_none : (p : ℕ) (o : Op) (r : Expr) (x y : Settled)
    → or_else (x.faults ++ y.faults ++ divisor_fault o r)
    (at p (not (same_ty x.ty y.ty && takes (sort_of o) x.ty && is_good_divisor o r)))
    ≡ []
    → Operated o r x y
operated_none p o r x y h =
    let (parts, own) = no_fault_else (x.faults ++ y.faults ++ divisor_fault o r) _ h in
    let (left, right, divisor) = no_fault₃ x.faults y.faults (divisor_fault o r) parts in
    let (kind, good) = and_true (same_ty x.ty y.ty && takes (sort_of o) x.ty) (is_good_divisor o r) (test_passed p _ own) in
    let (same, taken) = and_true (same_ty x.ty y.ty) (takes (sort_of o) x.ty) kind in
    record { left = left; right = right; same = same_eq x.ty y.ty same; taken = taken; divisor = divisor; good = good }

-- the type of an operator's result, where o is its operands'
abbrev result_type : Bool → Option Ty → Option Ty
result_type b o = elim b [ true ↦ o | false ↦ some BOOL ]

operator_type : (s : Sort) (v : Ty) → result_type (is_arithmetic s) (some v) ≡ some (gives s v)
operator_type arithmetic v = refl
operator_type order v = refl
operator_type equality v = refl
operator_type logic v = refl

operated_tells : (o : Option Ty) (p : ℕ) (op : Op) (r : Expr) (x y : Settled)
    → (x.ty ≡ y.ty → o ≡ some (gives (sort_of op) x.ty))
    → Tells o (operated p op r x y)
operated_tells o p op r x y h = unless_tells o _ _ (λ k. h (operated_none p op r x y k).same)

-- two operands of numbers only
both_numbers_tell : (p : ℕ) (o : Op) (l r : Expr) (b : Bool) → is_arithmetic (sort_of o) ≡ b
    → Tells (result_type b none)
    (cond b numbers (operated p o r (settle DINT l numbers) (settle DINT r numbers)))
both_numbers_tell p o l r true e = refl
both_numbers_tell p o l r false e =
    operated_tells (some BOOL) p o r (settle DINT l numbers) (settle DINT r numbers) (λ k. rw e at (operator_type (sort_of o) DINT))

joined_tells : (p : ℕ) (o : Op) (l r : Expr) (a b : Option Ty) (j k : Judged) → Tells a j → Tells b k
    → Tells (result_type (is_arithmetic (sort_of o)) (either a b)) (joined p o l r j k)
joined_tells p o l r a b (faulty []) k g h = absurd g
joined_tells p o l r a b (faulty (q ∷ ps)) k g h = tt
joined_tells p o l r a b numbers (faulty []) g h = absurd h
joined_tells p o l r a b numbers (faulty (q ∷ qs)) g h = tt
joined_tells p o l r a b numbers numbers g h = rw (g, h) (both_numbers_tell p o l r (is_arithmetic (sort_of o)) refl)
joined_tells p o l r a b numbers (typed u) g h =
    rw (g, h)
    (operated_tells _ p o r (settle u l numbers) (settle u r (typed u)) (λ k. rw k (operator_type (sort_of o) u)))
joined_tells p o l r a b (typed t) (faulty []) g h = absurd h
joined_tells p o l r a b (typed t) (faulty (q ∷ qs)) g h = tt
joined_tells p o l r a b (typed t) numbers g h =
    rw g (operated_tells _ p o r (settle t l (typed t)) (settle t r numbers) (λ k. operator_type (sort_of o) t))
joined_tells p o l r a b (typed t) (typed u) g h =
    rw g (operated_tells _ p o r (settle t l (typed t)) (settle t r (typed u)) (λ k. operator_type (sort_of o) t))

module _ (vs : List Variable) where
  -- a name is unknown, or no array, or an array; what holds of all three judgements holds of the name's
  pub by_name : (n : Name) (P : Judged → Type 0) (unknown : Judged) (alone many : Ty → Judged)
      → P unknown
      → P (alone (type_of_name vs n))
      → P (many (type_of_name vs n))
      → P (elim (find n vs) [
        | none ↦ unknown
        | some v ↦ elim v.declared.bounds [ single ↦ alone v.declared.ty | array a lo b hi ↦ many v.declared.ty ]
      ])
  unfolding type_of_name
  by_name n P unknown alone many x = go (find n vs)
    where
      of_bounds : (t : Ty) (b : Bounds) → P (alone t) → P (many t) → P (elim b [ single ↦ alone t | array a lo b hi ↦ many t ])
      of_bounds t single y z = y
      of_bounds t (array a lo b hi) y z = z

      go : (f : Option Variable)
          → P (alone (elim f [ none ↦ DINT | some v ↦ v.declared.ty ]))
          → P (many (elim f [ none ↦ DINT | some v ↦ v.declared.ty ]))
          → P (elim f [
            | none ↦ unknown
            | some v ↦ elim v.declared.bounds [ single ↦ alone v.declared.ty | array a lo b hi ↦ many v.declared.ty ]
          ])
      go none y z = x
      go (some v) y z = of_bounds v.declared.ty v.declared.bounds y z

  pub judged_tells : (loops : List Name) (e : Expr) → Tells (type_of vs e) (judged vs loops e)
  unfolding type_of judged of_name of_element
  judged_tells loops (number p z) = refl
  judged_tells loops (truth p b) = refl
  judged_tells loops (variable p n) =
      by_name n (Tells (some (type_of_name vs n))) (faulty (p ∷ [])) typed (λ u. faulty (p ∷ [])) tt refl tt
  judged_tells loops (element p n q i) =
      let ps : List ℕ = subscript_faults loops q i (settle DINT i (judged vs loops i)) in
      by_name n (Tells (some (type_of_name vs n))) (faulty (p ∷ ps)) (λ u. faulty (p ∷ ps)) (unless ps) tt tt
      (unless_tells (some (type_of_name vs n)) ps (type_of_name vs n) (λ k. refl))
  judged_tells loops (minus p e) = negated_tells (type_of vs e) p (judged vs loops e) (judged_tells loops e)
  judged_tells loops (complement p e) =
      unless_tells (some BOOL) (demand_faults BOOL p (settle DINT e (judged vs loops e))) BOOL (λ k. refl)
  judged_tells loops (binary p o l r) =
      joined_tells p o l r (type_of vs l) (type_of vs r) (judged vs loops l) (judged vs loops r)
      (judged_tells loops l)
      (judged_tells loops r)
  judged_tells loops (conversion p t u e) =
      unless_tells (some u) (conversion_faults p t u (settle t e (judged vs loops e))) u (λ k. refl)
  judged_tells loops (brackets p e) = judged_tells loops e

  -- ---- the types of expressions

  pub found_type : (n : Name) (v : Variable) → find n vs ≡ some v → type_of_name vs n ≡ v.declared.ty
  unfolding type_of_name
  found_type n v f = rw (f, type_of_name) refl

  pub type_in_lem : (t : Ty) (e : Expr) (o : Option Ty) → type_of vs e ≡ o → type_in vs t e ≡ elim o [ none ↦ t | some u ↦ u ]
  unfolding type_in
  type_in_lem t e o h = rw (h, type_in) refl

  pub operand_type_lem : (t : Ty) (o : Op) (l r : Expr) (a b : Option Ty) → type_of vs l ≡ a → type_of vs r ≡ b
      → operand_type vs t o l r ≡ elim (either a b) [ none ↦ cond (is_arithmetic (sort_of o)) t DINT | some u ↦ u ]
  unfolding operand_type
  operand_type_lem t o l r a b g h = rw (g, h, operand_type) refl

  -- an operator's result has the type that it gives
  pub binary_type : (t : Ty) (p : ℕ) (o : Op) (l r : Expr)
      → type_in vs t (binary p o l r) ≡ gives (sort_of o) (operand_type vs t o l r)
  unfolding type_in type_of operand_type
  binary_type t p o l r = go (sort_of o) (either (type_of vs l) (type_of vs r))
    where
      go : (s : Sort) (m : Option Ty)
          → elim (result_type (is_arithmetic s) m) [ none ↦ t | some u ↦ u ]
          ≡ gives s (elim m [ none ↦ cond (is_arithmetic s) t DINT | some u ↦ u ])
      go arithmetic m = refl
      go order m = refl
      go equality m = refl
      go logic m = refl
