-- Expressions without faults, taken apart: what typing asked of the parts of each, and their types.
use mathlib.Core.Path.{◌≡◌, refl, sym, ◌∙◌}
use mathlib.Core.Bool.{Bool, true, false, not, cond, ◌&&◌, false≢true}
use mathlib.Core.Option.{Option, none, some}
use mathlib.Core.List.{List, [], ◌∷◌, ◌++◌}
use Prim.Native.Nat.{ℕ}
use borrow.Author.Tests.{not-true}
use lib.IntN.{ℤ}
use Rattle.paper.specs.declared.Ty.{Ty}
use Rattle.paper.specs.declared.Ty.TheVariants.{Bool as BOOL, Dint as DINT}
use Rattle.paper.specs.declared.Op.{Op}
use Rattle.paper.specs.Types.{signed, same_ty, is_integer, fits, Sort, arithmetic, order, equality, logic, sort_of, takes, is_arithmetic, divides, for_numbers}
use Rattle.paper.specs.Source.{Name, Expr, number, truth, variable, element, minus, complement, binary, conversion, brackets}
use Rattle.paper.specs.Names.{Variable, at}
use Rattle.paper.specs.Typing.{Judged, faulty, numbers, typed, unless, is_zero, divisor_fault, is_good_divisor, number_faults, Settled, settle, is_constant, demand_faults, negated, operated, joined, subscript_faults, type_of_name, of_element, judged, type_of, type_in, operand_type}
use Rattle.demands.proofs.Truths.{and_true}
use Rattle.demands.proofs.Answers.{cons_nil, no_fault₃, no_fault_else, no_fault_at, test_passed}
use Rattle.demands.proofs.TypeFacts.{same_eq, integer_numbers, numbers_integer}
use Rattle.demands.proofs.Judgements.{unless_none, Tells, conversion_faults, Operated, operated_none, by_name, judged_tells, type_in_lem, operand_type_lem}

-- e, judged j, has no fault where t is offered, and t is an integer type where it is needed
pub record Fit (t : Ty) (e : Expr) (j : Judged) : Type 0 where
  pub none_found : (settle t e j).faults ≡ []
  pub offered : j ≡ numbers → is_integer t ≡ true

-- ---- numbers and minus

-- a number that fits
pub fit_number : (t : Ty) (p : ℕ) (z : ℤ) → Fit t (number p z) numbers → fits t z ≡ true
unfolding number_faults
fit_number t p z h =
    rw (integer_numbers t (h.offered refl)) at (test_passed p (fits (for_numbers t) z) h.none_found)

negated_fit : (o : Option Ty) (t : Ty) (p : ℕ) (e : Expr) (j : Judged) → Tells o j
    → Fit t (minus p e) (negated p j)
    → Fit t e j × (signed (settle t e j).ty ≡ true)
unfolding number_faults
negated_fit o t p e (faulty []) g h = absurd g
negated_fit o t p e (faulty (q ∷ ps)) g h = cons_nil h.none_found
negated_fit o t p e numbers g h =
    let (part, own) = no_fault_else (number_faults (for_numbers t) e) _ h.none_found in
    (record { none_found = part; offered = h.offered }, test_passed p (signed (for_numbers t)) own)
negated_fit o t p e (typed u) g h =
    let own : at p (not (signed u)) ≡ [] = unless_none t (minus p e) (at p (not (signed u))) u h.none_found in
    (record { none_found = refl; offered = λ k. cc }, test_passed p (signed u) own)

brackets_fit : (t : Ty) (p : ℕ) (e : Expr) (j : Judged) → Fit t (brackets p e) j → Fit t e j
unfolding number_faults
brackets_fit t p e (faulty ps) h = record { none_found = h.none_found; offered = h.offered }
brackets_fit t p e numbers h = record { none_found = h.none_found; offered = h.offered }
brackets_fit t p e (typed u) h = record { none_found = refl; offered = h.offered }

-- ---- operators

-- a number that is not zero
pub record Divisor (r : Expr) : Type 0 where
  pub place : ℕ
  pub value : ℤ
  pub is : r ≡ number place value
  pub nonzero : is_zero value ≡ false

-- an operator that has a divisor has a good one
good_divisor : (o : Op) (r : Expr) → divides o ≡ true → divisor_fault o r ≡ [] → is_good_divisor o r ≡ true → Divisor r
good_divisor o (number p z) d f g = record { place = p; value = z; is = refl; nonzero = no_fault_at p (is_zero z) (rw d at f) }
good_divisor o (truth p b) d f g = absurd (false≢true (rw d at g))
good_divisor o (variable p n) d f g = absurd (false≢true (rw d at g))
good_divisor o (element p n q i) d f g = absurd (false≢true (rw d at g))
good_divisor o (minus p e) d f g = absurd (false≢true (rw d at g))
good_divisor o (complement p e) d f g = absurd (false≢true (rw d at g))
good_divisor o (binary p op l r) d f g = absurd (false≢true (rw d at g))
good_divisor o (conversion p t u e) d f g = absurd (false≢true (rw d at g))
good_divisor o (brackets p e) d f g = absurd (false≢true (rw d at g))

-- arithmetic is on integers
arithmetic_takes : (s : Sort) (t : Ty) → is_arithmetic s ≡ true → is_integer t ≡ true → takes s t ≡ true
arithmetic_takes arithmetic t a h = h
arithmetic_takes order t a h = absurd (false≢true a)
arithmetic_takes equality t a h = absurd (false≢true a)
arithmetic_takes logic t a h = absurd (false≢true a)

-- one of an operator's two operands, both of which have the type u
pub record Operand (vs : List Variable) (u : Ty) (e : Expr) (j : Judged) : Type 0 where
  pub fit : Fit u e j
  pub type : type_in vs u e ≡ u

pub record Operands (vs : List Variable) (u : Ty) (o : Op) (l r : Expr) (j k : Judged) : Type 0 where
  pub left : Operand vs u l j
  pub right : Operand vs u r k
  pub taken : takes (sort_of o) u ≡ true
  pub divisor : divides o ≡ true → Divisor r

-- where the operator's rule finds no fault, it got what it asked for
operated_fit : (t : Ty) (p : ℕ) (o : Op) (l r : Expr) (x y : Settled)
    → (settle t (binary p o l r) (operated p o r x y)).faults ≡ []
    → Operated o r x y
operated_fit t p o l r x y h = operated_none p o r x y (unless_none t (binary p o l r) _ _ h)

-- an operator of which both operands are numbers only
numbers_operated : (t : Ty) (p : ℕ) (o : Op) (l r : Expr) → is_arithmetic (sort_of o) ≡ true → is_integer t ≡ true
    → number_faults t (binary p o l r) ≡ []
    → Operated o r (settle t l numbers) (settle t r numbers)
unfolding number_faults
numbers_operated t p o l r a i h =
    let (parts, own) = no_fault_else (number_faults t l ++ number_faults t r ++ divisor_fault o r) _ h in
    let (left, right, divisor) = no_fault₃ (number_faults t l) (number_faults t r) (divisor_fault o r) parts in
    rw (integer_numbers t i) (record {
      left = left;
      right = right;
      same = refl;
      taken = arithmetic_takes (sort_of o) t a i;
      divisor = divisor;
      good = test_passed p _ own;
    })

module _ (vs : List Variable) where
  -- the type that typing settled
  settled_in : (t : Ty) (e : Expr) (j : Judged) → Tells (type_of vs e) j → Fit t e j → (settle t e j).ty ≡ type_in vs t e
  settled_in t e (faulty []) g h = absurd g
  settled_in t e (faulty (p ∷ ps)) g h = cons_nil h.none_found
  settled_in t e numbers g h = integer_numbers t (h.offered refl) ∙ sym (type_in_lem vs t e none g)
  settled_in t e (typed u) g h = sym (type_in_lem vs t e (some u) g)

  -- an operand is without faults where its own type is offered to it
  operand : (u : Ty) (e : Expr) (j : Judged) → Tells (type_of vs e) j → (settle u e j).faults ≡ [] → (settle u e j).ty ≡ u
      → Operand vs u e j
  operand u e j g h k =
      let fit : Fit u e j = record { none_found = h; offered = λ n. numbers_integer u (rw n at k) } in
      record { fit = fit; type = sym (settled_in u e j g fit) ∙ k }

  operands : (u : Ty) (o : Op) (l r : Expr) (j k : Judged) → Tells (type_of vs l) j → Tells (type_of vs r) k
      → (settle u l j).ty ≡ u → Operated o r (settle u l j) (settle u r k) → Operands vs u o l r j k
  operands u o l r j k g h e x =
      record {
        left = operand u l j g x.left e;
        right = operand u r k h x.right (sym x.same ∙ e);
        taken = rw e at x.taken;
        divisor = λ d. good_divisor o r d x.divisor x.good;
      }

  both_numbers : (t : Ty) (p : ℕ) (o : Op) (l r : Expr) (b : Bool) → is_arithmetic (sort_of o) ≡ b
      → type_of vs l ≡ none → type_of vs r ≡ none
      → Fit t (binary p o l r) (cond b numbers (operated p o r (settle DINT l numbers) (settle DINT r numbers)))
      → Operands vs (cond b t DINT) o l r numbers numbers
  both_numbers t p o l r true a g h x =
      let e : for_numbers t ≡ t = integer_numbers t (x.offered refl) in
      operands t o l r numbers numbers g h e (numbers_operated t p o l r a (x.offered refl) (rw e at x.none_found))
  both_numbers t p o l r false a g h x =
      operands DINT o l r numbers numbers g h refl
      (operated_fit t p o l r (settle DINT l numbers) (settle DINT r numbers) x.none_found)

  -- each operand takes its type from the other
  joined_fit : (t : Ty) (p : ℕ) (o : Op) (l r : Expr) (j k : Judged) → Tells (type_of vs l) j → Tells (type_of vs r) k
      → Fit t (binary p o l r) (joined p o l r j k) → Operands vs (operand_type vs t o l r) o l r j k
  joined_fit t p o l r (faulty []) k g h x = absurd g
  joined_fit t p o l r (faulty (q ∷ ps)) k g h x = cons_nil x.none_found
  joined_fit t p o l r numbers (faulty []) g h x = absurd h
  joined_fit t p o l r numbers (faulty (q ∷ qs)) g h x = cons_nil x.none_found
  joined_fit t p o l r numbers numbers g h x =
      rw (operand_type_lem vs t o l r none none g h) (both_numbers t p o l r (is_arithmetic (sort_of o)) refl g h x)
  joined_fit t p o l r numbers (typed u) g h x =
      let y : Operated o r (settle u l numbers) (settle u r (typed u)) = operated_fit t p o l r _ _ x.none_found in
      rw (operand_type_lem vs t o l r none (some u) g h) (operands u o l r numbers (typed u) g h y.same y)
  joined_fit t p o l r (typed v) (faulty []) g h x = absurd h
  joined_fit t p o l r (typed v) (faulty (q ∷ qs)) g h x = cons_nil x.none_found
  joined_fit t p o l r (typed v) numbers g h x =
      rw (operand_type_lem vs t o l r (some v) none g h)
      (operands v o l r (typed v) numbers g h refl (operated_fit t p o l r _ _ x.none_found))
  joined_fit t p o l r (typed v) (typed u) g h x =
      rw (operand_type_lem vs t o l r (some v) (some u) g h)
      (operands v o l r (typed v) (typed u) g h refl (operated_fit t p o l r _ _ x.none_found))

-- ---- what each expression asks of its parts

pub demand_none : (t : Ty) (p : ℕ) (s : Settled) → demand_faults t p s ≡ [] → (s.faults ≡ []) × (t ≡ s.ty)
demand_none t p s h =
    let (part, own) = no_fault_else s.faults _ h in
    (part, same_eq t s.ty (test_passed p (same_ty t s.ty) own))

-- a conversion of e from t to u
pub record Converted (vs : List Variable) (t u : Ty) (e : Expr) (j : Judged) : Type 0 where
  pub fit : Fit t e j
  pub type : t ≡ type_in vs t e
  pub from_integer : is_integer t ≡ true
  pub to_integer : is_integer u ≡ true
  pub other : same_ty t u ≡ false

module _ (vs : List Variable) (loops : List Name) where
  -- without faults by the walk's judgement
  abbrev pub Fits : Ty → Expr → Type 0
  Fits t e = Fit t e (judged vs loops e)

  pub fit_type : (t : Ty) (e : Expr) → Fits t e → (settle t e (judged vs loops e)).ty ≡ type_in vs t e
  fit_type t e = settled_in vs t e (judged vs loops e) (judged_tells vs loops e)

  -- an element's subscript is a scan constant
  pub fit_element : (t : Ty) (p : ℕ) (n : Name) (q : ℕ) (i : Expr) → Fits t (element p n q i) → is_constant loops i ≡ true
  unfolding judged of_element
  fit_element t p n q i h =
      let s : Settled = settle DINT i (judged vs loops i) in
      let ps : List ℕ = subscript_faults loops q i s in
      test_passed q (is_constant loops i) (no_fault_else s.faults _ (none_in ps h.none_found)).1
    where
      none_in : (ps : List ℕ) → (settle t (element p n q i) (of_element vs p n ps)).faults ≡ [] → ps ≡ []
      none_in ps =
          by_name vs n (λ j. (settle t (element p n q i) j).faults ≡ [] → ps ≡ []) (faulty (p ∷ ps)) (λ u. faulty (p ∷ ps)) (unless ps)
          cons_nil cons_nil (unless_none t (element p n q i) ps (type_of_name vs n))

  pub fit_minus : (t : Ty) (p : ℕ) (e : Expr) → Fits t (minus p e) → Fits t e × (signed (type_in vs t e) ≡ true)
  unfolding judged
  fit_minus t p e h =
      let (fit, sign) = negated_fit (type_of vs e) t p e (judged vs loops e) (judged_tells vs loops e) h in
      (fit, rw (fit_type t e fit) at sign)

  pub fit_complement : (t : Ty) (p : ℕ) (e : Expr) → Fits t (complement p e) → Fits DINT e × (BOOL ≡ type_in vs DINT e)
  unfolding judged
  fit_complement t p e h =
      let s : Settled = settle DINT e (judged vs loops e) in
      let (part, same) = demand_none BOOL p s (unless_none t (complement p e) (demand_faults BOOL p s) BOOL h.none_found) in
      let fit : Fits DINT e = record { none_found = part; offered = λ k. refl } in
      (fit, same ∙ fit_type DINT e fit)

  pub fit_binary : (t : Ty) (p : ℕ) (o : Op) (l r : Expr) → Fits t (binary p o l r)
      → Operands vs (operand_type vs t o l r) o l r (judged vs loops l) (judged vs loops r)
  unfolding judged
  fit_binary t p o l r = joined_fit vs t p o l r _ _ (judged_tells vs loops l) (judged_tells vs loops r)

  pub fit_conversion : (v : Ty) (p : ℕ) (t u : Ty) (e : Expr) → Fits v (conversion p t u e)
      → Converted vs t u e (judged vs loops e)
  unfolding judged
  fit_conversion v p t u e h =
      let s : Settled = settle t e (judged vs loops e) in
      let (part, own) = no_fault_else s.faults _ (unless_none v (conversion p t u e) (conversion_faults p t u s) u h.none_found) in
      let (three, other) = and_true (same_ty t s.ty && is_integer t && is_integer u) (not (same_ty t u)) (test_passed p _ own) in
      let (two, to) = and_true (same_ty t s.ty && is_integer t) (is_integer u) three in
      let (same, from) = and_true (same_ty t s.ty) (is_integer t) two in
      let fit : Fits t e = record { none_found = part; offered = λ k. from } in
      record {
        fit = fit;
        type = same_eq t s.ty same ∙ fit_type t e fit;
        from_integer = from;
        to_integer = to;
        other = not-true (same_ty t u) other;
      }

  pub fit_brackets : (t : Ty) (p : ℕ) (e : Expr) → Fits t (brackets p e) → Fits t e
  unfolding judged
  fit_brackets t p e = brackets_fit t p e (judged vs loops e)
