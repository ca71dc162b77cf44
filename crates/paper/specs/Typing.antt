-- 'Types': the type of every expression, and refusal 6.
use Rattle.std.specs.Prelude.{Bool, true, false, not, cond, ◌&&◌, ◌||◌, List, [], ◌∷◌, ◌++◌, ℕ, ℤ, pos, negsuc, eqb}
use Rattle.std.proofs.Math.Option.{Option, none, some}
use Rattle.paper.specs.declared.Ty.{Ty}
use Rattle.paper.specs.declared.Ty.TheVariants.{Bool as BOOL, Dint as DINT}
use Rattle.paper.specs.declared.Op.{Op}
use Rattle.paper.specs.declared.Op.TheVariants.{Mul, Div, Mod, Add, Sub, Lt, Gt, Le, Ge, Eq, Ne, And, Xor, Or}
use Rattle.paper.specs.Types.{signed, same_ty, is_integer, fits, sort_of, takes, gives, is_arithmetic, divides, for_numbers}
use Rattle.paper.specs.Source.{Name, Expr, number, truth, variable, element, minus, complement, binary, conversion, brackets, Label, one, range, Stmts, done, assign, choice, select, arm, loop, Bounds, single, array, Initial, nothing, value, flag, Declared, Program}
use Rattle.paper.specs.Names.{Variable, variables_of, find, at, is_among}

-- what a walk says of an expression: the places of the faults in it; or that it is made of numbers, brackets and arithmetic
-- only, and takes its type from its surroundings; or its type
pub data Judged : Type 0 where
  faulty : List ℕ → Judged
  numbers : Judged
  typed : Ty → Judged

abbrev pub faults_of : Judged → List ℕ
faults_of (faulty ps) = ps
faults_of numbers = []
faults_of (typed t) = []

-- t, if there is no fault
abbrev pub unless : List ℕ → Ty → Judged
unless [] t = typed t
unless (p ∷ ps) t = faulty (p ∷ ps)

-- refusal 6, 'contains': a rule's own fault counts only where its parts have none
abbrev pub or_else : List ℕ → List ℕ → List ℕ
or_else [] own = own
or_else (p ∷ ps) own = p ∷ ps

-- ---- divisors

pub record Numeral : Type 0 where
  pub place : ℕ
  pub value : ℤ

-- Types, 'divisor': the only form that may divide
abbrev pub plain_number : Expr → Option Numeral
plain_number (number p z) = some (record { place = p; value = z })
plain_number (truth p b) = none
plain_number (variable p s) = none
plain_number (element p s q i) = none
plain_number (minus p e) = none
plain_number (complement p e) = none
plain_number (binary p o l r) = none
plain_number (conversion p t u e) = none
plain_number (brackets p e) = none

abbrev pub is_zero : ℤ → Bool
is_zero (pos n) = eqb n 0
is_zero (negsuc n) = false

-- a zero is the number's fault
abbrev pub divisor_fault : Op → Expr → List ℕ
divisor_fault o r = cond (divides o) (elim (plain_number r) [ none ↦ [] | some n ↦ at n.place (is_zero n.value) ]) []

-- a divisor that is no plain number is the operator's fault
abbrev pub is_good_divisor : Op → Expr → Bool
is_good_divisor o r = not (divides o) || elim (plain_number r) [ none ↦ false | some n ↦ true ]

-- ---- numbers, brackets and arithmetic only

-- the faults where the whole of it takes the type t
unfoldable pub number_faults : Ty → Expr → List ℕ
number_faults t (number p z) = at p (not (fits t z))
number_faults t (truth p b) = []
number_faults t (variable p s) = []
number_faults t (element p s q i) = []
number_faults t (minus p e) = or_else (number_faults t e) (at p (not (signed t)))
number_faults t (complement p e) = []
number_faults t (binary p o l r) =
    or_else (number_faults t l ++ number_faults t r ++ divisor_fault o r) (at p (not (is_good_divisor o r)))
number_faults t (conversion p u v e) = []
number_faults t (brackets p e) = number_faults t e

-- an expression whose type is settled
pub record Settled : Type 0 where
  pub faults : List ℕ
  pub ty : Ty

-- where its surroundings offer the type t
abbrev pub settle : Ty → Expr → Judged → Settled
settle t e (faulty ps) = record { faults = ps; ty = t }
settle t e numbers = record { faults = number_faults (for_numbers t) e; ty = for_numbers t }
settle t e (typed u) = record { faults = []; ty = u }

-- ---- scan constants

abbrev pub is_scan_op : Op → Bool
is_scan_op Mul = true
is_scan_op Div = false
is_scan_op Mod = false
is_scan_op Add = true
is_scan_op Sub = true
is_scan_op Lt = false
is_scan_op Gt = false
is_scan_op Le = false
is_scan_op Ge = false
is_scan_op Eq = false
is_scan_op Ne = false
is_scan_op And = false
is_scan_op Xor = false
is_scan_op Or = false

-- Types, 'scan constants': what can be worked out of numbers and the FORs around
unfoldable pub is_constant : List Name → Expr → Bool
is_constant loops (number p z) = true
is_constant loops (truth p b) = false
is_constant loops (variable p s) = is_among s loops
is_constant loops (element p s q i) = false
is_constant loops (minus p e) = is_constant loops e
is_constant loops (complement p e) = false
is_constant loops (binary p o l r) = is_scan_op o && is_constant loops l && is_constant loops r
is_constant loops (conversion p t u e) = is_constant loops e
is_constant loops (brackets p e) = is_constant loops e

-- ---- operators

-- an operand that must have the type t, else the fault is at p
abbrev pub demand_faults : Ty → ℕ → Settled → List ℕ
demand_faults t p s = or_else s.faults (at p (not (same_ty t s.ty)))

-- Types, 'unary minus': open where its operand is, else of a signed type
abbrev pub negated : ℕ → Judged → Judged
negated p (faulty ps) = faulty ps
negated p numbers = numbers
negated p (typed t) = unless (at p (not (signed t))) t

-- The text, 'conversions': from an integer type to another
abbrev pub converted : ℕ → Ty → Ty → Settled → Judged
converted p t u s =
    unless (or_else s.faults (at p (not (same_ty t s.ty && is_integer t && is_integer u && not (same_ty t u))))) u

-- the operator's own rule: one type on both sides, of its kind, and a good divisor
abbrev pub operated : ℕ → Op → Expr → Settled → Settled → Judged
operated p o r x y =
    unless
    (or_else (x.faults ++ y.faults ++ divisor_fault o r)
    (at p (not (same_ty x.ty y.ty && takes (sort_of o) x.ty && is_good_divisor o r))))
    (gives (sort_of o) x.ty)

-- each operand takes its type from the other; two of numbers only are DINT, but for arithmetic, which stays open
abbrev pub joined : ℕ → Op → Expr → Expr → Judged → Judged → Judged
joined p o l r (faulty ps) k = faulty (ps ++ faults_of k)
joined p o l r numbers (faulty qs) = faulty qs
joined p o l r numbers numbers =
    cond (is_arithmetic (sort_of o)) numbers (operated p o r (settle DINT l numbers) (settle DINT r numbers))
joined p o l r numbers (typed u) = operated p o r (settle u l numbers) (settle u r (typed u))
joined p o l r (typed t) (faulty qs) = faulty qs
joined p o l r (typed t) numbers = operated p o r (settle t l (typed t)) (settle t r numbers)
joined p o l r (typed t) (typed u) = operated p o r (settle t l (typed t)) (settle t r (typed u))

-- ---- the walk

-- a subscript behind the `[` at q is a scan constant
abbrev pub subscript_faults : List Name → ℕ → Expr → Settled → List ℕ
subscript_faults loops q i s = or_else s.faults (at q (not (is_constant loops i)))

-- the right side has the target's type; where the target is faulty, numbers only aren't judged
abbrev pub assign_faults : ℕ → Expr → Judged → Judged → List ℕ
assign_faults q e (faulty ps) j = ps ++ faults_of j
assign_faults q e numbers j = q ∷ faults_of j
assign_faults q e (typed t) j = demand_faults t q (settle t e j)

-- a scan constant of the type t
abbrev pub is_bound : List Name → Ty → Expr → Settled → Bool
is_bound loops t e s = is_constant loops e && same_ty t s.ty

-- Types, 'selector'
abbrev pub selector_faults : ℕ → Settled → List ℕ
selector_faults p s = or_else s.faults (at p (not (is_integer s.ty)))

abbrev pub label_faults : Ty → Label → List ℕ
label_faults t (one p a) = at p (not (fits t a))
label_faults t (range p a q b) = at p (not (fits t a)) ++ at q (not (fits t b))

-- labels take the selector's type; those of a faulty selector, which has none, aren't judged
unfoldable pub labels_faults : Option Ty → List Label → List ℕ
labels_faults none ls = []
labels_faults (some t) [] = []
labels_faults (some t) (l ∷ ls) = label_faults t l ++ labels_faults (some t) ls

abbrev pub label_type : List ℕ → Ty → Option Ty
label_type [] t = some t
label_type (p ∷ ps) t = none

abbrev pub either : Option Ty → Option Ty → Option Ty
either none y = y
either (some t) y = some t

module _ (vs : List Variable) where
  -- the declared type
  unfoldable pub type_of_name : Name → Ty
  type_of_name s = elim (find s vs) [ none ↦ DINT | some v ↦ v.declared.ty ]

  -- a name without subscript is no array
  unfoldable pub of_name : ℕ → Name → Judged
  of_name p s =
      elim (find s vs) [
        | none ↦ faulty (p ∷ [])
        | some v ↦ elim v.declared.bounds [ single ↦ typed v.declared.ty | array a lo b hi ↦ faulty (p ∷ []) ]
      ]

  -- a name with a subscript, whose faults are ps, is an array
  unfoldable pub of_element : ℕ → Name → List ℕ → Judged
  of_element p s ps =
      elim (find s vs) [
        | none ↦ faulty (p ∷ ps)
        | some v ↦ elim v.declared.bounds [ single ↦ faulty (p ∷ ps) | array a lo b hi ↦ unless ps v.declared.ty ]
      ]

  unfoldable pub judged : List Name → Expr → Judged
  judged loops (number p z) = numbers
  judged loops (truth p b) = typed BOOL
  judged loops (variable p s) = of_name p s
  judged loops (element p s q i) = of_element p s (subscript_faults loops q i (settle DINT i (judged loops i)))
  judged loops (minus p e) = negated p (judged loops e)
  judged loops (complement p e) = unless (demand_faults BOOL p (settle DINT e (judged loops e))) BOOL
  judged loops (binary p o l r) = joined p o l r (judged loops l) (judged loops r)
  judged loops (conversion p t u e) = converted p t u (settle t e (judged loops e))
  judged loops (brackets p e) = judged loops e

  -- an expression where t is offered
  unfoldable pub settled : List Name → Ty → Expr → Settled
  settled loops t e = settle t e (judged loops e)

  -- ---- the types of an expression without faults

  -- its type; none where it is made of numbers, brackets and arithmetic only
  unfoldable pub type_of : Expr → Option Ty
  type_of (number p z) = none
  type_of (truth p b) = some BOOL
  type_of (variable p s) = some (type_of_name s)
  type_of (element p s q i) = some (type_of_name s)
  type_of (minus p e) = type_of e
  type_of (complement p e) = some BOOL
  type_of (binary p o l r) = elim (is_arithmetic (sort_of o)) [ true ↦ either (type_of l) (type_of r) | false ↦ some BOOL ]
  type_of (conversion p t u e) = some u
  type_of (brackets p e) = type_of e

  -- its type where t is offered
  unfoldable pub type_in : Ty → Expr → Ty
  type_in t e = elim (type_of e) [ none ↦ t | some u ↦ u ]

  -- the one type of both operands of o, where t is offered to the whole
  unfoldable pub operand_type : Ty → Op → Expr → Expr → Ty
  operand_type t o l r =
      elim (either (type_of l) (type_of r)) [
        | none ↦ cond (is_arithmetic (sort_of o)) t DINT
        | some u ↦ u
      ]

  -- ---- statements

  -- Types, 'bounds': a, b and c, and where they are sound the FOR itself
  abbrev pub loop_faults : List Name → ℕ → Ty → Expr → Expr → Expr → List ℕ
  loop_faults loops p t a b c =
      let x = settled loops t a in
      let y = settled loops t b in
      let z = settled loops t c in
      or_else (x.faults ++ y.faults ++ z.faults)
      (at p (not (is_bound loops t a x && is_bound loops t b y && is_bound loops t c z)))

  -- `sel` is the type of the labels of the CASE around, and counts at an arm only
  unfoldable pub statement_faults : Stmts → List Name → Option Ty → List ℕ
  statement_faults done loops sel = []
  statement_faults (assign x q e k) loops sel =
      assign_faults q e (judged loops x) (judged loops e) ++ statement_faults k loops (some DINT)
  statement_faults (choice p q c a b k) loops sel =
      demand_faults BOOL p (settled loops DINT c)
      ++ statement_faults a loops (some DINT)
      ++ statement_faults b loops (some DINT)
      ++ statement_faults k loops (some DINT)
  statement_faults (select p s a k) loops sel =
      let x = settled loops DINT s in
      let ps = selector_faults p x in
      ps ++ statement_faults a loops (label_type ps x.ty) ++ statement_faults k loops (some DINT)
  statement_faults (arm ls a k) loops sel =
      labels_faults sel ls ++ statement_faults a loops (some DINT) ++ statement_faults k loops sel
  statement_faults (loop p q v a b c body k) loops sel =
      loop_faults loops p (type_of_name v) a b c
      ++ statement_faults body (v ∷ loops) (some DINT)
      ++ statement_faults k loops (some DINT)

-- ---- declarations

abbrev pub bounds_faults : Bounds → List ℕ
bounds_faults single = []
bounds_faults (array p lo q hi) = at p (not (fits DINT (pos lo))) ++ at q (not (fits DINT (pos hi)))

-- a number that doesn't fit, else the wrong kind at `:=`
abbrev pub initial_faults : Ty → Initial → List ℕ
initial_faults t nothing = []
initial_faults t (value q p z) = elim (fits (for_numbers t) z) [ true ↦ at q (not (is_integer t)) | false ↦ p ∷ [] ]
initial_faults t (flag q b) = at q (is_integer t)

unfoldable pub declaration_faults : List Declared → List ℕ
declaration_faults [] = []
declaration_faults (d ∷ ds) = bounds_faults d.bounds ++ initial_faults d.ty d.initial ++ declaration_faults ds

unfoldable pub type_faults : Program → List ℕ
type_faults pr =
    declaration_faults pr.declared
    ++ statement_faults (variables_of pr.declared) pr.body [] (some DINT)
