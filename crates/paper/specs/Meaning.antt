-- 'Meaning': the statements as they were written, run one by one. A subscript outside its array, a divisor of zero and a step of
-- zero are faults, and end the run with no answer.
use Rattle.std.specs.Prelude.{Bool, true, false, not, cond, ◌&&◌, ◌||◌, List, [], ◌∷◌, ℕ, zero, suc, ◌+◌, ℤ, pos, ◌+ℤ◌, ◌-ℤ◌, nat_abs}
use Rattle.std.proofs.Math.Option.{Option, none, some}
use Rattle.std.specs.Int.Signed.{le_z, lt_z}
use Rattle.paper.specs.declared.Ty.{Ty}
use Rattle.paper.specs.declared.Ty.TheVariants.{Dint as DINT}
use Rattle.paper.specs.declared.Op.{Op}
use Rattle.paper.specs.declared.Cell.{Cell}
use Rattle.paper.specs.Types.{encode, decode, negate, convert, bit, is_true, equal, apply, divides}
use Rattle.paper.specs.Source.{Name, Expr, number, truth, variable, element, minus, complement, binary, conversion, brackets, Label, one, range, Stmts, done, assign, choice, select, arm, loop, single, array}
use Rattle.paper.specs.Names.{Variable, find}
use Rattle.paper.specs.Typing.{is_zero, type_in, operand_type}
use Rattle.paper.specs.Plain.{State, Ran, look, carried, tested}

infixl 20 ◌>>=◌
abbrev pub ◌>>=◌ : {A B : Type 0} → Option A → (A → Option B) → Option B
none >>= f = none
some a >>= f = f a

-- ---- FOR and CASE

-- Meaning, 'passed': beyond b in the direction of the step, compared as whole numbers
abbrev pub passed : ℤ → ℤ → ℤ → Bool
passed c b v = cond (lt_z (pos 0) c) (lt_z b v) (lt_z v b)

-- more passes than any loop from a to b has
abbrev pub enough : ℤ → ℤ → ℕ
enough a b = 2 + nat_abs (b -ℤ a)

-- Meaning, FOR: set v and run the body; go on with v + c, unless that is beyond b
unfoldable pub turns : ℕ → (ℤ → Ran → Ran) → (Ran → Option Ran) → ℤ → ℤ → ℤ → Ran → Option Ran
turns zero put body c b v r = none
turns (suc n) put body c b v r =
    body (put v r) >>= λ x.
    elim (passed c b (v +ℤ c)) [ true ↦ some x | false ↦ turns n put body c b (v +ℤ c) x ]

-- v is set to a; a step of zero is a fault
unfoldable pub looped : (ℤ → Ran → Ran) → (Ran → Option Ran) → ℤ → ℤ → ℤ → Ran → Option Ran
looped put body c b a r =
    elim (is_zero c) [
      | true ↦ none
      | false ↦ elim (passed c b a) [ true ↦ some (put a r) | false ↦ turns (enough a b) put body c b a r ]
    ]

-- Meaning, CASE: a label matches its value, a range what lies between its ends (so 'reversed' ones match none)
abbrev pub matches : ℤ → Label → Bool
matches z (one p a) = equal z a
matches z (range p a q b) = le_z a z && le_z z b

unfoldable pub matches_any : ℤ → List Label → Bool
matches_any z [] = false
matches_any z (l ∷ ls) = matches z l || matches_any z ls

-- ---- cells

-- the cell of a variable that is no array
abbrev pub cell_of_variable : Variable → Option Cell
cell_of_variable v = elim v.declared.bounds [ single ↦ some (record { 0 = v.first }) | array p lo q hi ↦ none ]

-- the cell of an array's element z, if it lies in the array
abbrev pub cell_of_element : Variable → ℤ → Option Cell
cell_of_element v z =
    elim v.declared.bounds [
      | single ↦ none
      | array p lo q hi ↦
          cond (le_z (pos lo) z && le_z z (pos hi)) (some (record { 0 = v.first + nat_abs (z -ℤ pos lo) })) none
    ]

-- a divisor of zero is a fault
abbrev pub operate : Op → Ty → ℕ → ℕ → Option ℕ
operate o t a b = cond (divides o && is_zero (decode t b)) none (some (apply o t a b))

module _ (vs : List Variable) where
  -- the cells that a name stands for, alone and with a subscript
  abbrev pub variable_cell : Name → Option Cell
  variable_cell n = find n vs >>= cell_of_variable

  abbrev pub element_cell : Name → Option ℤ → Option Cell
  element_cell n z = z >>= λ i. find n vs >>= λ v. cell_of_element v i

  -- ---- expressions

  -- the value of an expression where t is offered
  unfoldable pub value : State → Ty → Expr → Option ℕ
  value s t (number p z) = some (encode t z)
  value s t (truth p b) = some (bit b)
  value s t (variable p n) = variable_cell n >>= λ c. some (look s c)
  value s t (element p n q i) =
      element_cell n (value s DINT i >>= λ x. some (decode (type_in vs DINT i) x)) >>= λ c. some (look s c)
  value s t (minus p e) = value s t e >>= λ x. some (negate (type_in vs t e) x)
  value s t (complement p e) = value s DINT e >>= λ x. some (bit (not (is_true x)))
  value s t (binary p o l r) =
      let u = operand_type vs t o l r in
      value s u l >>= λ x. value s u r >>= λ y. operate o u x y
  value s t (conversion p u v e) = value s u e >>= λ x. some (convert u v x)
  value s t (brackets p e) = value s t e

  -- the same as a whole number
  unfoldable pub whole_value : State → Ty → Expr → Option ℤ
  whole_value s t e = value s t e >>= λ x. some (decode (type_in vs t e) x)

  -- the cell that a name or element stands for
  unfoldable pub cell_of : State → Expr → Option Cell
  cell_of s (number p z) = none
  cell_of s (truth p b) = none
  cell_of s (variable p n) = variable_cell n
  cell_of s (element p n q i) = element_cell n (whole_value s DINT i)
  cell_of s (minus p e) = none
  cell_of s (complement p e) = none
  cell_of s (binary p o l r) = none
  cell_of s (conversion p t u e) = none
  cell_of s (brackets p e) = none

  -- ---- statements

  -- `sel` is the selector's value of the CASE around, and counts at an arm only
  unfoldable pub run : Stmts → ℤ → Ran → Option Ran
  run done sel r = some r
  run (assign x q e k) sel r = do
    c ← cell_of r.state x
    v ← value r.state (type_in vs DINT x) e
    run k (pos 0) (carried c v r)
  run (choice p q c a b k) sel r = do
    v ← value r.state DINT c
    let branch : Option Ran = elim (is_true v) [ true ↦ run a (pos 0) (tested r) | false ↦ run b (pos 0) (tested r) ]
    x ← branch
    run k (pos 0) x
  run (select p s a k) sel r = do
    z ← whole_value r.state DINT s
    x ← run a z r
    run k (pos 0) x
  run (arm ls a k) sel r = elim (matches_any sel ls) [ true ↦ run a (pos 0) (tested r) | false ↦ run k sel (tested r) ]
  run (loop p q n a b c body k) sel r = do
    v ← find n vs
    cell ← cell_of_variable v
    let t = v.declared.ty
    by ← whole_value r.state t c
    from ← whole_value r.state t a
    to ← whole_value r.state t b
    x ← looped (λ z y. carried cell (encode t z) y) (λ y. run body (pos 0) y) by to from r
    run k (pos 0) x
