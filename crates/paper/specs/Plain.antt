-- ST0: assignments and IFs over cells, without places. Its run, steps, figure and weight.
use Rattle.std.specs.Prelude.{Bool, true, false, not, cond, ◌||◌, List, ℕ, zero, suc, ◌+◌, max, eqb, ℤ, get_or, set}
use Rattle.paper.specs.declared.Ty.{Ty}
use Rattle.paper.specs.declared.Op.{Op}
use Rattle.paper.specs.declared.Cell.{Cell}
use Rattle.paper.specs.Types.{encode, negate, convert, bit, is_true, apply}

-- an expression; an operator has the type of its operands
pub data Expr : Type 0 where
  number : Ty → ℤ → Expr
  truth : Bool → Expr
  read : Cell → Expr
  minus : Ty → Expr → Expr
  complement : Expr → Expr
  binary : Op → Ty → Expr → Expr → Expr
  conversion : Ty → Ty → Expr → Expr

-- a list of statements, the rest of the list in the last field
pub data Stmts : Type 0 where
  done : Stmts
  assign : Cell → Expr → Stmts → Stmts
  choice : Expr → Stmts → Stmts → Stmts → Stmts

-- ---- run

-- the residue of every cell
abbrev pub State : Type 0
State = List ℕ

abbrev pub look : State → Cell → ℕ
look s c = get_or s c.0 0

abbrev pub store : Cell → ℕ → State → State
store c v s = set s c.0 v

unfoldable pub value_of : State → Expr → ℕ
value_of s (number t z) = encode t z
value_of s (truth b) = bit b
value_of s (read c) = look s c
value_of s (minus t e) = negate t (value_of s e)
value_of s (complement e) = bit (not (is_true (value_of s e)))
value_of s (binary o t l r) = apply o t (value_of s l) (value_of s r)
value_of s (conversion t u e) = convert t u (value_of s e)

-- how far a run has come
pub record Ran : Type 0 where
  pub state : State
  pub steps : ℕ

-- one step: an assignment carried out
abbrev pub carried : Cell → ℕ → Ran → Ran
carried c v r = record { state = store c v r.state; steps = suc r.steps }

-- one step: a condition tested
abbrev pub tested : Ran → Ran
tested r = record { state = r.state; steps = suc r.steps }

-- Meaning, 'in order': one after another, each from the state that the one before left
unfoldable pub run : Stmts → Ran → Ran
run done r = r
run (assign c e k) r = run k (carried c (value_of r.state e) r)
run (choice c a b k) r =
    run k (elim (is_true (value_of r.state c)) [ true ↦ run a (tested r) | false ↦ run b (tested r) ])

-- ---- figure and weight

-- Meaning, 'figure': the longest way through a list, an assignment or a test being 1
unfoldable pub figure : Stmts → ℕ
figure done = 0
figure (assign c e k) = suc (figure k)
figure (choice c a b k) = suc (max (figure a) (figure b)) + figure k

-- Meaning, 'parts': every leaf and every operator or conversion counts
unfoldable pub parts : Expr → ℕ
parts (number t z) = 1
parts (truth b) = 1
parts (read c) = 1
parts (minus t e) = suc (parts e)
parts (complement e) = suc (parts e)
parts (binary o t l r) = suc (parts l + parts r)
parts (conversion t u e) = suc (parts e)

-- whether a list assigns the cell number i
unfoldable pub assigns : Stmts → ℕ → Bool
assigns done i = false
assigns (assign c e k) i = eqb c.0 i || assigns k i
assigns (choice c a b k) i = assigns a i || assigns b i || assigns k i

-- how many numbers below n pass
unfoldable pub count : (ℕ → Bool) → ℕ → ℕ
count f zero = 0
count f (suc n) = cond (f n) 1 0 + count f n

-- Meaning, 'different cells': how many of n cells an IF's branches assign
unfoldable pub cells_within : ℕ → Stmts → Stmts → ℕ
cells_within n a b = count (λ i. assigns a i || assigns b i) n

unfoldable pub weight : ℕ → Stmts → ℕ
weight n done = 0
weight n (assign c e k) = parts e + weight n k
weight n (choice c a b k) = parts c + weight n a + weight n b + cells_within n a b + weight n k

-- one list behind another
infixr 30 ◌⨾◌
unfoldable pub ◌⨾◌ : Stmts → Stmts → Stmts
done ⨾ q = q
assign c e k ⨾ q = assign c e (k ⨾ q)
choice c a b k ⨾ q = choice c a b (k ⨾ q)
