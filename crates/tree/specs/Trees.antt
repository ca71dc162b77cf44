-- What a pool holds, for any content: the trees of `paper`. A child that is no earlier node is nil.
use Rattle.std.specs.Prelude.{◌≡◌, true, false, cond, List, [], ◌∷◌, ◌++◌, ℕ, zero, suc, ◌+◌, ◌*◌, ◌-◌, ◌/◌, ◌%◌, ◌≤◌, eqb, ℤ, pos, neg_ℤ, get_or}
use Rattle.paper.specs.declared.Ty.{Ty}
use Rattle.paper.specs.declared.Ty.TheVariants.{Bool as BOOL, Int as INT, Uint as UINT, Dint as DINT, Udint as UDINT}
use Rattle.paper.specs.declared.Kind.{Kind}
use Rattle.paper.specs.declared.Kind.TheVariants.{Input, Output, Other}
use Rattle.paper.specs.declared.Op.{Op}
use Rattle.paper.specs.declared.Op.TheVariants.{Mul, Div, Mod, Add, Sub, Lt, Gt, Le, Ge, Eq, Ne, And, Xor, Or}
use Rattle.paper.specs.Source.{Expr, number, truth, variable, element, minus, complement, binary, conversion, brackets, Label, one, range, Stmts, done, assign, choice, select, arm, loop, Bounds, single, array, Initial, nothing, value, flag, Named, Declared, Program}
use Rattle.paper.specs.Reading.{declare}
use Rattle.paper.specs.Heights as H
pub use Rattle.words.specs.Denoted.{name_at}
use Rattle.tree.specs.Nodes.{word_of, kind_of, child_of}

abbrev pub types : List Ty
types = BOOL ∷ INT ∷ UINT ∷ DINT ∷ UDINT ∷ []

abbrev pub operators : List Op
operators = Mul ∷ Div ∷ Mod ∷ Add ∷ Sub ∷ Lt ∷ Gt ∷ Le ∷ Ge ∷ Eq ∷ Ne ∷ And ∷ Xor ∷ Or ∷ []

abbrev pub kinds : List Kind
kinds = Input ∷ Output ∷ Other ∷ []

-- ---- numbers: kind 1, and 2 for a negative one; the value in two words, low first, then the place

abbrev pub wide : List ℕ → ℕ → ℕ
wide p i = word_of p i 1 + 65536 * word_of p i 2

abbrev pub whole_at : List ℕ → ℕ → ℤ
whole_at p i = cond (eqb (word_of p i 0) 2) (neg_ℤ (pos (wide p i))) (pos (wide p i))

abbrev pub place_at : List ℕ → ℕ → ℕ
place_at p i = word_of p i 3

-- ---- expressions

-- the tree of a node, from those of its first two children, by its kind
abbrev pub ExprForm : Type 0
ExprForm = List ℕ → List ℕ → ℕ → Expr → Expr → Expr

abbrev pub nil : Expr
nil = truth 0 false

abbrev pub number_form : ExprForm
number_form t p i x y = number (place_at p i) (whole_at p i)

abbrev pub binary_form : Op → ExprForm
binary_form o t p i x y = binary (place_at p i) o x y

unfoldable pub expr_forms : List ExprForm
expr_forms =
    (λ t p i x y. nil)
    ∷ number_form
    ∷ number_form
    ∷ (λ t p i x y. truth (place_at p i) false)
    ∷ (λ t p i x y. truth (place_at p i) true)
    ∷ (λ t p i x y. variable (place_at p i) (name_at t (place_at p i)))
    ∷ (λ t p i x y. element (place_at p i) (name_at t (place_at p i)) (word_of p i 2) x)
    ∷ (λ t p i x y. minus (place_at p i) x)
    ∷ (λ t p i x y. complement (place_at p i) x)
    ∷ (λ t p i x y. brackets (place_at p i) x)
    ∷ (λ t p i x y. conversion (place_at p i) (get_or types (word_of p i 2 / 8) BOOL) (get_or types (word_of p i 2 % 8) BOOL) x)
    ∷ binary_form Mul ∷ binary_form Div ∷ binary_form Mod ∷ binary_form Add ∷ binary_form Sub
    ∷ binary_form Lt ∷ binary_form Gt ∷ binary_form Le ∷ binary_form Ge ∷ binary_form Eq ∷ binary_form Ne
    ∷ binary_form And ∷ binary_form Xor ∷ binary_form Or
    ∷ []

unfoldable pub expr_from : ℕ → List ℕ → List ℕ → ℕ → Expr
expr_from zero t p i = nil
expr_from (suc f) t p zero = nil
expr_from (suc f) t p (suc i) =
    get_or expr_forms (word_of p (suc i) 0) (λ t p i x y. nil) t p (suc i)
    (expr_from f t p (child_of p (suc i) 1))
    (expr_from f t p (child_of p (suc i) 2))

-- the expression of the node i
unfoldable pub expr_at : List ℕ → List ℕ → ℕ → Expr
expr_at t p i = expr_from i t p i

-- the height of the expression of the node i, whatever the text
pub record IsHeight (p : List ℕ) (i r : ℕ) : Type 0 where
  pub height : (t : List ℕ) → r ≡ H.height (expr_at t p i)
  pub low : r ≤ i + 1

-- ---- labels: a number, or kind 31 of two numbers; a list is kind 32: the labels before, and one more

abbrev pub label_at : List ℕ → ℕ → Label
label_at p i =
    cond (eqb (word_of p i 0) 31)
    (range (place_at p (child_of p i 1)) (whole_at p (child_of p i 1)) (place_at p (child_of p i 2)) (whole_at p (child_of p i 2)))
    (one (place_at p i) (whole_at p i))

unfoldable pub labels_from : ℕ → List ℕ → ℕ → List Label
labels_from zero p i = []
labels_from (suc f) p zero = []
labels_from (suc f) p (suc i) = labels_from f p (child_of p (suc i) 1) ++ label_at p (child_of p (suc i) 2) ∷ []

unfoldable pub labels_at : List ℕ → ℕ → List Label
labels_at p i = labels_from i p i

-- ---- statements: what a node puts in front of a list

-- the arms of a CASE: kind 48 an arm and what follows it, 49 the ELSE list; nil ends them
abbrev pub ArmsForm : Type 0
ArmsForm = List ℕ → ℕ → (ℕ → Stmts → Stmts) → (ℕ → Stmts) → Stmts

unfoldable pub arms_forms : List ArmsForm
arms_forms =
    (λ p i sub more. arm (labels_at p (child_of p i 1)) (sub (child_of p i 2) done) (more (child_of p i 3)))
    ∷ (λ p i sub more. sub (child_of p i 1) done)
    ∷ []

-- `sub` reads a list
unfoldable pub arms_from : ℕ → List ℕ → (ℕ → Stmts → Stmts) → ℕ → Stmts
arms_from zero p sub i = done
arms_from (suc f) p sub zero = done
arms_from (suc f) p sub (suc i) = get_or arms_forms (word_of p (suc i) 0 - 48) (λ p i sub more. done) p (suc i) sub (arms_from f p sub)

-- by the kind: 40 assignment, 41 choice (its branches are a node of kind 45), 42 CASE, 43 FOR (its head is kind 46, with its bounds in kind 47),
-- 44 a list and one statement more
abbrev pub FrontForm : Type 0
FrontForm = List ℕ → List ℕ → ℕ → (ℕ → Stmts → Stmts) → Stmts → Stmts

unfoldable pub front_forms : List FrontForm
front_forms =
    (λ t p i sub k. assign (expr_at t p (child_of p i 1)) (place_at p i) (expr_at t p (child_of p i 2)) k)
    ∷ (λ t p i sub k.
    let j = child_of p i 2 in
    choice (place_at p i) (place_at p j) (expr_at t p (child_of p i 1)) (sub (child_of p j 1) done) (sub (child_of p j 2) done) k)
    ∷ (λ t p i sub k. select (place_at p i) (expr_at t p (child_of p i 1)) (arms_from i p sub (child_of p i 2)) k)
    ∷ (λ t p i sub k.
    let h = child_of p i 1 in
    let g = child_of p h 1 in
    loop (place_at p i) (place_at p h) (name_at t (place_at p h)) (expr_at t p (child_of p g 1)) (expr_at t p (child_of p g 2)) (expr_at t p (child_of p h 2))
    (sub (child_of p i 2) done) k)
    ∷ (λ t p i sub k. sub (child_of p i 1) (sub (child_of p i 2) k))
    ∷ []

unfoldable pub front_from : ℕ → List ℕ → List ℕ → ℕ → Stmts → Stmts
front_from zero t p i k = k
front_from (suc f) t p zero k = k
front_from (suc f) t p (suc i) k = get_or front_forms (word_of p (suc i) 0 - 40) (λ t p i sub k. k) t p (suc i) (front_from f t p) k

unfoldable pub front_at : List ℕ → List ℕ → ℕ → Stmts → Stmts
front_at t p i = front_from i t p i

unfoldable pub arms_at : List ℕ → List ℕ → ℕ → Stmts
arms_at t p i = arms_from i p (front_at t p) i

-- ---- declarations

-- names: a list of kind 33, the names before and a place
unfoldable pub names_from : ℕ → List ℕ → List ℕ → ℕ → List Named
names_from zero t p i = []
names_from (suc f) t p zero = []
names_from (suc f) t p (suc i) =
    names_from f t p (child_of p (suc i) 1) ++ record { place = place_at p (suc i); name = name_at t (place_at p (suc i)) } ∷ []

unfoldable pub names_at : List ℕ → List ℕ → ℕ → List Named
names_at t p i = names_from i t p i

-- bounds: kind 34, two numbers
abbrev pub bounds_at : List ℕ → ℕ → Bounds
bounds_at p i =
    cond (eqb (kind_of p i) 34)
    (array (place_at p (child_of p i 1)) (wide p (child_of p i 1)) (place_at p (child_of p i 2)) (wide p (child_of p i 2)))
    single

-- a declared value: kind 35 with a number, 36 FALSE, 37 TRUE; the place is that of `:=`
abbrev pub initial_at : List ℕ → ℕ → Initial
initial_at p i =
    cond (eqb (kind_of p i) 35) (value (place_at p i) (place_at p (child_of p i 1)) (whole_at p (child_of p i 1)))
    (cond (eqb (kind_of p i) 36) (flag (place_at p i) false)
    (cond (eqb (kind_of p i) 37) (flag (place_at p i) true)
    nothing))

-- a declaration: kind 38, its names, the node of its type (bounds, value, type), and the kind of its section
abbrev pub declaration_at : List ℕ → List ℕ → ℕ → List Declared
declaration_at t p i =
    let j = child_of p i 2 in
    declare (get_or kinds (word_of p i 3) Other) (get_or types (word_of p j 3) BOOL) (bounds_at p (child_of p j 1)) (initial_at p (child_of p j 2))
    (names_at t p (child_of p i 1))

-- all: kind 39, the declarations before and one more
unfoldable pub declared_from : ℕ → List ℕ → List ℕ → ℕ → List Declared
declared_from zero t p i = []
declared_from (suc f) t p zero = []
declared_from (suc f) t p (suc i) = declared_from f t p (child_of p (suc i) 1) ++ declaration_at t p (child_of p (suc i) 2)

unfoldable pub declared_at : List ℕ → List ℕ → ℕ → List Declared
declared_at t p i = declared_from i t p i

-- the program: its declarations, its body and the place of its name
unfoldable pub program_at : List ℕ → List ℕ → ℕ → Program
program_at t p i =
    record {
      name = name_at t (place_at p i);
      declared = declared_at t p (child_of p i 1);
      body = front_at t p (child_of p i 2) done;
    }
