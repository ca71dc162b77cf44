-- ST0 in a flat pool, four words a node as in the flat tree: what a pool holds, for any content. A child that is no earlier node is nil.
use Rattle.std.specs.Prelude.{List, [], ◌∷◌, ℕ, zero, suc, ◌-◌, ◌/◌, ◌%◌, get_or, true, false}
use Rattle.paper.specs.declared.Ty.{Ty}
use Rattle.paper.specs.declared.Ty.TheVariants.{Bool as BOOL}
use Rattle.paper.specs.declared.Op.{Op}
use Rattle.paper.specs.declared.Op.TheVariants.{Mul, Div, Mod, Add, Sub, Lt, Gt, Le, Ge, Eq, Ne, And, Xor, Or}
use Rattle.paper.specs.declared.Cell.{Cell}
use Rattle.paper.specs.Plain.{Expr, number, truth, read, minus, complement, binary, conversion, Stmts, done, assign, choice}
use Rattle.tree.specs.Nodes.{word_of, child_of}
use Rattle.tree.specs.Trees.{types, whole_at}

-- ---- expressions, by the kinds of the flat tree; the type stands in word 3

abbrev pub type_at : List ℕ → ℕ → Ty
type_at p i = get_or types (word_of p i 3) BOOL

abbrev pub cell_at : List ℕ → ℕ → Cell
cell_at p i = record { 0 = word_of p i 1 }

abbrev pub ExprForm : Type 0
ExprForm = List ℕ → ℕ → Expr → Expr → Expr

abbrev pub nil : Expr
nil = truth false

abbrev pub nil_form : ExprForm
nil_form p i x y = nil

abbrev pub number_form : ExprForm
number_form p i x y = number (type_at p i) (whole_at p i)

abbrev pub binary_form : Op → ExprForm
binary_form o p i x y = binary o (type_at p i) x y

unfoldable pub expr_forms : List ExprForm
expr_forms =
    nil_form
    ∷ number_form
    ∷ number_form
    ∷ nil_form
    ∷ (λ p i x y. truth true)
    ∷ (λ p i x y. read (cell_at p i))
    ∷ nil_form
    ∷ (λ p i x y. minus (type_at p i) x)
    ∷ (λ p i x y. complement x)
    ∷ nil_form
    ∷ (λ p i x y. conversion (get_or types (word_of p i 2 / 8) BOOL) (get_or types (word_of p i 2 % 8) BOOL) x)
    ∷ binary_form Mul ∷ binary_form Div ∷ binary_form Mod ∷ binary_form Add ∷ binary_form Sub
    ∷ binary_form Lt ∷ binary_form Gt ∷ binary_form Le ∷ binary_form Ge ∷ binary_form Eq ∷ binary_form Ne
    ∷ binary_form And ∷ binary_form Xor ∷ binary_form Or
    ∷ []

unfoldable pub expr_from : ℕ → List ℕ → ℕ → Expr
expr_from zero p i = nil
expr_from (suc f) p zero = nil
expr_from (suc f) p (suc i) =
    get_or expr_forms (word_of p (suc i) 0) nil_form p (suc i)
    (expr_from f p (child_of p (suc i) 1))
    (expr_from f p (child_of p (suc i) 2))

unfoldable pub expr_at : List ℕ → ℕ → Expr
expr_at p i = expr_from i p i

-- ---- statements: what a node puts in front of a list; kind 40 an assignment (cell, expression), 41 an IF (condition, two lists), 44 a list behind another

abbrev pub FrontForm : Type 0
FrontForm = List ℕ → ℕ → (ℕ → Stmts → Stmts) → Stmts → Stmts

abbrev pub skip : FrontForm
skip p i sub k = k

unfoldable pub front_forms : List FrontForm
front_forms =
    (λ p i sub k. assign (cell_at p i) (expr_at p (child_of p i 2)) k)
    ∷ (λ p i sub k. choice (expr_at p (child_of p i 1)) (sub (child_of p i 2) done) (sub (child_of p i 3) done) k)
    ∷ skip
    ∷ skip
    ∷ (λ p i sub k. sub (child_of p i 1) (sub (child_of p i 2) k))
    ∷ []

unfoldable pub front_from : ℕ → List ℕ → ℕ → Stmts → Stmts
front_from zero p i k = k
front_from (suc f) p zero k = k
front_from (suc f) p (suc i) k = get_or front_forms (word_of p (suc i) 0 - 40) skip p (suc i) (front_from f p) k

unfoldable pub front_at : List ℕ → ℕ → Stmts → Stmts
front_at p i = front_from i p i

-- the list of a node
abbrev pub list_at : List ℕ → ℕ → Stmts
list_at p i = front_at p i done
