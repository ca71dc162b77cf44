-- What the walk over the flat tree answers, for any content of the pool and any text.
use Rattle.std.specs.Prelude.{◌≡◌, List, [], ◌∷◌, ◌++◌, ℕ, ◌+◌, ◌≤◌, Option}
use Rattle.paper.specs.Source.{Expr, Label, done}
use Rattle.paper.specs.Heights.{height, first_word, too_high, subscripts, measured, test_height, joined_height, label_place, statement_faults}
use Rattle.faults.specs.Soonest.{soonest, sooner}
use Rattle.tree.specs.Nodes.{child_of}
use Rattle.tree.specs.Trees.{expr_at, labels_at, front_at}

-- the soonest so far with faults of the tree that the pool and a text t make
abbrev pub With : Option ℕ → Option ℕ → (List ℕ → List ℕ) → Type 0
With best r faults = (t : List ℕ) → r ≡ sooner best (soonest (faults t))

-- ---- parts of the definitions

-- of an expression without its subscripts
abbrev pub itself : Expr → List ℕ
itself e = too_high (first_word e) (height e)

-- of an assignment: its target's subscripts and its right side
abbrev pub assigned : List ℕ → List ℕ → ℕ → List ℕ
assigned t p i = subscripts (expr_at t p (child_of p i 1)) ++ measured (expr_at t p (child_of p i 2))

-- of the head of a FOR: a, b and c
abbrev pub headed : List ℕ → List ℕ → ℕ → List ℕ
headed t p i =
    let g = child_of p i 1 in
    measured (expr_at t p (child_of p g 1)) ++ measured (expr_at t p (child_of p g 2)) ++ measured (expr_at t p (child_of p i 2))

-- of a list of statements, which starts with no arm, so that no selector's height counts
abbrev pub listed : List ℕ → List ℕ → ℕ → List ℕ
listed t p i = statement_faults (front_at t p i done) 1

-- of the two lists of an IF
abbrev pub branched : List ℕ → List ℕ → ℕ → List ℕ
branched t p i = listed t p (child_of p i 1) ++ listed t p (child_of p i 2)

-- ---- the labels of an arm: the place of the first, and the height of their tests, joined

abbrev pub first_place : List Label → ℕ
first_place [] = 0
first_place (l ∷ ls) = label_place l

unfoldable pub arm_height : ℕ → List Label → ℕ
arm_height h [] = 0
arm_height h (l ∷ ls) = joined_height h (test_height h l) ls

-- of the list of the node i, for a selector of the height h
pub record IsJoined (p : List ℕ) (h i r : ℕ) : Type 0 where
  pub height : r ≡ arm_height h (labels_at p i)
  pub low : r ≤ h + i + 1
