-- What a node is by its kind: the tree of its children that it stands for.
use Rattle.std.specs.Prelude.{◌≡◌, List, ℕ, ◌<◌}
use Rattle.paper.specs.Source as S
use Rattle.paper.specs.Source.{Expr, Stmts, done}
use Rattle.tree.specs.Nodes.{word_of, child_of}
use Rattle.tree.specs.Trees.{name_at, place_at, whole_at, nil, expr_at, labels_at, front_at, arms_at, initial_at}
use Rattle.tree.specs.declared.kinds.Expression.{Expression}
use Rattle.tree.specs.declared.kinds.Expression.TheVariants as E
use Rattle.tree.specs.declared.kinds.Statement.{Statement}
use Rattle.tree.specs.declared.kinds.Statement.TheVariants as F
use Rattle.tree.specs.declared.kinds.Arms.{Arms}
use Rattle.tree.specs.declared.kinds.Arms.TheVariants as A
use Rattle.tree.specs.declared.kinds.Initial.{Initial}
use Rattle.tree.specs.declared.kinds.Initial.TheVariants as I

module _ (p : List ℕ) (i : ℕ) where
  -- the expression of a child
  abbrev pub operand : List ℕ → ℕ → Expr
  operand t k = expr_at t p (child_of p i k)

  -- the list of a child, in front of k
  abbrev pub sublist : List ℕ → ℕ → Stmts → Stmts
  sublist t j k = front_at t p (child_of p i j) k

  -- ---- expressions

  abbrev pub expression_of : List ℕ → Expression → Expr
  expression_of t E.Nothing = nil
  expression_of t E.Number = S.number (place_at p i) (whole_at p i)
  expression_of t (E.Truth b) = S.truth (place_at p i) b
  expression_of t E.Variable = S.variable (place_at p i) (name_at t (place_at p i))
  expression_of t E.Element = S.element (place_at p i) (name_at t (place_at p i)) (word_of p i 2) (operand t 1)
  expression_of t E.Minus = S.minus (place_at p i) (operand t 1)
  expression_of t E.Complement = S.complement (place_at p i) (operand t 1)
  expression_of t E.Brackets = S.brackets (place_at p i) (operand t 1)
  expression_of t (E.Conversion u v) = S.conversion (place_at p i) u v (operand t 1)
  expression_of t (E.Binary o) = S.binary (place_at p i) o (operand t 1) (operand t 2)

  -- whether it has operands, which are earlier nodes
  abbrev pub operands : Expression → Type 0
  operands E.Nothing = Unit {0}
  operands E.Number = 0 < i
  operands (E.Truth b) = 0 < i
  operands E.Variable = 0 < i
  operands E.Element = 0 < i
  operands E.Minus = 0 < i
  operands E.Complement = 0 < i
  operands E.Brackets = 0 < i
  operands (E.Conversion u v) = 0 < i
  operands (E.Binary o) = 0 < i

  pub record IsExpression (e : Expression) : Type 0 where
    pub tree : (t : List ℕ) → expr_at t p i ≡ expression_of t e
    pub some : operands e

  -- ---- statements

  abbrev pub statement_of : List ℕ → Stmts → Statement → Stmts
  statement_of t k F.Nothing = k
  statement_of t k F.Assignment = S.assign (operand t 1) (place_at p i) (operand t 2) k
  statement_of t k F.Choice =
      let j = child_of p i 2 in
      S.choice (place_at p i) (place_at p j) (operand t 1) (front_at t p (child_of p j 1) done) (front_at t p (child_of p j 2) done) k
  statement_of t k F.Selection = S.select (place_at p i) (operand t 1) (arms_at t p (child_of p i 2)) k
  statement_of t k F.Loop =
      let h = child_of p i 1 in
      let g = child_of p h 1 in
      S.loop (place_at p i) (place_at p h) (name_at t (place_at p h)) (expr_at t p (child_of p g 1)) (expr_at t p (child_of p g 2)) (expr_at t p (child_of p h 2))
      (sublist t 2 done) k
  statement_of t k F.List = sublist t 1 (sublist t 2 k)

  abbrev pub parts : Statement → Type 0
  parts F.Nothing = Unit {0}
  parts F.Assignment = 0 < i
  parts F.Choice = 0 < i
  parts F.Selection = 0 < i
  parts F.Loop = 0 < i
  parts F.List = 0 < i

  pub record IsStatement (s : Statement) : Type 0 where
    pub list : (t : List ℕ) (k : Stmts) → front_at t p i k ≡ statement_of t k s
    pub some : parts s

  -- ---- the arms of a CASE

  abbrev pub arms_of : List ℕ → Arms → Stmts
  arms_of t A.Nothing = done
  arms_of t A.Arm = S.arm (labels_at p (child_of p i 1)) (sublist t 2 done) (arms_at t p (child_of p i 3))
  arms_of t A.Otherwise = sublist t 1 done

  abbrev pub arm_parts : Arms → Type 0
  arm_parts A.Nothing = Unit {0}
  arm_parts A.Arm = 0 < i
  arm_parts A.Otherwise = 0 < i

  pub record IsArms (a : Arms) : Type 0 where
    pub list : (t : List ℕ) → arms_at t p i ≡ arms_of t a
    pub some : arm_parts a

  -- ---- declared values

  abbrev pub initial_of : Initial → S.Initial
  initial_of I.Nothing = S.nothing
  initial_of I.Value = S.value (place_at p i) (place_at p (child_of p i 1)) (whole_at p (child_of p i 1))
  initial_of (I.Flag b) = S.flag (place_at p i) b

  abbrev pub IsInitial : Initial → Type 0
  IsInitial x = initial_at p i ≡ initial_of x
