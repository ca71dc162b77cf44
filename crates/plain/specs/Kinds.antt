-- What a node of ST0 is by its kind: the expression or the list of its children that it stands for.
use Rattle.std.specs.Prelude.{◌≡◌, List, ℕ, ◌<◌}
use Rattle.paper.specs.Plain as P
use Rattle.paper.specs.Plain.{Expr, Stmts, done, ◌⨾◌}
use Rattle.tree.specs.Nodes.{child_of}
use Rattle.tree.specs.Trees.{whole_at}
use Rattle.plain.specs.Flat.{type_at, cell_at, expr_at, list_at}
use Rattle.plain.specs.declared.kinds.Expression.{Expression}
use Rattle.plain.specs.declared.kinds.Expression.TheVariants as E
use Rattle.plain.specs.declared.kinds.Statement.{Statement}
use Rattle.plain.specs.declared.kinds.Statement.TheVariants as F

module _ (p : List ℕ) (i : ℕ) where
  -- the expression and the list of a child
  abbrev pub operand : ℕ → Expr
  operand k = expr_at p (child_of p i k)

  abbrev pub sublist : ℕ → Stmts
  sublist k = list_at p (child_of p i k)

  abbrev pub expression_of : Expression → Expr
  expression_of E.Number = P.number (type_at p i) (whole_at p i)
  expression_of (E.Truth b) = P.truth b
  expression_of E.Read = P.read (cell_at p i)
  expression_of E.Minus = P.minus (type_at p i) (operand 1)
  expression_of E.Complement = P.complement (operand 1)
  expression_of (E.Conversion u v) = P.conversion u v (operand 1)
  expression_of (E.Binary o) = P.binary o (type_at p i) (operand 1) (operand 2)

  -- operands are earlier nodes
  abbrev pub operands : Expression → Type 0
  operands E.Number = 0 < i
  operands (E.Truth b) = Unit {0}
  operands E.Read = 0 < i
  operands E.Minus = 0 < i
  operands E.Complement = 0 < i
  operands (E.Conversion u v) = 0 < i
  operands (E.Binary o) = 0 < i

  pub record IsExpression (e : Expression) : Type 0 where
    pub tree : expr_at p i ≡ expression_of e
    pub some : operands e

  abbrev pub statement_of : Statement → Stmts
  statement_of F.Nothing = done
  statement_of F.Assignment = P.assign (cell_at p i) (operand 2) done
  statement_of F.Choice = P.choice (operand 1) (sublist 2) (sublist 3) done
  statement_of F.List = sublist 1 ⨾ sublist 2

  abbrev pub parts : Statement → Type 0
  parts F.Nothing = Unit {0}
  parts F.Assignment = 0 < i
  parts F.Choice = 0 < i
  parts F.List = 0 < i

  pub record IsStatement (s : Statement) : Type 0 where
    pub list : list_at p i ≡ statement_of s
    pub some : parts s
