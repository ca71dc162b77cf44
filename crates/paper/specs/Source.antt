-- The program as it was written: a tree that keeps every place a later refusal needs.
use Rattle.std.specs.Prelude.{Bool, List, ℕ, ℤ}
use Rattle.paper.specs.declared.Ty.{Ty}
use Rattle.paper.specs.declared.Kind.{Kind}
use Rattle.paper.specs.declared.Op.{Op}

-- a name in capitals
abbrev pub Name : Type 0
Name = List ℕ

-- an expression; the first number of each is the place of its own word
pub data Expr : Type 0 where
  -- with its minus, if it has one
  number : ℕ → ℤ → Expr
  truth : ℕ → Bool → Expr
  variable : ℕ → Name → Expr
  -- the name, then the place of `[` and the subscript
  element : ℕ → Name → ℕ → Expr → Expr
  minus : ℕ → Expr → Expr
  complement : ℕ → Expr → Expr
  binary : ℕ → Op → Expr → Expr → Expr
  conversion : ℕ → Ty → Ty → Expr → Expr
  brackets : ℕ → Expr → Expr

-- a label of a CASE arm: a number, or two joined by `..`, each with its place
pub data Label : Type 0 where
  one : ℕ → ℤ → Label
  range : ℕ → ℤ → ℕ → ℤ → Label

-- a list of statements: the first, and in the last field the list behind it. Empty statements are gone
pub data Stmts : Type 0 where
  done : Stmts
  -- the target, the place of `:=`, the right side
  assign : Expr → ℕ → Expr → Stmts → Stmts
  -- the place of IF or ELSIF, the place of the IF, the condition, THEN, ELSE. An ELSIF stands alone in the ELSE
  choice : ℕ → ℕ → Expr → Stmts → Stmts → Stmts → Stmts
  -- the place of CASE, the selector, the arms
  select : ℕ → Expr → Stmts → Stmts → Stmts
  -- an arm of the CASE around it: the labels, its list, and behind it the next arm or the ELSE list
  arm : List Label → Stmts → Stmts → Stmts
  -- the place of FOR, the place of v, v, then a, b, c and the body
  loop : ℕ → ℕ → Name → Expr → Expr → Expr → Stmts → Stmts → Stmts

-- an array's bounds with their places, or none
pub data Bounds : Type 0 where
  single : Bounds
  array : ℕ → ℕ → ℕ → ℕ → Bounds

-- a declared value: the place of `:=`, and the value (a number with its place)
pub data Initial : Type 0 where
  nothing : Initial
  value : ℕ → ℕ → ℤ → Initial
  flag : ℕ → Bool → Initial

-- a name and its place
pub record Named : Type 0 where
  pub place : ℕ
  pub name : Name

pub record Declared : Type 0 where
  pub place : ℕ
  pub name : Name
  pub kind : Kind
  pub ty : Ty
  pub bounds : Bounds
  pub initial : Initial

pub record Program : Type 0 where
  pub name : Name
  pub declared : List Declared
  pub body : Stmts
