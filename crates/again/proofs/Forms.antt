-- The source that a plain program is printed as: each operator in brackets, each cell by its name and subscript.
use mathlib.Core.Path.{◌≡◌}
use mathlib.Core.Bool.{Bool, true}
use mathlib.Core.Option.{some}
use Prim.Native.Nat.{ℕ, suc, ◌+◌, ◌-◌, max}
use mathlib.Core.List.{List}
use lib.IntN.{ℤ, pos}
use Rattle.paper.specs.declared.Ty.{Ty}
use Rattle.paper.specs.declared.Ty.TheVariants.{Dint as DINT}
use Rattle.paper.specs.declared.Op.{Op}
use Rattle.paper.specs.declared.Cell.{Cell}
use Rattle.paper.specs.Types.{fits}
use Rattle.paper.specs.Source as S
use Rattle.paper.specs.Source.{single, array}
use Rattle.paper.specs.Names.{Variable, find}
use Rattle.paper.specs.Plain.{Expr, number, truth, read, minus, complement, binary, conversion, Stmts, done, assign, choice}
use Rattle.demands.proofs.Cells.{CellOf}

-- the cell c of the variable v, whose name stands for no other
pub record At (vs : List Variable) (v : Variable) (c : Cell) : Type 0 where
  pub found : find v.declared.name vs ≡ some v
  pub cell : CellOf v c

-- a cell, as it is printed
pub data Spelt (vs : List Variable) (c : Cell) : S.Expr → Type 0 where
  alone : {p : ℕ} (v : Variable) → At vs v c → v.declared.bounds ≡ single → Spelt vs c (S.variable p v.declared.name)
  element : {p q r : ℕ} (v : Variable) (a lo b hi : ℕ) → At vs v c → v.declared.bounds ≡ array a lo b hi
      → fits DINT (pos (lo + (c.0 - v.first))) ≡ true
      → Spelt vs c (S.element p v.declared.name q (S.number r (pos (lo + (c.0 - v.first)))))

module _ (vs : List Variable) where
  pub data Form : Expr → S.Expr → Type 0 where
    as_number : {t : Ty} {z : ℤ} {p : ℕ} → Form (number t z) (S.number p z)
    as_truth : {b : Bool} {p : ℕ} → Form (truth b) (S.truth p b)
    as_read : {c : Cell} {e : S.Expr} → Spelt vs c e → Form (read c) e
    as_minus : {t : Ty} {x : Expr} {e : S.Expr} {p q r : ℕ} → Form x e → Form (minus t x) (S.brackets p (S.minus q (S.brackets r e)))
    as_complement : {x : Expr} {e : S.Expr} {p q : ℕ} → Form x e → Form (complement x) (S.brackets p (S.complement q e))
    as_binary : {o : Op} {t : Ty} {x y : Expr} {d e : S.Expr} {p q : ℕ} → Form x d → Form y e
        → Form (binary o t x y) (S.brackets p (S.binary q o d e))
    as_conversion : {t u : Ty} {x : Expr} {e : S.Expr} {p : ℕ} → Form x e → Form (conversion t u x) (S.conversion p t u e)

  pub data Forms : Stmts → S.Stmts → Type 0 where
    as_done : Forms done S.done
    as_assign : {c : Cell} {x : Expr} {r : Stmts} {y e : S.Expr} {s : S.Stmts} {q : ℕ} → Spelt vs c y → Form x e → Forms r s
        → Forms (assign c x r) (S.assign y q e s)
    as_choice : {x : Expr} {a b r : Stmts} {e : S.Expr} {f g s : S.Stmts} {p q : ℕ} → Form x e → Forms a f → Forms b g → Forms r s
        → Forms (choice x a b r) (S.choice p q e f g s)

-- ---- how deep

-- how many brackets stand in one another
unfoldable pub brackets : Expr → ℕ
brackets (number t z) = 0
brackets (truth b) = 0
brackets (read c) = 1
brackets (minus t e) = 2 + brackets e
brackets (complement e) = 1 + brackets e
brackets (binary o t l r) = 1 + max (brackets l) (brackets r)
brackets (conversion t u e) = 1 + brackets e

-- how many IFs
unfoldable pub depth : Stmts → ℕ
depth done = 0
depth (assign c e k) = depth k
depth (choice c a b k) = max (suc (max (depth a) (depth b))) (depth k)

-- how high
unfoldable pub height : Expr → ℕ
height (number t z) = 1
height (truth b) = 1
height (read c) = 1
height (minus t e) = suc (height e)
height (complement e) = suc (height e)
height (binary o t l r) = suc (max (height l) (height r))
height (conversion t u e) = suc (height e)
