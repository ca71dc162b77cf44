-- The table's expressions as trees: for each cell one expression over the values at the scan's start, by symbolic execution.
use Rattle.std.specs.Prelude.{Bool, false, not, cond, ◌||◌, List, [], ◌∷◌, ℕ, zero, suc, ℤ, get_or, set}
use Rattle.paper.specs.declared.Ty.{Ty}
use Rattle.paper.specs.declared.Op.{Op}
use Rattle.paper.specs.declared.Cell.{Cell}
use Rattle.paper.specs.Types.{encode, negate, convert, bit, is_true, apply}
use Rattle.paper.specs.Plain as P
use Rattle.paper.specs.Plain.{State, look, assigns}

pub data Tree : Type 0 where
  number : Ty → ℤ → Tree
  truth : Bool → Tree
  read : Cell → Tree
  minus : Ty → Tree → Tree
  complement : Tree → Tree
  binary : Op → Ty → Tree → Tree → Tree
  conversion : Ty → Ty → Tree → Tree
  -- the second where the first holds, else the third
  select : Tree → Tree → Tree → Tree

-- the value of a tree at the scan's start
unfoldable pub tree_value : State → Tree → ℕ
tree_value s (number t z) = encode t z
tree_value s (truth b) = bit b
tree_value s (read c) = look s c
tree_value s (minus t e) = negate t (tree_value s e)
tree_value s (complement e) = bit (not (is_true (tree_value s e)))
tree_value s (binary o t l r) = apply o t (tree_value s l) (tree_value s r)
tree_value s (conversion t u e) = convert t u (tree_value s e)
tree_value s (select c a b) = cond (is_true (tree_value s c)) (tree_value s a) (tree_value s b)

-- an expression where each cell stands for a tree
unfoldable pub plug : List Tree → P.Expr → Tree
plug ρ (P.number t z) = number t z
plug ρ (P.truth b) = truth b
plug ρ (P.read c) = get_or ρ c.0 (truth false)
plug ρ (P.minus t e) = minus t (plug ρ e)
plug ρ (P.complement e) = complement (plug ρ e)
plug ρ (P.binary o t l r) = binary o t (plug ρ l) (plug ρ r)
plug ρ (P.conversion t u e) = conversion t u (plug ρ e)

-- the cells that one of an IF's branches assigns
unfoldable pub either : P.Stmts → P.Stmts → ℕ → Bool
either a b i = assigns a i || assigns b i

-- every cell behind an IF, from the cell number i on: a select where a branch assigns it
unfoldable pub merge_trees : (ℕ → Bool) → ℕ → Tree → List Tree → List Tree → List Tree
merge_trees w i c [] bs = []
merge_trees w i c (a ∷ as') [] = []
merge_trees w i c (a ∷ as') (b ∷ bs) = cond (w i) (select c a b) a ∷ merge_trees w (suc i) c as' bs

-- the tree of each cell behind a list of statements
unfoldable pub symbolic : P.Stmts → List Tree → List Tree
symbolic P.done ρ = ρ
symbolic (P.assign c e k) ρ = symbolic k (set ρ c.0 (plug ρ e))
symbolic (P.choice c a b k) ρ =
    symbolic k (merge_trees (either a b) 0 (plug ρ c) (symbolic a ρ) (symbolic b ρ))

-- the reads of n cells, from the cell number i on
unfoldable pub reads_from : ℕ → ℕ → List Tree
reads_from i zero = []
reads_from i (suc n) = read (record { 0 = i }) ∷ reads_from (suc i) n

-- a program's expressions
unfoldable pub expressions : ℕ → P.Stmts → List Tree
expressions n p = symbolic p (reads_from 0 n)
