-- How a cell is printed: as its variable's, by a name that is one word and stands for no other.
use mathlib.Core.Path.{◌≡◌, refl, ◌∙◌}
use mathlib.Core.Bool.{true}
use mathlib.Core.List.{List, ◌∷◌}
use Prim.Native.Nat.{ℕ, ◌+◌, ◌-◌, ◌≤◌}
use native.Mathlib.Omega.{arith}
use lib.IntN.{pos}
use lib.ListN.{length}
use Rattle.paper.specs.declared.Ty.TheVariants.{Dint as DINT}
use Rattle.paper.specs.declared.Cell.{Cell}
use Rattle.paper.specs.Types.{fits}
use Rattle.paper.specs.Words as W
use Rattle.paper.specs.Words.{Word}
use Rattle.paper.specs.Source.{Name, Bounds, single, array}
use Rattle.paper.specs.Names.{Variable}
use Rattle.paper.specs.Printing as P
use Rattle.again.proofs.Says.{key}
use Rattle.again.proofs.Wordings.{words_of_variable, cell_words}
use Rattle.again.proofs.Forms.{At}
use Rattle.again.proofs.SpelledNames.{RunWord}

pub record Printed (vs : List Variable) (c : Cell) : Type 0 where
  pub var : Variable
  pub at : At vs var c
  pub words : (k : List Word) → cell_words vs c.0 k ≡ words_of_variable var c.0 k
  pub print : (k : List ℕ) → P.cell vs c.0 k ≡ P.cell_of_variable var c.0 k
  pub named : RunWord var.declared.name (W.name var.declared.name)
  pub small : (a lo b hi : ℕ) → var.declared.bounds ≡ array a lo b hi → fits DINT (pos (lo + (c.0 - var.first))) ≡ true

-- the words of a cell in front of k: its variable's name, and then no fewer than k
pub record Begins (vs : List Variable) (c : Cell) (n : Name) (k : List Word) : Type 0 where
  pub rest : List Word
  pub is : cell_words vs c.0 k ≡ W.name n ∷ rest
  pub long : length k ≤ length rest

pub begins : (vs : List Variable) (c : Cell) (k : List Word) (h : Printed vs c) → Begins vs c h.var.declared.name k
begins vs c k h =
    let x = go h.var.declared.bounds in
    record { rest = x.0; is = h.words k ∙ x.1; long = x.2 }
  where
    n : Name
    n = h.var.declared.name

    go : (b : Bounds)
        → (u : List Word)
        × (◌≡◌ {A = List Word}
        (elim b [
          | single ↦ W.name n ∷ k
          | array p lo q hi ↦ W.name n ∷ key "[" ∷ W.number (lo + (c.0 - h.var.first)) ∷ key "]" ∷ k
        ])
        (W.name n ∷ u))
        × (length k ≤ length u)
    go single = (k, refl, omega arith)
    go (array p lo q hi) = (key "[" ∷ W.number (lo + (c.0 - h.var.first)) ∷ key "]" ∷ k, refl, omega arith)
