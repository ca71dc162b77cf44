-- The cell of a name and of an element, from what the table says of the name.
use mathlib.Core.Path.{◌≡◌, refl, sym, ap, ◌∙◌}
use mathlib.Core.Bool.{Bool, true, false, cond, ◌&&◌, true≢false}
use mathlib.Core.Option.{Option, none, some}
use mathlib.Core.List.{List}
use Prim.Native.Nat.{ℕ, zero, suc, ◌+◌, ◌-◌, ◌≤◌}
use native.Mathlib.Omega.{arith}
use borrow.Author.Tests.{leb-true, le-ltb}
use lib.Dec.{leb, eqb}
use lib.IntN.{pos, nat_abs, ◌-ℤ◌}
use Rattle.paper.specs.declared.Cell.{Cell}
use Rattle.paper.specs.Source.{Name, Bounds, single, array}
use Rattle.paper.specs.Names.{Variable, find, is_array}
use Rattle.paper.specs.Meaning.{◌>>=◌, cell_of_variable, variable_cell, element_cell}
use Rattle.tree.specs.Nodes.{kind_of, child_of}
use Rattle.tree.specs.Trees.{place_at, wide, bounds_at}
use Rattle.constants.specs.Answers.{cell_between}

abbrev no_cell : Option Cell
no_cell = none

abbrev pub the_cell : ℕ → Option Cell
the_cell n = some (record { 0 = n })

-- ---- by the bounds

single_cell : (first : ℕ) (b : Bounds) → is_array b ≡ false → elim b [ single ↦ the_cell first | array p lo q hi ↦ no_cell ] ≡ the_cell first
single_cell first single e = refl
single_cell first (array p lo q hi) e = absurd (true≢false e)

-- an array's bounds are those of its node
pub bounds_array : (p : List ℕ) (i : ℕ) → is_array (bounds_at p i) ≡ true
    → bounds_at p i ≡ array (place_at p (child_of p i 1)) (wide p (child_of p i 1)) (place_at p (child_of p i 2)) (wide p (child_of p i 2))
bounds_array p i h = go (eqb (kind_of p i) 34) refl
  where
    go : (b : Bool) → eqb (kind_of p i) 34 ≡ b
        → bounds_at p i ≡ array (place_at p (child_of p i 1)) (wide p (child_of p i 1)) (place_at p (child_of p i 2)) (wide p (child_of p i 2))
    go true e = rw e
    go false e = absurd (true≢false (sym (rw e at h)))

-- ---- whole numbers

above : (n lo : ℕ) → lo ≤ n → nat_abs (pos n -ℤ pos lo) ≡ n - lo
above n zero l = omega arith
above n (suc lo) l = rw (le-ltb n (suc lo) l)

between : (first lo n x : ℕ) (b d : Bool) → leb lo n ≡ b → some x ≡ cond (b && d) (some (first + (n - lo))) none
    → the_cell x ≡ cond (b && d) (the_cell (first + nat_abs (pos n -ℤ pos lo))) no_cell
between first lo n x true true e h = let y : x ≡ first + (n - lo) = cc in ap the_cell (y ∙ ap (λ d. first + d) (sym (above n lo (leb-true lo n e))))
between first lo n x true false e h = cc
between first lo n x false d e h = cc

-- ---- by the table

module _ (vs : List Variable) (n : Name) where
  module _ (v : Variable) (listed : find n vs ≡ some v) where
    pub variable_cell_lem : (b : Bool) → b ≡ is_array v.declared.bounds → b ≡ false → the_cell v.first ≡ variable_cell vs n
    variable_cell_lem b a e = sym (ap (λ f. f >>= cell_of_variable) listed ∙ single_cell v.first v.declared.bounds (sym a ∙ e))

    pub element_cell_lem : (a lo b hi m x : ℕ) → v.declared.bounds ≡ array a lo b hi → some x ≡ cell_between v.first lo hi m
        → the_cell x ≡ element_cell vs n (some (pos m))
    element_cell_lem a lo b hi m x e h = between v.first lo m x (leb lo m) (leb m hi) refl h ∙ sym (rw (listed, e))
