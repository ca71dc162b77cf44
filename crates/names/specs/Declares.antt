-- What declarations leave, where names and cells stand before them already.
use Rattle.std.specs.Prelude.{◌≡◌, Bool, ◌||◌, List, [], ◌∷◌, ℕ, ◌+◌, ◌≤◌, min, eqb, ltb, length, set}
use Rattle.paper.specs.declared.Ty.{Ty}
use Rattle.paper.specs.declared.Kind.{Kind}
use Rattle.paper.specs.Source.{Name, Bounds, Initial, Declared}
use Rattle.paper.specs.Reading.{declare}
use Rattle.paper.specs.Names.{size_of, at, is_among, declaration_faults}
use Rattle.tree.specs.Trees.{name_at, names_at, declared_at}
use Rattle.variables.specs.Table.{names_to}
use Rattle.names.specs.declared.declared.Seen.{Seen}
use Rattle.names.specs.Walks.{after, Kept}

-- the names, the last first
unfoldable pub names_with : List Name → List Declared → List Name
names_with before [] = before
names_with before (d ∷ ds) = names_with (d.name ∷ before) ds

-- the cells
unfoldable pub cells_with : ℕ → List Declared → ℕ
cells_with n [] = n
cells_with n (d ∷ ds) = cells_with (n + size_of d.bounds) ds

-- all numbers above 64 count as one
abbrev pub SameCells : ℕ → ℕ → Type 0
SameCells m n = min 65 m ≡ min 65 n

-- t is the text. Whether the name at a place may not be declared: it is among the first n names of `seen`, its variable has no cells, or they make more than 64
abbrev pub bad_name : List ℕ → List ℕ → ℕ → ℕ → ℕ → ℕ → Bool
bad_name t seen n place size cells = is_among (name_at t place) (names_to t seen n) || eqb size 0 || ltb 64 cells

-- ---- the places of the names are `old` before and `new` after

-- declarations that lead from s to r
pub record Declares (t old new : List ℕ) (s r : Seen) (ds : List Declared) : Type 0 where
  pub soonest : r.best ≡ after s.best (declaration_faults (names_to t old s.count) s.cells ds)
  pub counted : r.count ≡ s.count + length ds
  pub named : names_to t new r.count ≡ names_with (names_to t old s.count) ds
  pub celled : SameCells r.cells (cells_with s.cells ds)
  pub kept : Kept s.count old new

-- one name at a place, of a variable with so many cells
pub record DeclaresName (t old new : List ℕ) (place size : ℕ) (s r : Seen) : Type 0 where
  pub soonest : r.best ≡ after s.best (at place (bad_name t old s.count place size (s.cells + size)))
  pub counted : r.count ≡ s.count + 1
  pub written : new ≡ set old s.count place
  pub celled : r.cells ≡ min 65 (s.cells + size)

-- the names at the node i of the pool p, with whatever else they share
abbrev pub DeclaresNames : List ℕ → List ℕ → List ℕ → List ℕ → ℕ → ℕ → Seen → Seen → Type 0
DeclaresNames t p old new i size s r =
    (k : Kind) (ty : Ty) (b : Bounds) (v : Initial) → size ≡ size_of b → s.count + length (names_at t p i) ≤ length old
    → Declares t old new s r (declare k ty b v (names_at t p i))

-- the declarations at the node d
abbrev pub DeclaresAll : List ℕ → List ℕ → List ℕ → List ℕ → ℕ → Seen → Seen → Type 0
DeclaresAll t p old new d s r = s.count + length (declared_at t p d) ≤ length old → Declares t old new s r (declared_at t p d)
