-- What the table holds once variables were added: as many as it has room for.
use Rattle.std.specs.Prelude.{◌≡◌, List, ◌++◌, map, ℕ, ◌+◌, ◌*◌, ◌/◌, ◌%◌, ◌≤◌, ◌<◌, length, get_or, take}
use Rattle.paper.specs.declared.Kind.{Kind}
use Rattle.paper.specs.Source.{Declared}
use Rattle.paper.specs.Reading.{declare}
use Rattle.paper.specs.Names.{Variable, size_of, of_kind, printed, placed}
use Rattle.tree.specs.Nodes.{word_of, written}
use Rattle.tree.specs.Trees.{name_at, names_at, declared_at}
use Rattle.variables.specs.Table.{section_at, type_at, bounds_in, initial_in, key_of, entries}
use Rattle.names.specs.declared.table.Filled.{Filled}
use Rattle.names.specs.Declares.{cells_with}

-- t is the text, p the pool; the table is `old` before and `new` after

-- one variable more
pub record Adds (t old new : List ℕ) (place j size : ℕ) (f r : Filled) : Type 0 where
  pub full : length old / 4 ≤ f.count → (new ≡ old) × (r ≡ f)
  pub more : f.count < length old / 4 → new ≡ written old f.count place j f.cells (key_of (name_at t place))
  pub counted : f.count < length old / 4 → r.count ≡ f.count + 1
  pub celled : f.count < length old / 4 → r.cells ≡ (f.cells + size) % 65536

-- each variable's first cell stands behind the cells of those before it, modulo 65536
pub record Celled (t p tab : List ℕ) (f : Filled) : Type 0 where
  pub firsts : (k : ℕ) → k < f.count → word_of tab k 2 ≡ cells_with 0 (entries t p tab k) % 65536
  pub next : f.cells ≡ cells_with 0 (entries t p tab f.count) % 65536

-- variables more
pub record Fills (t p old new : List ℕ) (f r : Filled) (more : List Declared) : Type 0 where
  pub listed : entries t p new r.count ≡ take (length old / 4) (entries t p old f.count ++ more)
  pub celled : Celled t p old f → Celled t p new r

-- those at the node i of the pool q, of the declaration j of any pool, whose variables have so many cells
abbrev pub FillsNames : List ℕ → List ℕ → List ℕ → List ℕ → ℕ → ℕ → ℕ → Filled → Filled → Type 0
FillsNames t q old new i j size f r =
    (p : List ℕ) → 4 * j + 4 ≤ length p → size ≡ size_of (bounds_in p j)
    → Fills t p old new f r (declare (section_at p j) (type_at p j) (bounds_in p j) (initial_in p j) (names_at t q i))

-- those of the declarations at the node d that are of one kind
abbrev pub FillsKind : List ℕ → List ℕ → List ℕ → List ℕ → ℕ → Kind → Filled → Filled → Type 0
FillsKind t p old new d k f r = Fills t p old new f r (of_kind k (declared_at t p d))

-- the first cells of variables
abbrev pub firsts_of : List Variable → List ℕ
firsts_of vs = map (λ v. v.first) vs

-- all variables in printed order
pub record FillsAll (t p old new : List ℕ) (d : ℕ) (r : Filled) : Type 0 where
  pub listed : entries t p new r.count ≡ take (length old / 4) (printed (declared_at t p d))
  pub firsts : (k : ℕ) → k < r.count → word_of new k 2 ≡ get_or (firsts_of (placed 0 (printed (declared_at t p d)))) k 0 % 65536
  pub cells : r.cells ≡ cells_with 0 (entries t p new r.count) % 65536
