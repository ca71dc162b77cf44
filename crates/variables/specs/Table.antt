-- What the table of variables holds: four words a variable, the place of its name, the node of its declaration, its first cell, its name's key.
use Rattle.std.specs.Prelude.{◌≡◌, cond, List, [], ◌∷◌, ◌++◌, ℕ, zero, suc, ◌+◌, ◌*◌, ◌/◌, ◌%◌, ◌<◌, eqb, leb, length, get_or, Option, None, Some}
use Rattle.std.proofs.Math.Option.{none, some}
use Rattle.paper.specs.declared.Ty.{Ty}
use Rattle.paper.specs.declared.Ty.TheVariants.{Bool as BOOL}
use Rattle.paper.specs.declared.Kind.{Kind}
use Rattle.paper.specs.declared.Kind.TheVariants.{Other}
use Rattle.paper.specs.Source.{Name, Bounds, Initial, Declared}
use Rattle.paper.specs.Names.{Variable, placed, find}
use Rattle.tree.specs.Nodes.{word_of, child_of}
use Rattle.tree.specs.Trees.{name_at, types, kinds, bounds_at, initial_at}

-- ---- a declaration at a node

abbrev pub type_at : List ℕ → ℕ → Ty
type_at p j = get_or types (word_of p (child_of p j 2) 3) BOOL

abbrev pub section_at : List ℕ → ℕ → Kind
section_at p j = get_or kinds (word_of p j 3) Other

abbrev pub bounds_in : List ℕ → ℕ → Bounds
bounds_in p j = bounds_at p (child_of p (child_of p j 2) 1)

abbrev pub initial_in : List ℕ → ℕ → Initial
initial_in p j = initial_at p (child_of p (child_of p j 2) 2)

-- ---- the table

-- a node of the pool, nil where the pool has none of that number
abbrev pub node_in : List ℕ → ℕ → ℕ
node_in p w = cond (leb (4 * w + 4) (length p)) w 0

-- a key of 16 bits, the same for the same name: of each byte the five bits that a letter has in either case
unfoldable pub key_of : Name → ℕ
key_of [] = 0
key_of (c ∷ s) = (c % 32 + 31 * key_of s) % 65536

-- the name of the variable k; `?`, which no name is, where its key is another's
unfoldable pub name_in : List ℕ → List ℕ → ℕ → Name
name_in t tab k = let s = name_at t (word_of tab k 0) in cond (eqb (word_of tab k 3) (key_of s)) s (63 ∷ [])

-- the variable k
abbrev pub entry_at : List ℕ → List ℕ → List ℕ → ℕ → Declared
entry_at t p tab k =
    let j = node_in p (word_of tab k 1) in
    record {
      place = word_of tab k 0;
      name = name_in t tab k;
      kind = section_at p j;
      ty = type_at p j;
      bounds = bounds_in p j;
      initial = initial_in p j;
    }

-- the first n
unfoldable pub entries : List ℕ → List ℕ → List ℕ → ℕ → List Declared
entries t p tab zero = []
entries t p tab (suc n) = entries t p tab n ++ entry_at t p tab n ∷ []

unfoldable pub variables_in : List ℕ → List ℕ → List ℕ → List Variable
variables_in t p tab = placed 0 (entries t p tab (length tab / 4))

-- the first n with the first cells that the table gives, and all
unfoldable pub listed_to : List ℕ → List ℕ → List ℕ → ℕ → List Variable
listed_to t p tab zero = []
listed_to t p tab (suc n) = listed_to t p tab n ++ record { declared = entry_at t p tab n; first = word_of tab n 2 } ∷ []

unfoldable pub listed_in : List ℕ → List ℕ → List ℕ → List Variable
listed_in t p tab = listed_to t p tab (length tab / 4)

-- the variable r of a name: among all in printed order, and in the table as it stands
pub record Found (t tab : List ℕ) (place r : ℕ) : Type 0 where
  pub inside : r < length tab / 4
  pub declared : (p : List ℕ)
      → (m : ℕ) × (find (name_at t place) (variables_in t p tab) ≡ some (record { declared = entry_at t p tab r; first = m }))
  pub listed : (p : List ℕ)
      → find (name_at t place) (listed_in t p tab) ≡ some (record { declared = entry_at t p tab r; first = word_of tab r 2 })

-- no variable has the name
pub record Missing (t tab : List ℕ) (place : ℕ) : Type 0 where
  pub declared : (p : List ℕ) → find (name_at t place) (variables_in t p tab) ≡ none
  pub listed : (p : List ℕ) → find (name_at t place) (listed_in t p tab) ≡ none

-- the number of the variable of a name, if there is one
abbrev pub Seeks : List ℕ → List ℕ → ℕ → Option ℕ → Type 0
Seeks t tab place None = Missing t tab place
Seeks t tab place (Some r) = Found t tab place r

-- ---- names by their places, the last first

unfoldable pub names_to : List ℕ → List ℕ → ℕ → List Name
names_to t ps zero = []
names_to t ps (suc n) = name_at t (get_or ps n 0) ∷ names_to t ps n
