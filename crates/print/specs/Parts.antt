-- The parts of a print, as the code has them: by a node of the pool and by a number of the table.
use Rattle.std.specs.Prelude.{◌≡◌, Bool, true, false, cond, ◌&&◌, List, [], ◌∷◌, ◌++◌, ℕ, ◌+◌, ◌/◌, ◌≤◌, ◌<◌, ltb, leb, length, get_or}
use Rattle.paper.specs.declared.Ty.{Ty}
use Rattle.paper.specs.declared.Kind.{Kind}
use Rattle.paper.specs.Words.{type_name}
use Rattle.paper.specs.Source.{Bounds, single, array, Declared}
use Rattle.paper.specs.Names.{Variable, size_of, same_kind, of_kind}
use Rattle.paper.specs.Plain.{Stmts, done, assign, choice}
use Rattle.paper.specs.Printing.{put, line, natural, cell, cell_of_variable, statements, declaration_of, declarations}
use Rattle.tree.specs.Nodes.{word_of, child_of}
use Rattle.tree.specs.Trees.{wide}
use Rattle.variables.specs.Table.{type_at, section_at, bounds_in, initial_in, node_in, entry_at, entries, listed_in}

-- ---- declarations

-- the variables of a section among the first n
abbrev pub of_section : List ℕ → List ℕ → List ℕ → Kind → ℕ → List Declared
of_section t p tab s n = of_kind s (entries t p tab n)

-- whether the variable v is of a section, and how many of the first n are, whatever their names
abbrev pub is_of : List ℕ → List ℕ → Kind → ℕ → Bool
is_of p tab s v = same_kind s (section_at p (node_in p (word_of tab v 1)))

abbrev pub Counts : List ℕ → List ℕ → Kind → ℕ → ℕ → Type 0
Counts p tab s n r = (t : List ℕ) → r ≡ length (of_section t p tab s n)

-- a declaration at a node, without a name
abbrev pub declared_in : List ℕ → ℕ → Declared
declared_in p j =
    record {
      place = 0;
      name = [];
      kind = section_at p j;
      ty = type_at p j;
      bounds = bounds_in p j;
      initial = initial_in p j;
    }

-- its type and value
abbrev pub typing : List ℕ → ℕ → List ℕ → List ℕ
typing p j k = declaration_of (section_at p j) (bounds_in p j) (declared_in p j) k

-- of an array, by the node of its bounds
abbrev pub array_of : List ℕ → ℕ → Ty → List ℕ → List ℕ
array_of p b t k =
    put "ARRAY[" (natural (wide p (child_of p b 1)) (put ".." (natural (wide p (child_of p b 2)) (put "] OF " (type_name t ++ line ";" k)))))

-- a section with its first line
abbrev pub headed : List ℕ → List Declared → List ℕ → List ℕ
headed h [] k = k
headed h (d ∷ ds) k = h ++ declarations (d ∷ ds) (line "END_VAR" k)

-- ---- cells

-- the variable n as the table has it
abbrev pub variable_at : List ℕ → List ℕ → List ℕ → ℕ → Variable
variable_at t p tab n = record { declared = entry_at t p tab n; first = word_of tab n 2 }

-- the first variable that has the cell c, or how many variables there are
pub record Holds (p tab : List ℕ) (c r : ℕ) : Type 0 where
  pub most : r ≤ length tab / 4
  pub from : r < length tab / 4 → word_of tab r 2 ≤ c
  pub found : r < length tab / 4 → (t k : List ℕ) → cell (listed_in t p tab) c k ≡ cell_of_variable (variable_at t p tab r) c k
  pub missing : length tab / 4 ≤ r → (t k : List ℕ) → cell (listed_in t p tab) c k ≡ k

-- whether the variable n has it
abbrev pub holds : List ℕ → List ℕ → ℕ → ℕ → Bool
holds p tab c n = leb (word_of tab n 2) c && ltb c (word_of tab n 2 + size_of (bounds_in p (node_in p (word_of tab n 1))))

-- an index: for each of the first 64 cells the variable that `Holds` speaks of
abbrev pub Indexed : List ℕ → List ℕ → List ℕ → Type 0
Indexed p tab is = (c : ℕ) → c < 64 → Holds p tab c (get_or is c 0)

-- an index with the variable v entered over what was there
pub record Entered (p tab : List ℕ) (v : ℕ) (old new : List ℕ) : Type 0 where
  pub size : length new ≡ 64
  pub entries : (c : ℕ) → c < 64 → get_or new c 0 ≡ cond (holds p tab c v) v (get_or old c 0)

-- the subscript of an array's element, which is the cell o of the array
abbrev pub subscript : Bounds → ℕ → List ℕ → List ℕ
subscript single o k = k
subscript (array p lo q hi) o k = put "[" (natural (lo + o) (put "]" k))

-- ---- lists

abbrev pub is_done : Stmts → Bool
is_done done = true
is_done (assign c e r) = false
is_done (choice c a b r) = false

-- behind a list, and in front of the other one
abbrev pub if_empty : Stmts → List ℕ → List ℕ
if_empty p k = cond (is_done p) (line ";" k) k

abbrev pub if_else : Stmts → List ℕ → List ℕ
if_else p k = cond (is_done p) k (line "ELSE" k)

-- a list, and its one empty statement where it has none
abbrev pub whole : List Variable → Stmts → List ℕ → List ℕ
whole vs p k = statements vs p (if_empty p k)
