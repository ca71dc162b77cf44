-- A lent table read at its places, whatever it holds, and what rule 11 says of it there.
use Rattle.std.specs.Prelude.{Bool, true, false, ◌&&◌, List, [], map, ◌≡◌, ℕ, zero, suc, ◌+◌, ◌*◌, ◌/◌, ◌%◌, ltb, eqb, length, get_or, drop}
use Rattle.std.specs.List.{list_all}
use Rattle.std.proofs.Math.Option.{Option, none, some}
use Rattle.paper.specs.declared.Ty.{Ty}
use Rattle.paper.specs.declared.Ty.TheVariants.{Bool as BOOL}
use Rattle.paper.specs.Names.{Info}
use Rattle.paper.specs.Tables.{Line, Lent, types, line_in, lines_in, line_keeps, lines_keep, infos_of, next_of, next_state, cell_keeps}

-- ---- rows

-- the first of the four numbers of row i, and the one for its k-th operand
abbrev pub head_at : List ℕ → ℕ → ℕ
head_at rs i = get_or rs (4 * i) 0

abbrev pub word_at : List ℕ → ℕ → ℕ → ℕ
word_at rs i k = get_or rs (4 * i + k) 0

unfoldable pub line_at : List ℕ → ℕ → Line
line_at rs i = line_in (head_at rs i) (word_at rs i 1) (word_at rs i 2) (word_at rs i 3)

-- a row or a cell has a known type
abbrev pub is_type : ℕ → Bool
is_type x = ltb (x % 8) 5

-- a known operation and a known type
abbrev pub is_known : ℕ → Bool
is_known o = ltb (o / 8) 23 && is_type o

unfoldable pub rows_known : ℕ → List ℕ → Bool
rows_known zero rs = true
rows_known (suc n) rs = is_known (get_or rs 0 0) && rows_known n (drop 4 rs)

-- rule 11 for the row i
abbrev pub row_keeps : List Info → List ℕ → ℕ → Bool
row_keeps is rs i = is_known (head_at rs i) && line_keeps is (lines_in i rs) (line_at rs i)

-- rule 11 for the first n rows
unfoldable pub rows_keep : List Info → List ℕ → ℕ → Bool
rows_keep is rs n = rows_known n rs && lines_keep is [] (lines_in n rs)

-- ---- cells

-- an unknown type counts as BOOL
abbrev pub type_in : ℕ → Ty
type_in n = get_or types n BOOL

abbrev pub info_in : ℕ → Info
info_in x = record { ty = type_in (x % 8); is_input = eqb (x / 8 % 2) 1 }

abbrev pub cells_known : List ℕ → Bool
cells_known xs = list_all is_type xs

-- rule 11 for a cell over the rows `ls`
abbrev pub cell_passes : List Line → ℕ → Bool
cell_passes ls x = cell_keeps ls (info_in x) x

-- r is the state that follows s, where the cells' types are known
abbrev pub IsNext : List ℕ → List ℕ → List ℕ → List ℕ → Type 0
IsNext cs vals s r = (is : List Info) → infos_of cs ≡ some is → r ≡ next_state is vals (map next_of cs) s

-- ---- the table

-- n rows, and as many cells as their numbers
abbrev pub lent : List ℕ → List ℕ → ℕ → Lent
lent rs cs n = record { rows = rs; cells = cs; row_count = n; cell_count = length cs }

-- the answer to whether something is there
abbrev pub Answers : {A : Type 0} → Option A → Bool → Type 0
Answers {A} o true = (u : A) × (o ≡ some u)
Answers o false = o ≡ none
