-- What the walks of ST0 leave: rows behind any that stand there, and the rows that stand for the cells.
use Rattle.std.specs.Prelude.{◌≡◌, Bool, ◌||◌, List, [], ◌∷◌, ◌++◌, ℕ, ◌/◌, ◌%◌, ◌<◌, eqb, length, drop}
use Rattle.std.proofs.Math.Option.{some}
use Rattle.paper.specs.declared.Row.{Row}
use Rattle.paper.specs.Types.{tag}
use Rattle.paper.specs.Names.{Info}
use Rattle.paper.specs.Plain.{Stmts, assigns}
use Rattle.paper.specs.Tables as T
use Rattle.paper.specs.Tables.{Line, record_of, records, cell_records, infos_of, merge, statement_rows, reads, rows_from, table_of}
use Rattle.paper.specs.Judge.{over}
use Rattle.plain.specs.Flat.{list_at}
use Rattle.plain.specs.Marks.{is_marked}
use Rattle.table.specs.declared.records.Made.{Made}
use Rattle.table.specs.Growth.{rows_in, Room, Holds, Front}

-- ---- expressions

-- behind any n rows there are those that f makes of them, and the row that f names, where there is room
abbrev pub Makes : List ℕ → List ℕ → ℕ → (List Line → T.Made) → Made → Type 0
Makes old new n f r =
    (base : List ℕ) (rs : List Line) → Holds base old n rs → Room base (length (f rs).rows)
    → Holds base new r.count (f rs).rows × (r.at ≡ (f rs).at)

-- one row more, by the four numbers of its record
abbrev pub Pushes : List ℕ → List ℕ → ℕ → ℕ → ℕ → ℕ → ℕ → Made → Type 0
Pushes old new n h a b c r = (l : Line) → record_of l ≡ h ∷ a ∷ b ∷ c ∷ [] → Makes old new n (λ rs. T.push rs l) r

-- ---- lists

-- the rows of m, and the rows that stand for the cells, where there is room
abbrev pub Stands : List ℕ → List ℕ → ℕ → List ℕ → T.Bound → Type 0
Stands base new r env m = Room base (length m.rows) → Holds base new r m.rows × (rows_in env ≡ m.env)

-- the rows of a list behind any n
abbrev pub Binds : List ℕ → Stmts → List ℕ → List ℕ → List ℕ → List ℕ → ℕ → ℕ → Type 0
Binds infos s env env' old new n r =
    (is : List Info) → infos_of infos ≡ some is → (base : List ℕ) (rs : List Line) → Holds base old n rs
    → Stands base new r env' (statement_rows is s (rows_in env) rs)

-- from the cell i on: a select row over the row t where the cell is marked
pub record Merges (i : ℕ) (t : Row) (infos marks env env' other old new : List ℕ) (n r : ℕ) : Type 0 where
  pub front : Front i env env'
  pub merges : (w : ℕ → Bool) → ((c : ℕ) → c < length env → is_marked marks c ≡ w c)
      → (is : List Info) → infos_of (drop i infos) ≡ some is → (base : List ℕ) (rs : List Line) → Holds base old n rs
      → Stands base new r (drop i env') (merge w i t is (rows_in (drop i env)) (rows_in (drop i other)) rs)

-- all cells: a select row where one of the lists a and b assigns the cell
abbrev pub Selects : Stmts → Stmts → Row → List ℕ → List ℕ → List ℕ → List ℕ → List ℕ → List ℕ → ℕ → ℕ → Type 0
Selects a b t infos env env' other old new n r =
    (is : List Info) → infos_of infos ≡ some is → (base : List ℕ) (rs : List Line) → Holds base old n rs
    → Stands base new r env' (merge (λ i. assigns a i || assigns b i) 0 t is (rows_in env) (rows_in other) rs)

-- ---- cells

-- what a cell's number says
abbrev pub Says : ℕ → Info → Type 0
Says x i = (tag i.ty ≡ x % 8) × (i.is_input ≡ eqb (x / 8 % 2) 1)

-- from the cell i on, behind as many rows: the value at the scan's start, whose row stands for the cell
pub record Starts (i : ℕ) (infos env env' old new : List ℕ) (n r : ℕ) : Type 0 where
  pub front : Front i env env'
  pub starts : (is : List Info) → infos_of (drop i infos) ≡ some is → (base : List ℕ) (rs : List Line) → Holds base old n rs → length rs ≡ i
      → Stands base new r (drop i env') (record { rows = rs ++ reads i is; env = rows_from i is })

-- from the cell i on: its record
pub record Ends (i : ℕ) (infos env old new : List ℕ) : Type 0 where
  pub front : Front i old new
  pub ends : (is : List Info) → infos_of (drop i infos) ≡ some is
      → drop i new ≡ over (cell_records is (rows_in (drop i env))) (drop i old)

-- ---- the whole

-- the table of a list in front of what the two buffers held, where there is room for its rows
abbrev pub Tabled : List ℕ → ℕ → List ℕ → List ℕ → List ℕ → List ℕ → List ℕ → ℕ → Type 0
Tabled p i infos oldRows newRows oldCells newCells r =
    (is : List Info) → infos_of infos ≡ some is → Room oldRows (length (table_of is (list_at p i)).rows)
    → (r ≡ length (table_of is (list_at p i)).rows)
    × (newRows ≡ over (records (table_of is (list_at p i)).rows) oldRows)
    × (newCells ≡ over (cell_records is (table_of is (list_at p i)).next) oldCells)
