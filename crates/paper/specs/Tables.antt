-- The next-state table: what a row says and means, how rows are made from ST0, rule 11, and the run of a table.
use Rattle.std.specs.Prelude.{Bool, true, false, not, cond, ◌&&◌, ◌||◌, List, [], ◌∷◌, ◌++◌, map, ℕ, zero, suc, ◌+◌, ◌*◌, ◌-◌, ◌/◌, ◌%◌, ◌^◌, ltb, leb, eqb, length, get_or, set, take, drop}
use Rattle.std.proofs.Math.Option.{Option, none, some}
use Rattle.std.proofs.Math.ListN.{get_elem?}
use Rattle.paper.specs.declared.Ty.{Ty}
use Rattle.paper.specs.declared.Ty.TheVariants.{Bool as BOOL, Int as INT, Uint as UINT, Dint as DINT, Udint as UDINT}
use Rattle.paper.specs.declared.Op.{Op}
use Rattle.paper.specs.declared.Op.TheVariants.{Mul, Div, Mod, Add, Sub, Lt, Gt, Le, Ge, Eq, Ne, And, Xor, Or}
use Rattle.paper.specs.declared.Cell.{Cell}
use Rattle.paper.specs.declared.Row.{Row}
use Rattle.paper.specs.Types.{width, signed, tag, same_ty, is_integer, encode, negate, convert, bit, is_true, apply, sort_of, takes, gives, divides}
use Rattle.paper.specs.Names.{Info}
use Rattle.paper.specs.Plain as P
use Rattle.paper.specs.Plain.{State, look, assigns}
use Rattle.paper.specs.Meaning.{◌>>=◌}

-- ---- what a row says

pub data Line : Type 0 where
  -- a number or truth value, by its residue
  number : Ty → ℕ → Line
  read : Ty → Cell → Line
  minus : Ty → Row → Line
  complement : Ty → Row → Line
  binary : Op → Ty → Row → Row → Line
  conversion : Ty → Ty → Row → Line
  -- the second row's value where the first holds, else the third's
  select : Ty → Row → Row → Row → Line

pub record Table : Type 0 where
  pub cells : List Info
  pub rows : List Line
  -- each cell's next row; an input's isn't looked at
  pub next : List Row

abbrev pub row : ℕ → Row
row n = record { 0 = n }

-- ---- what a row means

-- the value of a line, where the rows before it have the values `vals`
abbrev pub line_value : State → List ℕ → Line → ℕ
line_value s vals (number t n) = n
line_value s vals (read t c) = look s c
line_value s vals (minus t a) = negate t (get_or vals a.0 0)
line_value s vals (complement t a) = bit (not (is_true (get_or vals a.0 0)))
line_value s vals (binary o t a b) = apply o t (get_or vals a.0 0) (get_or vals b.0 0)
line_value s vals (conversion t u a) = convert t u (get_or vals a.0 0)
line_value s vals (select t c a b) = cond (is_true (get_or vals c.0 0)) (get_or vals a.0 0) (get_or vals b.0 0)

-- the values of the rows in order, behind those of the rows before
unfoldable pub values : State → List ℕ → List Line → List ℕ
values s vals [] = vals
values s vals (l ∷ ls) = values s (vals ++ line_value s vals l ∷ []) ls

-- each cell's next value: an input keeps its reading
unfoldable pub next_state : List Info → List ℕ → List Row → State → State
next_state [] vals ns s = []
next_state (i ∷ is) vals [] s = []
next_state (i ∷ is) vals (n ∷ ns) [] = []
next_state (i ∷ is) vals (n ∷ ns) (v ∷ s) = cond i.is_input v (get_or vals n.0 0) ∷ next_state is vals ns s

unfoldable pub run_table : Table → State → State
run_table t s = next_state t.cells (values s [] t.rows) t.next s

-- ---- how rows are made: symbolic execution

-- the rows so far, and the one that stands for an expression
pub record Made : Type 0 where
  pub rows : List Line
  pub at : Row

-- the rows so far, and the one that now stands for each cell
pub record Bound : Type 0 where
  pub rows : List Line
  pub env : List Row

abbrev pub push : List Line → Line → Made
push rs l = record { rows = rs ++ l ∷ []; at = row (length rs) }

-- one row for each part, but a cell read is the row that now stands for the cell
unfoldable pub expression_rows : List Row → P.Expr → List Line → Made
expression_rows env (P.number t z) rs = push rs (number t (encode t z))
expression_rows env (P.truth b) rs = push rs (number BOOL (bit b))
expression_rows env (P.read c) rs = record { rows = rs; at = get_or env c.0 (row 0) }
expression_rows env (P.minus t e) rs = let x = expression_rows env e rs in push x.rows (minus t x.at)
expression_rows env (P.complement e) rs = let x = expression_rows env e rs in push x.rows (complement BOOL x.at)
expression_rows env (P.binary o t l r) rs =
    let x = expression_rows env l rs in
    let y = expression_rows env r x.rows in
    push y.rows (binary o t x.at y.at)
expression_rows env (P.conversion t u e) rs =
    let x = expression_rows env e rs in
    push x.rows (conversion t u x.at)

-- one cell behind an IF: a select where a branch assigns it
abbrev pub merge_cell : Bool → Ty → Row → Row → Row → List Line → Made
merge_cell true t c a b rs = push rs (select t c a b)
merge_cell false t c a b rs = record { rows = rs; at = a }

-- every cell behind an IF, from the cell number i on
unfoldable pub merge : (ℕ → Bool) → ℕ → Row → List Info → List Row → List Row → List Line → Bound
merge w i c [] xs ys rs = record { rows = rs; env = [] }
merge w i c (t ∷ ts) [] ys rs = record { rows = rs; env = [] }
merge w i c (t ∷ ts) (a ∷ xs) [] rs = record { rows = rs; env = [] }
merge w i c (t ∷ ts) (a ∷ xs) (b ∷ ys) rs =
    let x = merge_cell (w i) t.ty c a b rs in
    let y = merge w (suc i) c ts xs ys x.rows in
    record { rows = y.rows; env = x.at ∷ y.env }

unfoldable pub statement_rows : List Info → P.Stmts → List Row → List Line → Bound
statement_rows is P.done env rs = record { rows = rs; env = env }
statement_rows is (P.assign c e k) env rs =
    let x = expression_rows env e rs in
    statement_rows is k (set env c.0 x.at) x.rows
statement_rows is (P.choice c a b k) env rs =
    let x = expression_rows env c rs in
    let y = statement_rows is a env x.rows in
    let z = statement_rows is b env y.rows in
    let m = merge (λ i. assigns a i || assigns b i) 0 x.at is y.env z.env z.rows in
    statement_rows is k m.env m.rows

-- first a row for each cell, its value at the scan's start
unfoldable pub reads : ℕ → List Info → List Line
reads i [] = []
reads i (t ∷ ts) = read t.ty (record { 0 = i }) ∷ reads (suc i) ts

unfoldable pub rows_from : ℕ → List Info → List Row
rows_from i [] = []
rows_from i (t ∷ ts) = row i ∷ rows_from (suc i) ts

unfoldable pub table_of : List Info → P.Stmts → Table
table_of is p =
    let m = statement_rows is p (rows_from 0 is) (reads 0 is) in
    record { cells = is; rows = m.rows; next = m.env }

-- ---- rule 11

-- the type of a row's value
abbrev pub line_type : Line → Ty
line_type (number t n) = t
line_type (read t c) = t
line_type (minus t a) = t
line_type (complement t a) = t
line_type (binary o t a b) = gives (sort_of o) t
line_type (conversion t u a) = u
line_type (select t c a b) = t

-- an earlier row of the type t
abbrev pub is_earlier : List Line → Ty → Row → Bool
is_earlier before t a = elim (get_elem? before a.0) [ none ↦ false | some l ↦ same_ty t (line_type l) ]

-- rule 11, 'divisor': the row of a number other than 0
abbrev pub is_non_zero : Line → Bool
is_non_zero (number t n) = not (eqb n 0)
is_non_zero (read t c) = false
is_non_zero (minus t a) = false
is_non_zero (complement t a) = false
is_non_zero (binary o t a b) = false
is_non_zero (conversion t u a) = false
is_non_zero (select t c a b) = false

abbrev pub is_divisor : List Line → Row → Bool
is_divisor before b = elim (get_elem? before b.0) [ none ↦ false | some l ↦ is_non_zero l ]

abbrev pub is_cell : List Info → Ty → Cell → Bool
is_cell is t c = elim (get_elem? is c.0) [ none ↦ false | some i ↦ same_ty t i.ty ]

-- rule 11 for one row, the rows before it being `before`
abbrev pub line_keeps : List Info → List Line → Line → Bool
line_keeps is before (number t n) = ltb n (2 ^ width t)
line_keeps is before (read t c) = is_cell is t c
line_keeps is before (minus t a) = signed t && is_earlier before t a
line_keeps is before (complement t a) = same_ty t BOOL && is_earlier before BOOL a
line_keeps is before (binary o t a b) =
    takes (sort_of o) t && is_earlier before t a && is_earlier before t b && (not (divides o) || is_divisor before b)
line_keeps is before (conversion t u a) = is_integer t && is_integer u && not (same_ty t u) && is_earlier before t a
line_keeps is before (select t c a b) = is_earlier before BOOL c && is_earlier before t a && is_earlier before t b

unfoldable pub lines_keep : List Info → List Line → List Line → Bool
lines_keep is before [] = true
lines_keep is before (l ∷ ls) = line_keeps is before l && lines_keep is (before ++ l ∷ []) ls

-- ---- the lent form: four numbers a row, one a cell (docs/LAYOUT.md)

pub record Lent : Type 0 where
  pub rows : List ℕ
  pub cells : List ℕ
  pub row_count : ℕ
  pub cell_count : ℕ

-- the types and operators by their numbers
abbrev pub types : List Ty
types = BOOL ∷ INT ∷ UINT ∷ DINT ∷ UDINT ∷ []

abbrev pub operation : Line → ℕ
operation (number t n) = 0
operation (read t c) = 1
operation (minus t a) = 2
operation (complement t a) = 3
operation (select t c a b) = 4
operation (binary Mul t a b) = 5
operation (binary Div t a b) = 6
operation (binary Mod t a b) = 7
operation (binary Add t a b) = 8
operation (binary Sub t a b) = 9
operation (binary Lt t a b) = 10
operation (binary Gt t a b) = 11
operation (binary Le t a b) = 12
operation (binary Ge t a b) = 13
operation (binary Eq t a b) = 14
operation (binary Ne t a b) = 15
operation (binary And t a b) = 16
operation (binary Xor t a b) = 17
operation (binary Or t a b) = 18
operation (conversion t u a) = 18 + tag u

-- the type in a row's first number: that of its operands, or of its value where it has none
abbrev pub type_of : Line → Ty
type_of (number t n) = t
type_of (read t c) = t
type_of (minus t a) = t
type_of (complement t a) = t
type_of (binary o t a b) = t
type_of (conversion t u a) = t
type_of (select t c a b) = t

abbrev pub operands : Line → List ℕ
operands (number t n) = n ∷ 0 ∷ 0 ∷ []
operands (read t c) = c.0 ∷ 0 ∷ 0 ∷ []
operands (minus t a) = a.0 ∷ 0 ∷ 0 ∷ []
operands (complement t a) = a.0 ∷ 0 ∷ 0 ∷ []
operands (binary o t a b) = a.0 ∷ b.0 ∷ 0 ∷ []
operands (conversion t u a) = a.0 ∷ 0 ∷ 0 ∷ []
operands (select t c a b) = c.0 ∷ a.0 ∷ b.0 ∷ []

abbrev pub record_of : Line → List ℕ
record_of l = (8 * operation l + tag (type_of l)) ∷ operands l

-- what a record says, by its operation
abbrev pub Form : Type 0
Form = Ty → ℕ → ℕ → ℕ → Line

abbrev pub two : Op → Form
two o t a b c = binary o t (row a) (row b)

abbrev pub to : Ty → Form
to u t a b c = conversion t u (row a)

unfoldable pub forms : List Form
forms =
    (λ t a b c. number t a)
    ∷ (λ t a b c. read t (record { 0 = a }))
    ∷ (λ t a b c. minus t (row a))
    ∷ (λ t a b c. complement t (row a))
    ∷ (λ t a b c. select t (row a) (row b) (row c))
    ∷ two Mul ∷ two Div ∷ two Mod ∷ two Add ∷ two Sub
    ∷ two Lt ∷ two Gt ∷ two Le ∷ two Ge ∷ two Eq ∷ two Ne ∷ two And ∷ two Xor ∷ two Or
    ∷ to INT ∷ to UINT ∷ to DINT ∷ to UDINT
    ∷ []

-- none for an unknown operation or type
abbrev pub line_of : ℕ → ℕ → ℕ → ℕ → Option Line
line_of o a b c = get_elem? forms (o / 8) >>= λ f. get_elem? types (o % 8) >>= λ t. some (f t a b c)

-- the first n records
unfoldable pub lines_of : ℕ → List ℕ → Option (List Line)
lines_of zero rs = some []
lines_of (suc n) [] = none
lines_of (suc n) (o ∷ []) = none
lines_of (suc n) (o ∷ a ∷ []) = none
lines_of (suc n) (o ∷ a ∷ b ∷ []) = none
lines_of (suc n) (o ∷ a ∷ b ∷ c ∷ rs) = line_of o a b c >>= λ l. lines_of n rs >>= λ ls. some (l ∷ ls)

-- a cell's number: its type, 8 for an input, and 16 times one more than its next row; 0 stands for none
abbrev pub cell_record : Info → Row → ℕ
cell_record i n = tag i.ty + cond i.is_input 8 (16 * suc n.0)

unfoldable pub cell_records : List Info → List Row → List ℕ
cell_records [] ns = []
cell_records (i ∷ is) [] = []
cell_records (i ∷ is) (n ∷ ns) = cell_record i n ∷ cell_records is ns

unfoldable pub infos_of : List ℕ → Option (List Info)
infos_of [] = some []
infos_of (x ∷ xs) =
    get_elem? types (x % 8) >>= λ t. infos_of xs >>= λ is.
    some (record { ty = t; is_input = eqb (x / 8 % 2) 1 } ∷ is)

abbrev pub next_of : ℕ → Row
next_of x = row (x / 16 - 1)

-- rule 11, 'next row': one of the cell's type, and none for an input
abbrev pub cell_keeps : List Line → Info → ℕ → Bool
cell_keeps ls i x =
    cond i.is_input (eqb (x / 16) 0)
    (not (eqb (x / 16) 0) && is_earlier ls i.ty (next_of x))

unfoldable pub cells_keep : List Line → List Info → List ℕ → Bool
cells_keep ls [] xs = true
cells_keep ls (i ∷ is) [] = true
cells_keep ls (i ∷ is) (x ∷ xs) = cell_keeps ls i x && cells_keep ls is xs

unfoldable pub records : List Line → List ℕ
records [] = []
records (l ∷ ls) = record_of l ++ records ls

-- a table as lent: its counts are those of its lists
unfoldable pub lent_of : Table → Lent
lent_of t =
    record {
      rows = records t.rows;
      cells = cell_records t.cells t.next;
      row_count = length t.rows;
      cell_count = length t.cells;
    }

-- the table that a lent one says, where it keeps rule 11; room has been tested
unfoldable pub table_in : Lent → Option Table
table_in t =
    let xs = take t.cell_count t.cells in
    elim (leb t.cell_count 64 && leb t.row_count 3064) [
      | false ↦ none
      | true ↦
          infos_of xs >>= λ is. lines_of t.row_count t.rows >>= λ ls.
          cond (lines_keep is [] ls && cells_keep ls is xs) (some (record { cells = is; rows = ls; next = map next_of xs })) none
    ]

-- ---- the total reading, for a table that was checked before: an unknown operation is the number 0, an unknown type BOOL

abbrev pub line_in : ℕ → ℕ → ℕ → ℕ → Line
line_in o a b c = get_or forms (o / 8) (λ t a b c. number t 0) (get_or types (o % 8) BOOL) a b c

-- the first n records
unfoldable pub lines_in : ℕ → List ℕ → List Line
lines_in zero rs = []
lines_in (suc n) rs = line_in (get_or rs 0 0) (get_or rs 1 0) (get_or rs 2 0) (get_or rs 3 0) ∷ lines_in n (drop 4 rs)

-- only the counts and the cells' types are looked at
unfoldable pub total_in : Lent → Option Table
total_in t =
    let xs = take t.cell_count t.cells in
    elim (leb t.cell_count 64 && leb t.row_count 3064) [
      | false ↦ none
      | true ↦ infos_of xs >>= λ is. some (record { cells = is; rows = lines_in t.row_count t.rows; next = map next_of xs })
    ]
