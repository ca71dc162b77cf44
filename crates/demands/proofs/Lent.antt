-- The lent form of a table that keeps rule 11 reads back.
use mathlib.Core.Path.{◌≡◌, refl, ap, ap₂, ◌∙◌}
use mathlib.Core.Bool.{Bool, true, false, cond, not, ◌&&◌, false≢true}
use mathlib.Core.Option.{some}
use mathlib.Core.List.{List, [], ◌∷◌, ◌++◌, map}
use Prim.Native.Nat.{ℕ, zero, suc, ◌+◌, ◌*◌, ◌/◌, ◌%◌, ◌≤◌, ◌<◌}
use native.Mathlib.Numerals.{sub-one}
use native.Mathlib.Omega.{arith}
use borrow.Author.Tests.{le-leb}
use lib.Dec.{eqb, eqb-suc-zero, lit<}
use lib.ListN.{length, get_or, set, get_elem?, take}
use Rattle.paper.specs.declared.Ty.{Ty}
use Rattle.paper.specs.declared.Ty.TheVariants.{Bool as BOOL, Int as INT, Uint as UINT, Dint as DINT, Udint as UDINT}
use Rattle.paper.specs.declared.Op.{Op}
use Rattle.paper.specs.declared.Op.TheVariants.{Mul, Div, Mod, Add, Sub, Lt, Gt, Le, Ge, Eq, Ne, And, Xor, Or}
use Rattle.paper.specs.declared.Row.{Row}
use Rattle.paper.specs.Types.{tag, same_ty, is_integer}
use Rattle.paper.specs.Names.{Info}
use Rattle.paper.specs.Plain.{State}
use Rattle.paper.specs.Meaning.{◌>>=◌}
use Rattle.paper.specs.Tables.{Table, Line, number, read, minus, complement, binary, conversion, select, row, next_state, run_table, is_earlier, line_keeps, lines_keep, lent_of, operation, record_of, Form, two, to, forms, lines_of, cell_record, cell_records, infos_of, next_of, cell_keeps, cells_keep, records, table_in}
use Rattle.demands.proofs.Truths.{and_true, both}
use Rattle.demands.proofs.Answers.{none_some}
use Rattle.demands.proofs.TypeFacts.{type_back}

-- ---- a row

tag_below : (t : Ty) → tag t < 5
tag_below BOOL = lit< tt
tag_below INT = lit< tt
tag_below UINT = lit< tt
tag_below DINT = lit< tt
tag_below UDINT = lit< tt

-- the first record says f, where its operation has the form f
first_back : (k : ℕ) (f : Form) (t : Ty) (a b c n : ℕ) (rs : List ℕ) → get_elem? forms k ≡ some f
    → lines_of (suc n) ((8 * k + tag t) ∷ a ∷ b ∷ c ∷ rs) ≡ (lines_of n rs >>= λ ls. some (f t a b c ∷ ls))
unfolding lines_of
first_back k f t a b c n rs e =
    let q : (8 * k + tag t) / 8 ≡ k = omega (arith, tag_below t) in
    let r : (8 * k + tag t) % 8 ≡ tag t = omega (arith, tag_below t) in
    rw (q, e, r, type_back t)

operator_form : (o : Op) (t : Ty) (a b : Row) → get_elem? forms (operation (binary o t a b)) ≡ some (two o)
unfolding forms
operator_form Mul t a b = refl
operator_form Div t a b = refl
operator_form Mod t a b = refl
operator_form Add t a b = refl
operator_form Sub t a b = refl
operator_form Lt t a b = refl
operator_form Gt t a b = refl
operator_form Le t a b = refl
operator_form Ge t a b = refl
operator_form Eq t a b = refl
operator_form Ne t a b = refl
operator_form And t a b = refl
operator_form Xor t a b = refl
operator_form Or t a b = refl

-- a conversion has a number only to an integer type
conversion_form : (t u : Ty) (a : Row) → is_integer u ≡ true → get_elem? forms (operation (conversion t u a)) ≡ some (to u)
unfolding forms
conversion_form t BOOL a h = absurd (false≢true h)
conversion_form t INT a h = refl
conversion_form t UINT a h = refl
conversion_form t DINT a h = refl
conversion_form t UDINT a h = refl

-- the first record is the line's, where the line keeps rule 11
line_back : (is : List Info) (before : List Line) (l : Line) (n : ℕ) (rs : List ℕ) → line_keeps is before l ≡ true
    → lines_of (suc n) (record_of l ++ rs) ≡ (lines_of n rs >>= λ ls. some (l ∷ ls))
unfolding forms
line_back is before (number t v) n rs h = first_back 0 _ t v 0 0 n rs refl
line_back is before (read t c) n rs h = first_back 1 _ t c.0 0 0 n rs refl
line_back is before (minus t a) n rs h = first_back 2 _ t a.0 0 0 n rs refl
line_back is before (complement t a) n rs h = first_back 3 _ t a.0 0 0 n rs refl
line_back is before (binary o t a b) n rs h = first_back _ (two o) t a.0 b.0 0 n rs (operator_form o t a b)
line_back is before (conversion t u a) n rs h =
    let (types-fit, earlier) = and_true (is_integer t && is_integer u && not (same_ty t u)) (is_earlier before t a) h in
    let (integers, other) = and_true (is_integer t && is_integer u) (not (same_ty t u)) types-fit in
    first_back _ (to u) t a.0 0 0 n rs (conversion_form t u a (and_true (is_integer t) (is_integer u) integers).1)
line_back is before (select t c a b) n rs h = first_back 4 _ t c.0 a.0 b.0 n rs refl

rows_back : (is : List Info) (before ls : List Line) → lines_keep is before ls ≡ true → lines_of (length ls) (records ls) ≡ some ls
unfolding lines_keep lines_of records
rows_back is before [] h = refl
rows_back is before (l ∷ ls) h =
    let (first, rest) = and_true (line_keeps is before l) (lines_keep is (before ++ l ∷ []) ls) h in
    line_back is before l (length ls) (records ls) first ∙ rw (rows_back is (before ++ l ∷ []) ls rest)

-- ---- a cell

-- every cell has a row of its type
abbrev pub Standing : List Line → List Info → List Row → Type 0
Standing rs [] [] = Unit {0}
Standing rs [] (n ∷ ns) = ⊥
Standing rs (i ∷ is) [] = ⊥
Standing rs (i ∷ is) (n ∷ ns) = (is_earlier rs i.ty n ≡ true) × Standing rs is ns

-- the row that stands for a cell is of its type
pub standing_at : (rs : List Line) (is : List Info) (ns : List Row) (c : ℕ) (i : Info)
    → Standing rs is ns → get_elem? is c ≡ some i → is_earlier rs i.ty (get_or ns c (row 0)) ≡ true
standing_at rs [] [] c i h e = none_some e
standing_at rs [] (n ∷ ns) c i h e = absurd h
standing_at rs (j ∷ is) [] c i h e = absurd h
standing_at rs (j ∷ is) (n ∷ ns) zero i h e = let q : j ≡ i = cc in rw q at h.0
standing_at rs (j ∷ is) (n ∷ ns) (suc c) i h e = standing_at rs is ns c i h.1 e

-- an assignment puts a row of the cell's type there
pub standing_set : (rs : List Line) (is : List Info) (ns : List Row) (c : ℕ) (i : Info) (a : Row)
    → Standing rs is ns → get_elem? is c ≡ some i → is_earlier rs i.ty a ≡ true → Standing rs is (set ns c a)
standing_set rs [] [] c i a h e k = tt
standing_set rs [] (n ∷ ns) c i a h e k = absurd h
standing_set rs (j ∷ is) [] c i a h e k = absurd h
standing_set rs (j ∷ is) (n ∷ ns) zero i a h e k = let q : i ≡ j = cc in (rw q at k, h.1)
standing_set rs (j ∷ is) (n ∷ ns) (suc c) i a h e k = (h.0, standing_set rs is ns c i a h.1 e k)

-- what a cell's number holds: its type, whether it is an input, and else one more than its next row
cell_type : (t : Ty) (b : Bool) (n : ℕ) → (tag t + cond b 8 (16 * suc n)) % 8 ≡ tag t
cell_type t true n = omega (arith, tag_below t)
cell_type t false n = omega (arith, tag_below t)

cell_input : (t : Ty) (b : Bool) (n : ℕ) → eqb ((tag t + cond b 8 (16 * suc n)) / 8 % 2) 1 ≡ b
cell_input t true n = let q : (tag t + 8) / 8 % 2 ≡ 1 = omega (arith, tag_below t) in rw q
cell_input t false n = let q : (tag t + 16 * suc n) / 8 % 2 ≡ 0 = omega (arith, tag_below t) in rw q

input_next : (t : Ty) → (tag t + 8) / 16 ≡ 0
input_next t = omega (arith, tag_below t)

other_next : (t : Ty) (n : ℕ) → (tag t + 16 * suc n) / 16 ≡ suc n
other_next t n = omega (arith, tag_below t)

cells_back : (rs : List Line) (is : List Info) (ns : List Row) → Standing rs is ns → infos_of (cell_records is ns) ≡ some is
unfolding infos_of cell_records
cells_back rs [] [] h = refl
cells_back rs [] (n ∷ ns) h = absurd h
cells_back rs (i ∷ is) [] h = absurd h
cells_back rs (i ∷ is) (n ∷ ns) h =
    rw (cell_type i.ty i.is_input n.0, type_back i.ty, cells_back rs is ns h.1, cell_input i.ty i.is_input n.0)

-- there is a record for each cell
cells_all : (rs : List Line) (is : List Info) (ns : List Row) → Standing rs is ns
    → take (length is) (cell_records is ns) ≡ cell_records is ns
unfolding cell_records
cells_all rs [] [] h = refl
cells_all rs [] (n ∷ ns) h = absurd h
cells_all rs (i ∷ is) [] h = absurd h
cells_all rs (i ∷ is) (n ∷ ns) h = ap (λ xs. cell_record i n ∷ xs) (cells_all rs is ns h.1)

cell_keeps_lem : (rs : List Line) (t : Ty) (b : Bool) (n : Row) → is_earlier rs t n ≡ true
    → cell_keeps rs (record { ty = t; is_input = b }) (cell_record (record { ty = t; is_input = b }) n) ≡ true
cell_keeps_lem rs t true n h = rw (input_next t)
cell_keeps_lem rs t false n h = rw (other_next t n.0, eqb-suc-zero, sub-one, h)

cells_keep_lem : (rs : List Line) (is : List Info) (ns : List Row) → Standing rs is ns → cells_keep rs is (cell_records is ns) ≡ true
unfolding cell_records cells_keep
cells_keep_lem rs [] [] h = refl
cells_keep_lem rs [] (n ∷ ns) h = absurd h
cells_keep_lem rs (i ∷ is) [] h = absurd h
cells_keep_lem rs (i ∷ is) (n ∷ ns) h = both (cell_keeps_lem rs i.ty i.is_input n h.0) (cells_keep_lem rs is ns h.1)

-- ---- a table

-- what is read back: an input's next row may differ
abbrev pub back : Table → Table
back t = record { cells = t.cells; rows = t.rows; next = map next_of (cell_records t.cells t.next) }

pub table_back : (t : Table) → lines_keep t.cells [] t.rows ≡ true → Standing t.rows t.cells t.next
    → length t.cells ≤ 64 → length t.rows ≤ 3064 → table_in (lent_of t) ≡ some (back t)
unfolding table_in lent_of
table_back t k h c r =
    rw (
      table_in,
      le-leb (length t.cells) 64 c,
      le-leb (length t.rows) 3064 r,
      cells_all t.rows t.cells t.next h,
      cells_back t.rows t.cells t.next h,
      rows_back t.cells [] t.rows k,
      k,
      cells_keep_lem t.rows t.cells t.next h,
    )

-- the next row that is read back leaves the same next value
next_same : (b : Bool) (t : Ty) (vals : List ℕ) (n v : ℕ)
    → cond b v (get_or vals (next_of (tag t + cond b 8 (16 * suc n))).0 0) ≡ cond b v (get_or vals n 0)
next_same true t vals n v = refl
next_same false t vals n v = rw (other_next t n, sub-one)

state_same : (is : List Info) (vals : List ℕ) (ns : List Row) (s : State)
    → next_state is vals (map next_of (cell_records is ns)) s ≡ next_state is vals ns s
unfolding next_state cell_records
state_same [] vals ns s = refl
state_same (i ∷ is) vals [] s = refl
state_same (i ∷ is) vals (n ∷ ns) [] = refl
state_same (i ∷ is) vals (n ∷ ns) (v ∷ s) = ap₂ ◌∷◌ (next_same i.is_input i.ty vals n.0 v) (state_same is vals ns s)

pub run_same : (t : Table) (s : State) → run_table (back t) s ≡ run_table t s
unfolding run_table
run_same t s = state_same t.cells _ t.next s
