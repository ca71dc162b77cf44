-- The table that is made keeps rule 11, and reads back from its lent form.
use mathlib.Core.Path.{◌≡◌, refl, ap}
use mathlib.Core.Bool.{Bool, true, false, not, ◌||◌, false≢true}
use mathlib.Core.Option.{some}
use mathlib.Core.List.{List, [], ◌∷◌, ◌++◌, append-nil}
use Prim.Native.Nat.{ℕ, zero, suc, ◌≤◌}
use borrow.Author.Tests.{lt-ltb}
use lib.ListN.{length}
use lib.Seq.{append_snoc}
use Rattle.paper.specs.declared.Ty.{Ty}
use Rattle.paper.specs.declared.Ty.TheVariants.{Bool as BOOL}
use Rattle.paper.specs.declared.Row.{Row}
use Rattle.paper.specs.Types.{encode, bit, divides}
use Rattle.paper.specs.Names.{Info}
use Rattle.paper.specs.Plain as P
use Rattle.paper.specs.Plain.{Stmts, State}
use Rattle.paper.specs.Tables.{Table, Line, number, read, minus, complement, binary, conversion, select, row, Made, Bound, push, expression_rows, merge_cell, merge, statement_rows, reads, rows_from, table_of, run_table, line_type, is_earlier, is_divisor, is_cell, line_keeps, lines_keep, table_in, lent_of}
use Rattle.demands.proofs.Truths.{and_true, both}
use Rattle.demands.proofs.Lists.{length_snoc, at_seam}
use Rattle.demands.proofs.TypeFacts.{same_refl}
use Rattle.demands.proofs.Typed.{NonZero, Typed, WellTyped}
use Rattle.paper.proofs.Residues.{encode_below, bit_below, encode_nonzero}
use Rattle.demands.proofs.Lent.{Standing, standing_at, standing_set, back, table_back, run_same}

-- ---- rows behind rows

-- a line is a row of its type
row_at : (rs : List Line) (l : Line) (more : List Line) → is_earlier (rs ++ l ∷ more) (line_type l) (row (length rs)) ≡ true
row_at rs l more = rw (is_earlier, at_seam rs l more) (same_refl (line_type l))

-- every row that is earlier in rs is so in qs
record Grows (rs qs : List Line) : Type 0 where
  still : (t : Ty) (a : Row) → is_earlier rs t a ≡ true → is_earlier qs t a ≡ true

stays : {rs : List Line} → Grows rs rs
stays = record { still = λ t a h. h }

further : {rs qs ps : List Line} → Grows rs qs → Grows qs ps → Grows rs ps
further g f = record { still = λ t a h. f.still t a (g.still t a h) }

append_still : (rs more : List Line) (t : Ty) (n : ℕ) → is_earlier rs t (row n) ≡ true → is_earlier (rs ++ more) t (row n) ≡ true
append_still [] more t n h = absurd (false≢true h)
append_still (l ∷ rs) more t zero h = h
append_still (l ∷ rs) more t (suc n) h = append_still rs more t n h

-- lines that keep the rule, and one more that does so behind them
snoc_keeps : (is : List Info) (before ls : List Line) (l : Line)
    → lines_keep is before ls ≡ true → line_keeps is (before ++ ls) l ≡ true → lines_keep is before (ls ++ l ∷ []) ≡ true
unfolding lines_keep
snoc_keeps is before [] l h k = both (rw append-nil at k) refl
snoc_keeps is before (x ∷ ls) l h k =
    let (first, rest) = and_true (line_keeps is before x) (lines_keep is (before ++ x ∷ []) ls) h in
    both first (snoc_keeps is (before ++ x ∷ []) ls l rest (rw (append_snoc before x ls) k))

-- ---- the rows of an expression

-- rows made from rs that keep the rule, and the row that stands for an expression is of the type t
record Stands (is : List Info) (rs : List Line) (t : Ty) (m : Made) : Type 0 where
  keeps : lines_keep is [] m.rows ≡ true
  grows : Grows rs m.rows
  typed : is_earlier m.rows t m.at ≡ true

-- a line that keeps the rule, put behind rows that do
push_stands : (is : List Info) (rs qs : List Line) (l : Line) (t : Ty)
    → Grows rs qs → lines_keep is [] qs ≡ true → line_keeps is qs l ≡ true → line_type l ≡ t → Stands is rs t (push qs l)
push_stands is rs qs l t g k h e =
    record {
      keeps = snoc_keeps is [] qs l k h;
      grows = further g (record { still = λ u a. append_still qs (l ∷ []) u a.0 });
      typed = rw e at (row_at qs l []);
    }

-- cells keep their rows
standing_grows : {rs qs : List Line} (is : List Info) (ns : List Row) → Grows rs qs → Standing rs is ns → Standing qs is ns
standing_grows [] [] g h = tt
standing_grows [] (n ∷ ns) g h = absurd h
standing_grows (i ∷ is) [] g h = absurd h
standing_grows (i ∷ is) (n ∷ ns) g h = (g.still i.ty n h.0, standing_grows is ns g h.1)

-- the row of a number that isn't zero is a divisor
nonzero_divisor : (env : List Row) (e : P.Expr) (rs : List Line) → NonZero e
    → is_divisor (expression_rows env e rs).rows (expression_rows env e rs).at ≡ true
unfolding expression_rows
nonzero_divisor env (P.number t z) rs h = rw (is_divisor, at_seam rs (number t (encode t z)) [], encode_nonzero t z h.1 h.0)
nonzero_divisor env (P.truth b) rs h = absurd h
nonzero_divisor env (P.read c) rs h = absurd h
nonzero_divisor env (P.minus t e) rs h = absurd h
nonzero_divisor env (P.complement e) rs h = absurd h
nonzero_divisor env (P.binary o t l r) rs h = absurd h
nonzero_divisor env (P.conversion t u e) rs h = absurd h

-- where d says that e is a divisor, its row is one
divisor_kept : (d : Bool) (env : List Row) (e : P.Expr) (rs : List Line) → (d ≡ true → NonZero e)
    → (not d || is_divisor (expression_rows env e rs).rows (expression_rows env e rs).at) ≡ true
divisor_kept true env e rs h = nonzero_divisor env e rs (h refl)
divisor_kept false env e rs h = refl

expression_stands : (is : List Info) (env : List Row) (e : P.Expr) (t : Ty) (rs : List Line)
    → Typed is e t → lines_keep is [] rs ≡ true → Standing rs is env → Stands is rs t (expression_rows env e rs)
unfolding expression_rows
expression_stands is env (P.number u z) t rs h k s =
    push_stands is rs rs (number u (encode u z)) t stays k (lt-ltb _ _ (encode_below u z)) h
expression_stands is env (P.truth b) t rs h k s =
    push_stands is rs rs (number BOOL (bit b)) t stays k (lt-ltb _ _ (bit_below b)) h
expression_stands is env (P.read c) t rs h k s =
    record { keeps = k; grows = stays; typed = rw h.2 at (standing_at rs is env c.0 h.0 s h.1) }
expression_stands is env (P.minus u e) t rs h k s =
    let x = expression_stands is env e u rs h.2 k s in
    push_stands is rs _ (minus u _) t x.grows x.keeps (both h.1 x.typed) h.0
expression_stands is env (P.complement e) t rs h k s =
    let x = expression_stands is env e BOOL rs h.1 k s in
    push_stands is rs _ (complement BOOL _) t x.grows x.keeps x.typed h.0
expression_stands is env (P.binary o u l r) t rs h k s =
    let m = expression_rows env l rs in
    let x = expression_stands is env l u rs h.2 k s in
    let y = expression_stands is env r u m.rows h.3 x.keeps (standing_grows is env x.grows s) in
    let d = divisor_kept (divides o) env r m.rows h.4 in
    push_stands is rs _ (binary o u m.at _) t (further x.grows y.grows) y.keeps
    (both (both (both h.1 (y.grows.still u m.at x.typed)) y.typed) d)
    h.0
expression_stands is env (P.conversion u v e) t rs h k s =
    let x = expression_stands is env e u rs h.4 k s in
    push_stands is rs _ (conversion u v _) t x.grows x.keeps
    (both (both (both h.1 h.2) (ap not h.3)) x.typed)
    h.0

-- ---- the rows of statements

-- rows made from rs that keep the rule, and every cell of ts has one of its type
record Stood (is ts : List Info) (rs : List Line) (m : Bound) : Type 0 where
  keeps : lines_keep is [] m.rows ≡ true
  grows : Grows rs m.rows
  stand : Standing m.rows ts m.env

behind : {is ts : List Info} {rs qs : List Line} {m : Bound} → Grows rs qs → Stood is ts qs m → Stood is ts rs m
behind g x = record { keeps = x.keeps; grows = further g x.grows; stand = x.stand }

cell_stands : (is : List Info) (w : Bool) (t : Ty) (c a b : Row) (rs : List Line)
    → lines_keep is [] rs ≡ true → is_earlier rs BOOL c ≡ true → is_earlier rs t a ≡ true → is_earlier rs t b ≡ true
    → Stands is rs t (merge_cell w t c a b rs)
cell_stands is true t c a b rs k hc ha hb = push_stands is rs rs (select t c a b) t stays k (both (both hc ha) hb) refl
cell_stands is false t c a b rs k hc ha hb = record { keeps = k; grows = stays; typed = ha }

merge_stands : (is : List Info) (w : ℕ → Bool) (i : ℕ) (c : Row) (ts : List Info) (xs ys : List Row) (rs : List Line)
    → lines_keep is [] rs ≡ true → is_earlier rs BOOL c ≡ true → Standing rs ts xs → Standing rs ts ys
    → Stood is ts rs (merge w i c ts xs ys rs)
unfolding merge
merge_stands is w i c [] xs ys rs k h hx hy = record { keeps = k; grows = stays; stand = tt }
merge_stands is w i c (t ∷ ts) [] ys rs k h hx hy = absurd hx
merge_stands is w i c (t ∷ ts) (a ∷ xs) [] rs k h hx hy = absurd hy
merge_stands is w i c (t ∷ ts) (a ∷ xs) (b ∷ ys) rs k h hx hy =
    let m = merge_cell (w i) t.ty c a b rs in
    let x = cell_stands is (w i) t.ty c a b rs k h hx.0 hy.0 in
    let y = merge_stands is w (suc i) c ts xs ys m.rows x.keeps (x.grows.still BOOL c h)
    (standing_grows ts xs x.grows hx.1)
    (standing_grows ts ys x.grows hy.1) in
    record {
      keeps = y.keeps;
      grows = further x.grows y.grows;
      stand = (y.grows.still t.ty m.at x.typed, y.stand);
    }

statements_stand : (is : List Info) (p : Stmts) (env : List Row) (rs : List Line)
    → WellTyped is p → lines_keep is [] rs ≡ true → Standing rs is env → Stood is is rs (statement_rows is p env rs)
unfolding statement_rows
statements_stand is P.done env rs h k s = record { keeps = k; grows = stays; stand = s }
statements_stand is (P.assign c e q) env rs h k s =
    let m = expression_rows env e rs in
    let i = h.0.0 in
    let x = expression_stands is env e i.ty rs h.0.2.1 k s in
    let s' = standing_set m.rows is env c.0 i m.at (standing_grows is env x.grows s) h.0.1 x.typed in
    behind x.grows (statements_stand is q _ m.rows h.1 x.keeps s')
statements_stand is (P.choice c a b q) env rs h k s =
    let l = expression_rows env c rs in
    let m = statement_rows is a env l.rows in
    let n = statement_rows is b env m.rows in
    let x = expression_stands is env c BOOL rs h.0 k s in
    let s₁ = standing_grows is env x.grows s in
    let y = statements_stand is a env l.rows h.1 x.keeps s₁ in
    let s₂ = standing_grows is env y.grows s₁ in
    let z = statements_stand is b env m.rows h.2 y.keeps s₂ in
    let t = z.grows.still BOOL l.at (y.grows.still BOOL l.at x.typed) in
    let v = merge_stands is _ 0 l.at is m.env n.env n.rows z.keeps t
    (standing_grows is m.env z.grows y.stand) z.stand in
    behind x.grows (behind y.grows (behind z.grows (behind v.grows (statements_stand is q _ _ h.3 v.keeps v.stand))))

-- ---- the rows that every table begins with

-- a cell's number is behind those before it
cell_at : (pre : List Info) (t : Info) (ts : List Info) → is_cell (pre ++ t ∷ ts) t.ty (record { 0 = length pre }) ≡ true
cell_at pre t ts = rw (is_cell, at_seam pre t ts) (same_refl t.ty)

reads_keep : (pre ts : List Info) (before : List Line) → lines_keep (pre ++ ts) before (reads (length pre) ts) ≡ true
unfolding reads lines_keep
reads_keep pre [] before = refl
reads_keep pre (t ∷ ts) before =
    let l = read t.ty (record { 0 = length pre }) in
    both (cell_at pre t ts)
    (rw (append_snoc pre t ts, length_snoc pre t) at (reads_keep (pre ++ t ∷ []) ts (before ++ l ∷ [])))

reads_stand : (before : List Line) (ts : List Info) → Standing (before ++ reads (length before) ts) ts (rows_from (length before) ts)
unfolding reads rows_from
reads_stand before [] = tt
reads_stand before (t ∷ ts) =
    let l = read t.ty (record { 0 = length before }) in (
      row_at before l (reads (suc (length before)) ts),
      rw (length_snoc before l, append_snoc before l (reads (suc (length before)) ts)) at (reads_stand (before ++ l ∷ []) ts),
    )

-- a table that reads back, up to what an input's next row says
pub record ReadsBack (t : Table) : Type 0 where
  pub table : Table
  pub is : table_in (lent_of t) ≡ some table
  pub same_cells : table.cells ≡ t.cells
  pub same_rows : table.rows ≡ t.rows
  pub same_run : (s : State) → run_table table s ≡ run_table t s

pub table_keeps : (is : List Info) (p : Stmts) → WellTyped is p
    → length is ≤ 64 → length (table_of is p).rows ≤ 3064
    → ReadsBack (table_of is p)
unfolding table_of
table_keeps is p h c r =
    let t = table_of is p in
    let x = statements_stand is p (rows_from 0 is) (reads 0 is) h (reads_keep [] is []) (reads_stand [] is) in
    record {
      table = back t;
      is = table_back t x.keeps x.stand c r;
      same_cells = refl;
      same_rows = refl;
      same_run = run_same t;
    }
