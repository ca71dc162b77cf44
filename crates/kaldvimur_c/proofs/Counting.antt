-- The answers with numbers in a lent buffer, which go behind a text's own refusals.
use mathlib.Core.List.{List, [], ◌∷◌}
use mathlib.Core.Path.{◌≡◌, refl, sym, ap, ap₂, ◌∙◌}
use Prim.Native.Nat.{ℕ, ◌≤◌, ◌<◌}
use native.Mathlib.Omega.{arith}
use borrow.Author.Tests.{le-leb, lt-leb}
use lib.IntN.{ℤ}
use lib.ListN.{length, set}
use Rattle.std.specs.Prelude.{Result, Ok, Err}
use Rattle.paper.specs.declared.Why.{Why}
use Rattle.paper.specs.declared.Why.TheVariants.{NoRoom}
use Rattle.paper.specs.declared.Accepted.{Accepted}
use Rattle.paper.specs.declared.Refusal.{Refusal}
use Rattle.paper.specs.Refusals.{Answer, refused, given, ◌>>=◌}
use Rattle.paper.specs.Tables.{Lent}
use Rattle.paper.specs.Judge.{Sound, judge, verdict, room, over, Scanned, scan_from, table_into}
use Rattle.lent.specs.Outcomes.{Outcome, left}
use Rattle.kaldvimur.specs.declared.tables.Sizes.{Sizes}
use Rattle.kaldvimur.specs.Scans.{state_of, ScanDid}
use Rattle.kaldvimur.specs.Tables.{TableDid}
use Rattle.kaldvimur_c.specs.Codes.{code_of, answered, Did}
use Rattle.kaldvimur_c.specs.Lending.{counting, too_short, numbers_of, accept_into, scan_into, table_with}
use Rattle.kaldvimur_c.proofs.Answers.{was_refused, was_given, verdict_is}
use Rattle.kaldvimur_c.proofs.Filling.{one_more}

module _ {A : Type 0} (f : A → Answer A) (old : A) where
  did : (o : Answer A) → f old ≡ o → (new : A) (r : ℕ) → r ≡ answered o → new ≡ left old o → Did f old new r
  did o e new r a l = record { answer = a ∙ ap answered (sym e); lent = l ∙ ap (left old) (sym e) }

  module _ (t : List ℕ) (n : ℕ) (counts : List ℕ) (o : Answer A) (is : f old ≡ counting t n counts o) where
    -- the numbers have no room
    pub short : length counts < n → (r : ℕ) → r ≡ answered (too_short t) → Did f old old r
    short h r a = go (judge t) is a
      where
        go : (j : Answer Sound) → f old ≡ (j >>= λ _. room n counts >>= λ _. o) → r ≡ answered {A = Unit {0}} (j >>= λ _. refused NoRoom 0) → Did f old old r
        go (refused w p) e a = did (refused w p) e old r a refl
        go (given x) e a = did (refused NoRoom 0) (e ∙ rw (lt-leb n (length counts) h)) old r a refl

    -- or they have
    long : n ≤ length counts → f old ≡ (judge t >>= λ _. o)
    long h = go (judge t) is
      where
        go : (j : Answer Sound) → f old ≡ (j >>= λ _. room n counts >>= λ _. o) → f old ≡ (j >>= λ _. o)
        go (refused w p) e = e
        go (given x) e = e ∙ rw (le-leb n (length counts) h)

-- the text's own refusal, else 10
pub no_room_refused : (t : List ℕ) {e : Refusal} {r : ℕ} → verdict t ≡ Err e → r ≡ code_of e.why e.place → r ≡ answered (too_short t)
no_room_refused t v h = h ∙ rw (was_refused _ (judge t) (sym (verdict_is t) ∙ v))

pub no_room_given : (t : List ℕ) {a : Accepted} {r : ℕ} → verdict t ≡ Ok a → r ≡ code_of NoRoom 0 → r ≡ answered (too_short t)
no_room_given t v h = h ∙ rw (was_given _ (judge t) (sym (verdict_is t) ∙ v)).1

-- a text is judged but once
once : {A B C : Type 0} (j : Answer A) (f : A → Answer B) (g : B → Answer C) → (j >>= λ _. j >>= f >>= g) ≡ (j >>= f >>= g)
once (refused w p) f g = refl
once (given a) f g = refl

-- ---- acceptance

module _ (t four : List ℕ) where
  abbrev numbered : Answer (List ℕ)
  numbered = given (over (numbers_of (verdict t)) four)

  accepts : accept_into t four ≡ counting t 4 four numbered
  unfolding accept_into
  accepts = refl

  pub accept_short : length four < 4 → (r : ℕ) → r ≡ answered (too_short t) → Did (accept_into t) four four r
  accept_short = short (accept_into t) four t 4 four numbered accepts

  module _ (h : 4 ≤ length four) where
    accept_is : (o : Answer Sound) → judge t ≡ o → accept_into t four ≡ (o >>= λ _. numbered)
    accept_is o e = long (accept_into t) four t 4 four numbered accepts h ∙ ap (λ (j : Answer Sound). j >>= λ _. numbered) e

    pub accept_refused : {e : Refusal} → verdict t ≡ Err e → (r : ℕ) → r ≡ code_of e.why e.place → Did (accept_into t) four four r
    accept_refused {e} v r a =
        did (accept_into t) four (refused e.why e.place)
        (accept_is (refused e.why e.place) (was_refused _ (judge t) (sym (verdict_is t) ∙ v))) four r a refl

    pub accept_given : {a : Accepted} → verdict t ≡ Ok a → Did (accept_into t) four (set (set (set (set four 0 a.cells) 1 a.weight) 2 a.figure) 3 a.length) 0
    accept_given {a} v =
        let (x, e, s) = was_given _ (judge t) (sym (verdict_is t) ∙ v) in
        did (accept_into t) four numbered (accept_is (given x) e) _ 0 refl
        (ap (λ (x : List ℕ). set (set (set x 1 a.weight) 2 a.figure) 3 a.length) (one_more [] a.cells four (omega arith))
        ∙ ap (λ (x : List ℕ). set (set x 2 a.figure) 3 a.length) (one_more (a.cells ∷ []) a.weight four (omega arith))
        ∙ ap (λ (x : List ℕ). set x 3 a.length) (one_more (a.cells ∷ a.weight ∷ []) a.figure four (omega arith))
        ∙ one_more (a.cells ∷ a.weight ∷ a.figure ∷ []) a.length four (omega arith)
        ∙ ap (λ (x : Result Accepted Refusal). over (numbers_of x) four) (sym v))

-- ---- a scan

module _ (t : List ℕ) (inputs old : List ℤ) (steps : List ℕ) where
  abbrev stepping : Answer Scanned → Answer (List ℤ × List ℕ)
  stepping o = o >>= λ s. given (s.state, over (s.steps ∷ []) steps)

  scans : scan_into t inputs (old, steps) ≡ counting t 1 steps (stepping (scan_from t old inputs))
  unfolding scan_into
  scans = refl

  pub scan_short : length steps < 1 → (r : ℕ) → r ≡ answered (too_short t) → Did (scan_into t inputs) (old, steps) (old, steps) r
  scan_short = short (scan_into t inputs) (old, steps) t 1 steps (stepping (scan_from t old inputs)) scans

  module _ (h : 1 ≤ length steps) {new : List ℤ} {x : Outcome} (d : ScanDid t inputs old new x) where
    scan_is : (o : Answer Scanned) → scan_from t old inputs ≡ o → scan_into t inputs (old, steps) ≡ stepping o
    unfolding scan_from
    scan_is o e =
        long (scan_into t inputs) (old, steps) t 1 steps (stepping (scan_from t old inputs)) scans h
        ∙ once (judge t) _ (λ s. given (s.state, over (s.steps ∷ []) steps))
        ∙ ap stepping e

    pub scan_refused : {e : Refusal} → x ≡ Err e → (r : ℕ) → r ≡ code_of e.why e.place → Did (scan_into t inputs) (old, steps) (new, steps) r
    scan_refused {e = refusal} u r a =
        let e = was_refused _ (scan_from t old inputs) (sym d.answer ∙ u) in
        did (scan_into t inputs) (old, steps) (refused refusal.why refusal.place) (scan_is (refused refusal.why refusal.place) e) (new, steps) r a
        (ap (λ (s : List ℤ). (s, steps)) (d.lent ∙ ap (λ (o : Answer Scanned). left old (state_of o)) e))

    pub scan_done : {n : ℕ} → x ≡ Ok n → Did (scan_into t inputs) (old, steps) (new, set steps 0 n) 0
    scan_done {n} u =
        let (s, e, k) = was_given _ (scan_from t old inputs) (sym d.answer ∙ u) in
        did (scan_into t inputs) (old, steps) (stepping (given s)) (scan_is (given s) e) (new, set steps 0 n) 0 refl
        (ap₂ (λ (y : List ℤ) (z : List ℕ). (y, z))
        (d.lent ∙ ap (λ (o : Answer Scanned). left old (state_of o)) e)
        (one_more [] n steps (omega arith) ∙ ap (λ (i : ℕ). over (i ∷ []) steps) k))

-- ---- a table

module _ (t rows cells two : List ℕ) where
  abbrev tabling : Answer Lent → Answer (List ℕ × List ℕ × List ℕ)
  tabling o = o >>= λ q. given (q.rows, q.cells, over (q.row_count ∷ q.cell_count ∷ []) two)

  tables : table_with t (rows, cells, two) ≡ counting t 2 two (tabling (table_into t rows cells))
  unfolding table_with
  tables = refl

  pub table_short : length two < 2 → (r : ℕ) → r ≡ answered (too_short t) → Did (table_with t) (rows, cells, two) (rows, cells, two) r
  table_short = short (table_with t) (rows, cells, two) t 2 two (tabling (table_into t rows cells)) tables

  module _ (h : 2 ≤ length two) {newRows newCells : List ℕ} {x : Result Sizes Refusal} (d : TableDid t rows cells newRows newCells x) where
    table_is : (o : Answer Lent) → table_into t rows cells ≡ o → table_with t (rows, cells, two) ≡ tabling o
    unfolding table_into
    table_is o e =
        long (table_with t) (rows, cells, two) t 2 two (tabling (table_into t rows cells)) tables h
        ∙ once (judge t) _ (λ q. given (q.rows, q.cells, over (q.row_count ∷ q.cell_count ∷ []) two))
        ∙ ap tabling e

    -- the buffers of the table itself
    lent_rows : (o : Answer Lent) → table_into t rows cells ≡ o → newRows ≡ left rows (o >>= λ q. given q.rows)
    lent_rows o e = d.rows ∙ ap (λ (o : Answer Lent). left rows (o >>= λ q. given q.rows)) e

    lent_cells : (o : Answer Lent) → table_into t rows cells ≡ o → newCells ≡ left cells (o >>= λ q. given q.cells)
    lent_cells o e = d.cells ∙ ap (λ (o : Answer Lent). left cells (o >>= λ q. given q.cells)) e

    pub table_refused : {e : Refusal} → x ≡ Err e → (r : ℕ) → r ≡ code_of e.why e.place → Did (table_with t) (rows, cells, two) (newRows, newCells, two) r
    table_refused {e = refusal} u r a =
        let e = was_refused _ (table_into t rows cells) (sym d.answer ∙ u) in
        did (table_with t) (rows, cells, two) (refused refusal.why refusal.place) (table_is (refused refusal.why refusal.place) e) (newRows, newCells, two) r a
        (rw (lent_rows (refused refusal.why refusal.place) e, lent_cells (refused refusal.why refusal.place) e))

    pub table_made : {z : Sizes} → x ≡ Ok z → Did (table_with t) (rows, cells, two) (newRows, newCells, set (set two 0 z.rows) 1 z.cells) 0
    table_made {z} u =
        let (q, e, s) = was_given _ (table_into t rows cells) (sym d.answer ∙ u) in
        let filled : set (set two 0 z.rows) 1 z.cells ≡ over (q.row_count ∷ q.cell_count ∷ []) two =
        ap (λ (y : List ℕ). set y 1 z.cells) (one_more [] z.rows two (omega arith))
        ∙ one_more (z.rows ∷ []) z.cells two (omega arith)
        ∙ ap (λ (y : Sizes). over (y.rows ∷ y.cells ∷ []) two) s in
        did (table_with t) (rows, cells, two) (tabling (given q)) (table_is (given q) e) (newRows, newCells, set (set two 0 z.rows) 1 z.cells) 0 refl
        (λ m. (lent_rows (given q) e m, lent_cells (given q) e m, filled m))
