-- A scan by the text and one by its table refuse alike and leave the same state, and so do runs of them.
use mathlib.Core.Bool.{Bool, true, false, cond}
use mathlib.Core.List.{List, [], ◌∷◌}
use mathlib.Core.Option.{Option, none, some}
use mathlib.Core.Path.{◌≡◌, refl, sym, ap, ap₂, ◌∙◌, subst}
use Prim.Native.Nat.{ℕ, ◌*◌, ◌≤◌}
use native.Mathlib.Omega.{arith}
use borrow.Author.Tests.{leb-true, le-leb}
use lib.Dec.{leb}
use lib.IntN.{ℤ}
use lib.ListN.{length}
use Rattle.paper.specs.declared.Why.{Why}
use Rattle.paper.specs.declared.Why.TheVariants.{NoRoom, BadTable, BadValue}
use Rattle.paper.specs.Names.{Info}
use Rattle.paper.specs.Plain.{State}
use Rattle.paper.specs.Refusals.{Answer, refused, given, ◌>>=◌}
use Rattle.paper.specs.Tables.{Table, Lent}
use Rattle.paper.specs.Judge.{Scanned, held, lent, over, room, valued, all_fit, scan_plain, scan_table, scan_from, room_for, scan_by, scan_lent, scan_checked, run_plain, run_by_table}
use Rattle.paper.proofs.Residues.{encode_below}
use Rattle.demands.specs.InTypes.{InTypes, ReadingsIn}
use Rattle.demands.specs.Demand3.{states}
use Rattle.demands.proofs.Theorem.{demand_3}
use Rattle.rows.proofs.Total.{total}
use Rattle.lent.specs.Outcomes.{Outcome, left}
use Rattle.lent.specs.Tables as Tables
use Rattle.lent.specs.Tables.{lent_with}
use Rattle.kaldvimur.specs.Scans as Text
use Rattle.kaldvimur.specs.Scans.{state_of}
use Rattle.kaldvimur.specs.Agreement.{Runs, ended, goes, AgreeForAll}
use Rattle.kaldvimur.proofs.Lending.{Lends, lends}

-- ---- values as held

held_in : (is : List Info) (zs : List ℤ) → length is ≤ length zs → InTypes is (held is zs)
unfolding held
held_in [] zs h = tt
held_in (i ∷ is) [] h = absurd (omega arith)
held_in (i ∷ is) (z ∷ zs) h = (encode_below i.ty z, held_in is zs (omega arith))

readings_in : (is : List Info) (xs : State) → InTypes is xs → ReadingsIn is xs
readings_in [] xs h = tt
readings_in (i ∷ is) [] h = absurd h
readings_in (i ∷ is) (x ∷ xs) h = (λ _. h.0, readings_in is xs h.1)

-- ---- one scan

-- the state and the inputs have k places
abbrev both_room : ℕ → List ℤ → List ℤ → Answer (Unit {0})
both_room k s x = room k s >>= λ _. room k x

-- a table that is there asks no more
own_room : (q : Lent) (k : ℕ) (s x : List ℤ) → 4 * q.row_count ≤ length q.rows → q.cell_count ≤ length q.cells → q.cell_count ≡ k
    → room_for q s x ≡ both_room k s x
own_room q k s x r c e =
    rw (le-leb (4 * q.row_count) (length q.rows) r, le-leb q.cell_count (length q.cells) c, e)

-- a test that is asked for, or the refusal w
abbrev asked : Why → Bool → Answer (Unit {0})
asked w b = cond b (given tt) (refused w 0)

-- the same tests before either state is left
tests : (b c d : Bool) (new : List ℤ) (r : Scanned) → (b ≡ true → c ≡ true → new ≡ r.state)
    → (asked NoRoom b >>= (λ _. asked NoRoom c) >>= λ _. asked BadValue d >>= λ _. given new)
    ≡ state_of (asked NoRoom b >>= λ _. asked NoRoom c >>= λ _. asked BadValue d >>= λ _. given r)
tests true true true new r h = ap given (h refl refl)
tests true true false new r h = refl
tests true false d new r h = refl
tests false c d new r h = refl

module _ (t : List ℕ) (q : Lent) (l : Lends t q) where
  abbrev is : List Info
  is = l.program.cells

  values_same : (s x : List ℤ) → length is ≤ length s → length is ≤ length x
      → scan_table l.table (held is x) (held is s) ≡ (scan_plain l.program (held is x) (held is s)).state
  unfolding run_by_table run_plain states
  values_same s x hs hx =
      let d = demand_3 t l.program l.judged (held is s) (held_in is s hs)
      (held is x ∷ []) (readings_in is (held is x) (held_in is x hx), tt) in
      let same : d.table ≡ l.table = cc (d.keeps_rule_11, l.own) in
      let first : scan_table d.table (held is x) (held is s) ≡ (scan_plain l.program (held is x) (held is s)).state = cc d.by_table in
      rw same at first

  -- by the table that was read: after the tests of room, with the cells `js`
  abbrev read : Answer (Unit {0}) → List Info → List ℤ → List ℤ → Answer (List ℤ)
  read fit js s x =
      fit >>= λ _.
      valued js s x >>= λ _.
      given (over (lent js (scan_table l.table (held js x) (held js s))) s)

  own_cells : (s x : List ℤ) → read (both_room (length is) s x) is s x ≡ state_of (scan_from t s x)
  unfolding scan_from
  own_cells s x =
      let r = scan_plain l.program (held is x) (held is s) in
      rw (l.judged, scan_from)
      (tests (leb (length is) (length s)) (leb (length is) (length x)) (all_fit is s x)
      (over (lent is (scan_table l.table (held is x) (held is s))) s)
      (record { state = over (lent is r.state) s; steps = r.steps })
      (λ b c. ap (λ (v : State). over (lent is v) s) (values_same s x (leb-true (length is) (length s) b) (leb-true (length is) (length x) c))))

  read_same : (s x : List ℤ) → read (room_for q s x) l.table.cells s x ≡ state_of (scan_from t s x)
  read_same s x =
      ap₂ (λ (fit : Answer (Unit {0})) (js : List Info). read fit js s x)
      (own_room q (length is) s x l.rows_fit l.cells_fit l.count)
      l.same_cells
      ∙ own_cells s x

  by_table : (s x : List ℤ) → scan_lent q s x ≡ state_of (scan_from t s x)
  unfolding scan_lent
  by_table s x =
      ap
      (λ (o : Option Table).
      room_for q s x >>= λ fit. elim o as (λ _. Answer Table) [ none ↦ refused BadTable 0 | some u ↦ given u ] >>= λ u. scan_by u s x)
      l.reads
      ∙ read_same s x

  checked : (s x : List ℤ) → scan_checked q s x ≡ state_of (scan_from t s x)
  unfolding scan_checked
  checked s x =
      ap
      (λ (o : Option Table).
      room_for q s x >>= λ fit. elim o as (λ _. Answer (List ℤ)) [ none ↦ refused BadTable 0 | some u ↦ scan_by u s x ])
      (total q l.table l.reads)
      ∙ read_same s x

-- ---- a run

module _ (D E : List ℤ → List ℤ → List ℤ → Outcome → Type 0) where
  -- where every scan leaves the same state, so does a run
  runs_same : ((x s n m : List ℤ) (p r : Outcome) → D x s n p → E x s m r → n ≡ m)
      → {xs : List (List ℤ)} {s : List ℤ} {ps qs : List (List ℤ)} → Runs D xs s ps → Runs E xs s qs → ps ≡ qs
  runs_same f ended ended = refl
  runs_same f (goes {x} {xs} {s} {n} {ns} p d more) (goes {n = m} {ns = ms} r e rest) =
      let same : n ≡ m = f x s n m p r d e in
      ap₂ ◌∷◌ same (runs_same f more (subst (λ (k : List ℤ). Runs E xs k ms) (sym same) rest))

module _ (t : List ℕ) (q : Lent) (by : Lent → List ℤ → List ℤ → Answer (List ℤ))
    (h : (s x : List ℤ) → by q s x ≡ state_of (scan_from t s x)) where
  states_same : (x s n m : List ℤ) (p r : Outcome) → Text.ScanDid t x s n p → Tables.ScanDid by q x s m r → n ≡ m
  states_same x s n m p r d e = d.lent ∙ ap (left s) (sym (h s x)) ∙ sym e.lent

pub agree : AgreeForAll
agree t oldRows oldCells rows cells n k d xs s =
    let q = lent_with rows cells n k in
    let l = lends t oldRows oldCells rows cells n k d in
    record {
      by_table = λ ps qs. runs_same (Text.ScanDid t) (Tables.ScanDid scan_lent q) (states_same t q scan_lent (by_table t q l));
      checked = λ ps qs. runs_same (Text.ScanDid t) (Tables.ScanDid scan_checked q) (states_same t q scan_checked (checked t q l));
    }
