-- Room for a lent table, and the answers on it: 10, 11, and what is left to a scan.
use mathlib.Core.Bool.{Bool, true, false, not, cond, ◌&&◌}
use mathlib.Core.List.{List}
use mathlib.Core.Option.{Option, none, some}
use mathlib.Core.Path.{◌≡◌, refl, sym, ap, ◌∙◌}
use Prim.Native.Nat.{ℕ, ◌*◌, ◌≤◌, ◌<◌}
use native.Mathlib.Omega.{arith}
use borrow.Author.Tests.{leb-true, le-leb, lt-leb, not-true, not-false}
use lib.Dec.{leb}
use lib.IntN.{ℤ}
use lib.ListN.{length, take}
use lib.Seq.{length-take-le}
use Rattle.std.specs.Prelude.{Ok, Err}
use Rattle.paper.specs.declared.Why.TheVariants.{NoRoom, BadTable}
use Rattle.paper.specs.Refusals.{Answer, refused, given, refusal, ◌>>=◌}
use Rattle.paper.specs.Tables.{Table, Lent, table_in, total_in}
use Rattle.paper.specs.Judge.{room_for, ruled, scan_by, scan_lent, check_lent, scan_checked}
use Rattle.rows.specs.Lent.{lent, Answers}
use Rattle.rows.proofs.Total.{table_front}
use Rattle.lent.specs.Outcomes.{Outcome, outcome, left}
use Rattle.lent.specs.Tables.{lent_with, CheckDid, ScanDid}
use Rattle.lent.specs.Totals.{Scannable, Scans}
use Rattle.lent.proofs.Totals.{few}

-- ---- two tests for room

pub fits_both : (n l k m : ℕ) → n ≤ l → leb k m ≡ leb n l && leb k m
fits_both n l k m h = rw (le-leb n l h)

pub fits_not : (n l k m x y : ℕ) → l < n → y < x → leb x y ≡ leb n l && leb k m
fits_not n l k m x y h g = rw (lt-leb n l h, lt-leb x y g)

true_false : true ≡ false → ⊥
true_false e = let z : ◌≡◌ {A = ℕ} 0 1 = cc in omega arith

both_true : (a b : Bool) → a && b ≡ true → (a ≡ true) × (b ≡ true)
both_true true b e = (refl, e)
both_true false b e = absurd (true_false (sym e))

-- a test of two that was passed
pub have_room : {A B : Type 0} (xs : List A) (ys : List B) (n k : ℕ) (r : Bool) → r ≡ leb n (length xs) && leb k (length ys) → not r ≡ false
    → (n ≤ length xs) × (k ≤ length ys)
have_room xs ys n k r h e =
    let (p, q) = both_true (leb n (length xs)) (leb k (length ys)) (sym h ∙ not-false r e) in
    (leb-true n (length xs) p, leb-true k (length ys) q)

-- the test for room, once it is worked out
abbrev pub test : Bool → Answer (Unit {0})
test b = cond b (given tt) (refused NoRoom 0)

-- two tests in a row: one of them fails, or both are passed
pub no_room : {A : Type 0} (a b : Bool) (x : Answer A) → a && b ≡ false → (test a >>= λ _. test b >>= λ _. x) ≡ refused NoRoom 0
no_room true b x e = rw e
no_room false b x e = refl

pub has_room : {A : Type 0} (n l k m : ℕ) (x : Answer A) → n ≤ l → k ≤ m → (test (leb n l) >>= λ _. test (leb k m) >>= λ _. x) ≡ x
has_room n l k m x h g = rw (le-leb n l h, le-leb k m g)

-- a test with nothing behind it
ends : (b : Bool) → test b ≡ (test b >>= λ _. given tt)
ends true = refl
ends false = refl

-- ---- the table checked

-- the table that was read, or 11
abbrev as_table : Option Table → Answer Table
as_table o = elim o [ none ↦ refused BadTable 0 | some u ↦ given u ]

module _ (rs cs : List ℕ) (n k : ℕ) where
  pub check_no_room : (b : Bool) → b ≡ leb (4 * n) (length rs) && leb k (length cs) → not b ≡ true → (r : Outcome) → r ≡ Err (refusal NoRoom 0)
      → CheckDid (lent_with rs cs n k) r
  unfolding check_lent
  check_no_room b h e r is =
      is ∙ ap (outcome (λ _. k)) (sym (no_room (leb (4 * n) (length rs)) (leb k (length cs)) (ruled (lent_with rs cs n k) >>= λ u. given (tt {0})) (sym h ∙ not-true b e)))

  module _ (h : (4 * n ≤ length rs) × (k ≤ length cs)) where
    checked : check_lent (lent_with rs cs n k) ≡ (ruled (lent_with rs cs n k) >>= λ u. given (tt {0}))
    unfolding check_lent
    checked = has_room (4 * n) (length rs) k (length cs) (ruled (lent_with rs cs n k) >>= λ u. given (tt {0})) h.0 h.1

    outcome_is : (o : Option Table) → table_in (lent rs (take k cs) n) ≡ o
        → outcome (λ _. k) (check_lent (lent_with rs cs n k)) ≡ elim o [ none ↦ Err (refusal BadTable 0) | some u ↦ Ok k ]
    outcome_is o e =
        ap (outcome (λ _. k)) checked
        ∙ ap (λ (x : Option Table). outcome (λ _. k) (as_table x >>= λ u. given (tt {0}))) (table_front rs cs n k h.1 ∙ e)
        ∙ go o
      where
        go : (o : Option Table) → outcome (λ _. k) (as_table o >>= λ u. given (tt {0})) ≡ elim o [ none ↦ Err (refusal BadTable 0) | some u ↦ Ok k ]
        go none = refl
        go (some u) = refl

    -- the cells that count do not keep rule 11
    pub check_broken : (b : Bool) → Answers (table_in (lent rs (take k cs) n)) b → not b ≡ true → (r : Outcome) → r ≡ Err (refusal BadTable 0)
        → CheckDid (lent_with rs cs n k) r
    check_broken true a e r is = absurd (true_false (sym e))
    check_broken false a e r is = is ∙ sym (outcome_is none a)

    -- or they do
    pub check_kept : (b : Bool) → Answers (table_in (lent rs (take k cs) n)) b → not b ≡ false → CheckDid (lent_with rs cs n k) (Ok k)
    check_kept false a e = absurd (true_false e)
    check_kept true (u, a) e = sym (outcome_is (some u) a)

-- ---- a scan, by what is asked of the table

-- by the table that was read, or 11
abbrev asked : List ℤ → List ℤ → Option Table → Answer (List ℤ)
asked state inputs o = elim o [ none ↦ refused BadTable 0 | some u ↦ scan_by u state inputs ]

-- a scan that goes by a reading of the table
abbrev pub Reads : (Lent → List ℤ → List ℤ → Answer (List ℤ)) → (Lent → Option Table) → Type 0
Reads by read = (t : Lent) (state inputs : List ℤ) → by t state inputs ≡ (room_for t state inputs >>= λ fit. asked state inputs (read t))

pub reads_checked : Reads scan_checked total_in
unfolding scan_checked
reads_checked t state inputs = refl

pub reads_lent : Reads scan_lent table_in
unfolding scan_lent
reads_lent t state inputs = ap (λ (x : Answer (List ℤ)). room_for t state inputs >>= λ fit. x) (go (table_in t))
  where
    go : (o : Option Table) → (as_table o >>= λ u. scan_by u state inputs) ≡ asked state inputs o
    go none = refl
    go (some u) = refl

module _ (by : Lent → List ℤ → List ℤ → Answer (List ℤ)) (read : Lent → Option Table) (reads : Reads by read) (rs cs : List ℕ) (n k : ℕ) (inputs old : List ℤ) where
  abbrev t : Lent
  t = lent_with rs cs n k

  answers : (x : Answer (List ℤ)) → by t old inputs ≡ x → (new : List ℤ) (r : Outcome) → r ≡ outcome (λ _. k) x → new ≡ left old x → ScanDid by t inputs old new r
  answers x e new r a l = record { answer = a ∙ ap (outcome (λ _. k)) (sym e); lent = l ∙ ap (left old) (sym e) }

  behind : (x : Answer (Unit {0})) → room_for t old inputs ≡ x → by t old inputs ≡ (x >>= λ fit. asked old inputs (read t))
  behind x e = reads t old inputs ∙ ap (λ (y : Answer (Unit {0})). y >>= λ fit. asked old inputs (read t)) e

  -- no room in the table's own buffers
  pub scan_no_room : (b : Bool) → b ≡ leb (4 * n) (length rs) && leb k (length cs) → not b ≡ true → (r : Outcome) → r ≡ Err (refusal NoRoom 0)
      → ScanDid by t inputs old old r
  scan_no_room b h e r is =
      let none : room_for t old inputs ≡ refused NoRoom 0 =
      no_room (leb (4 * n) (length rs)) (leb k (length cs)) (test (leb k (length old)) >>= λ _. test (leb k (length inputs))) (sym h ∙ not-true b e) in
      answers (refused NoRoom 0) (behind (refused NoRoom 0) none) old r is refl

  module _ (h : (4 * n ≤ length rs) × (k ≤ length cs)) where
    lies : room_for t old inputs ≡ (test (leb k (length old)) >>= λ _. test (leb k (length inputs)) >>= λ _. given tt)
    lies =
        has_room (4 * n) (length rs) k (length cs) (test (leb k (length old)) >>= λ _. test (leb k (length inputs))) h.0 h.1
        ∙ ap (λ (x : Answer (Unit {0})). test (leb k (length old)) >>= λ _. x) (ends (leb k (length inputs)))

    -- none in the state or the inputs
    pub scan_no_values : (b : Bool) → b ≡ leb k (length old) && leb k (length inputs) → not b ≡ true → (r : Outcome) → r ≡ Err (refusal NoRoom 0)
        → ScanDid by t inputs old old r
    scan_no_values b g e r is =
        let none : room_for t old inputs ≡ refused NoRoom 0 = lies ∙ no_room (leb k (length old)) (leb k (length inputs)) (given tt) (sym g ∙ not-true b e) in
        answers (refused NoRoom 0) (behind (refused NoRoom 0) none) old r is refl

    module _ (g : (k ≤ length old) × (k ≤ length inputs)) (front : read t ≡ read (lent rs (take k cs) n)) where
      asks : (o : Option Table) → read (lent rs (take k cs) n) ≡ o → by t old inputs ≡ asked old inputs o
      asks o e =
          behind (given tt) (lies ∙ has_room k (length old) k (length inputs) (given tt) g.0 g.1)
          ∙ ap (λ (y : Option Table). asked old inputs y) (front ∙ e)

      -- no table can be read
      pub scan_broken : (b : Bool) → Answers (read (lent rs (take k cs) n)) b → not b ≡ true → (r : Outcome) → r ≡ Err (refusal BadTable 0)
          → ScanDid by t inputs old old r
      scan_broken true a e r is = absurd (true_false (sym e))
      scan_broken false a e r is = answers (refused BadTable 0) (asks none a) old r is refl

      -- the scan by the one that is read
      pub scan_goes : (b : Bool) → Answers (read (lent rs (take k cs) n)) b → not b ≡ false
          → ((u : Table) → read (lent rs (take k cs) n) ≡ some u → total_in (lent rs (take k cs) n) ≡ some u)
          → (new : List ℤ) (r : Outcome) → Scans rs (take k cs) n inputs old new r → ScanDid by t inputs old new r
      scan_goes false a e whole new r d = absurd (true_false e)
      scan_goes true (u, s) e whole new r d =
          let did = d u (whole u s) in
          let count : length (take k cs) ≡ k = length-take-le k cs h.1 in
          answers (scan_by u old inputs) (asks (some u) s) new r (did.answer ∙ ap (λ m. outcome (λ _. m) (scan_by u old inputs)) count) did.lent

-- ---- what a scan may count on

-- of a reading that is at most the total one
pub scannable : (read : Lent → Option Table) → ((t : Lent) (u : Table) → read t ≡ some u → total_in t ≡ some u)
    → (rs cs : List ℕ) (n k : ℕ) (inputs old : List ℤ) → (4 * n ≤ length rs) × (k ≤ length cs) → (k ≤ length old) × (k ≤ length inputs)
    → (b : Bool) → Answers (read (lent rs (take k cs) n)) b → not b ≡ false → Scannable rs (take k cs) n inputs old
scannable read whole rs cs n k inputs old h g false a e = absurd (true_false e)
scannable read whole rs cs n k inputs old h g true (u, s) e =
    let count : length (take k cs) ≡ k = length-take-le k cs h.1 in
    let (c, r) = few rs (take k cs) n u (whole (lent rs (take k cs) n) u s) in
    record { rows = h.0; few = r; cells = c; state = omega (arith, g.0); readings = omega (arith, g.1) }
