-- Places leave a code's number as it is, and the numbers that C is told are small.
use mathlib.Core.Bool.{Bool, true, false, cond}
use mathlib.Core.Option.{Option, none, some}
use mathlib.Core.List.{List}
use mathlib.Core.Path.{◌≡◌, refl, subst}
use Prim.Native.Nat.{ℕ, ◌+◌, ◌*◌, ◌≤◌, ◌<◌}
use native.Mathlib.Omega.{arith}
use lib.Dec.{leb}
use lib.IntN.{ℤ}
use lib.ListN.{length}
use Rattle.std.specs.Prelude.{Result, Ok, Err}
use Rattle.paper.specs.declared.Why.{Why}
use Rattle.paper.specs.declared.Why.TheVariants.{NoRoom, BadTable, BadValue}
use Rattle.paper.specs.declared.Accepted.{Accepted}
use Rattle.paper.specs.declared.Refusal.{Refusal}
use Rattle.paper.specs.Refusals.{Answer, refused, given, ◌>>=◌}
use Rattle.paper.specs.Plain.{figure}
use Rattle.paper.specs.Tables.{Table, Lent, table_of, lent_of, table_in}
use Rattle.paper.specs.Judge as J
use Rattle.paper.specs.Judge.{Sound, judge, verdict_on, verdict, print_of, print_into, start_into, scan_plain, scan_from, table_of_sound, table_into, scan_by, check_lent}
use Rattle.demands.proofs.Accepted.{accepted}
use Rattle.demands.proofs.Cells.{few_cells}
use Rattle.demands.proofs.Placed.{Answers, stopped, gave, refused_at, given_at, Any, then}
use Rattle.demands.proofs.Places.{place_within}
use Rattle.demands.proofs.PlainRuns.{run_steps}
use Rattle.demands.proofs.Prints.{short_print, few_steps}
use Rattle.demands.proofs.Theorem.{walk_means}
use Rattle.lent.proofs.Checking.{Reads}
use Rattle.kaldvimur.proofs.Tabling.{few_rows}

-- ---- answers

abbrev pub Low : ℕ → Type 0
Low p = p < 65536

zero : Low 0
zero = omega arith

-- a stage behind a test
tested : {A : Type 0} {Q : A → Type 0} {o : Answer A} (w : Why) (b : Bool) → Answers Low Q o
    → Answers Low Q (cond b (given (tt {0})) (refused w 0) >>= λ _. o)
tested w true h = h
tested w false h = stopped zero

-- what is known once the answer is
pub place : {A : Type 0} {Q : A → Type 0} {o : Answer A} {w : Why} {p : ℕ} → Answers Low Q o → o ≡ refused w p → p < 65536
place {Q = Q} {w = w} {p = p} h e = refused_at w p (subst (Answers Low Q) e h)

pub value : {A : Type 0} {Q : A → Type 0} {o : Answer A} {x : A} → Answers Low Q o → o ≡ given x → Q x
value {Q = Q} {x = x} h e = given_at x (subst (Answers Low Q) e h)

-- ---- a text

-- the four numbers of acceptance
pub record Numbers (a : Accepted) : Type 0 where
  pub cells : a.cells ≤ 64
  pub weight : a.weight ≤ 3000
  pub figure : a.figure ≤ 3000
  pub length : a.length ≤ 2000000

pub record Small (a : Sound) : Type 0 where
  pub numbers : Numbers (J.accepted a)
  pub rows : (lent_of (table_of_sound a)).row_count ≤ 3064

light : (t : List ℕ) (a : Sound) → judge t ≡ given a → (length a.cells ≤ 64) × (a.weight ≤ 3000)
light t a h =
    let k = accepted t a h in
    subst (λ (b : Sound). (length b.cells ≤ 64) × (b.weight ≤ 3000)) k.is
    (few_cells k.program.declared k.declared, (walk_means t a k).light (omega arith))

pub judged : (t : List ℕ) → Answers Low Small (judge t)
judged t = go (judge t) refl
  where
    go : (o : Answer Sound) → judge t ≡ o → Answers Low Small o
    go (refused w p) e = stopped {p = p} (omega (arith, (place_within t w p e).in_limit))
    go (given a) e =
        let l = light t a e in
        gave (record {
          numbers = record { cells = l.0; weight = l.1; figure = few_steps t a e; length = short_print t a e };
          rows = omega (arith, few_rows t a e, l.0, l.1);
        })

-- of a verdict
abbrev Told : Result Accepted Refusal → Type 0
Told (Err e) = Low e.place
Told (Ok a) = Numbers a

pub verdict_told : (t : List ℕ) {v : Result Accepted Refusal} → verdict t ≡ v → Told v
unfolding verdict
verdict_told t e = subst Told e (go (judged t))
  where
    go : {o : Answer Sound} → Answers Low Small o → Told (verdict_on o)
    go (stopped h) = h
    go (gave s) = s.numbers

pub printed : (t old : List ℕ) → Answers Low Any (print_into t old)
unfolding print_into
printed t old = then (judged t) λ a s. tested NoRoom (leb (length (print_of a)) (length old)) (gave tt)

pub begun : (t : List ℕ) (old : List ℤ) → Answers Low Any (start_into t old)
unfolding start_into
begun t old = then (judged t) λ a s. tested NoRoom (leb (length a.cells) (length old)) (gave tt)

pub scanned : (t : List ℕ) (old inputs : List ℤ) → Answers Low (λ s. s.steps ≤ 3000) (scan_from t old inputs)
unfolding scan_from scan_plain
scanned t old inputs =
    then (judged t) λ a s.
    let n = length a.cells in
    let steps = run_steps a.plain (J.started a (J.held a.cells inputs) (J.held a.cells old)) in
    tested NoRoom (leb n (length old))
    (tested NoRoom (leb n (length inputs))
    (tested BadValue (J.all_fit a.cells old inputs) (gave (omega (arith, s.numbers.figure, steps)))))

pub tabled : (t rows cells : List ℕ) → Answers Low (λ q. (q.row_count ≤ 3064) × (q.cell_count ≤ 64)) (table_into t rows cells)
unfolding table_into lent_of table_of_sound table_of
tabled t rows cells =
    then (judged t) λ a s.
    tested NoRoom (leb (4 * (a.weight + length a.cells)) (length rows))
    (tested NoRoom (leb (length a.cells) (length cells)) (gave (s.rows, s.numbers.cells)))

-- ---- a table

pub checked : (t : Lent) → Answers Low Any (check_lent t)
unfolding check_lent
checked t =
    tested NoRoom (leb (4 * t.row_count) (length t.rows))
    (tested NoRoom (leb t.cell_count (length t.cells))
    (go (table_in t)))
  where
    go : (o : Option Table) → Answers Low Any (◌>>=◌ {A = Table} (elim o [ none ↦ refused BadTable 0 | some u ↦ given u ]) λ u. given (tt {0}))
    go none = stopped zero
    go (some u) = gave tt

-- a scan, by what is asked of the table
module _ (by : Lent → List ℤ → List ℤ → Answer (List ℤ)) (read : Lent → Option Table) (reads : Reads by read) where
  pub scanned_by : (t : Lent) (state inputs : List ℤ) → Answers Low Any (by t state inputs)
  scanned_by t state inputs =
      rw (reads t state inputs)
      (then
      (tested NoRoom (leb (4 * t.row_count) (length t.rows))
      (tested NoRoom (leb t.cell_count (length t.cells))
      (tested NoRoom (leb t.cell_count (length state)) (roomy (leb t.cell_count (length inputs))))))
      λ u s. go (read t))
    where
      roomy : (b : Bool) → Answers Low Any (cond b (given (tt {0})) (refused NoRoom 0))
      roomy true = gave tt
      roomy false = stopped zero

      go : (o : Option Table) → Answers Low {A = List ℤ} Any (elim o [ none ↦ refused BadTable 0 | some u ↦ scan_by u state inputs ])
      go none = stopped zero
      go (some u) = tested BadValue (J.all_fit u.cells state inputs) (gave tt)
