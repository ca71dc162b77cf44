-- The table that was left in the lent buffers reads back as that of the accepted program.
use mathlib.Core.Bool.{Bool, true, false}
use mathlib.Core.List.{List}
use mathlib.Core.Option.{some}
use mathlib.Core.Path.{◌≡◌, refl, ap, ◌∙◌, subst}
use Prim.Native.Nat.{ℕ, ◌+◌, ◌*◌, ◌≤◌}
use native.Mathlib.Omega.{arith}
use borrow.Author.Tests.{leb-true}
use lib.Dec.{leb}
use lib.ListN.{length, drop}
use Rattle.std.specs.Prelude.{Ok}
use Rattle.paper.specs.Names.{variables_of, cells_of}
use Rattle.paper.specs.Plain.{weight}
use Rattle.paper.specs.Refusals.{Answer, refused, given, ◌>>=◌}
use Rattle.paper.specs.Tables.{Table, Lent, table_of, lent_of, table_in}
use Rattle.paper.specs.Judge.{Sound, judge, room, over, table_of_sound, table_into}
use Rattle.demands.proofs.Accepted.{accepted}
use Rattle.demands.proofs.Answers.{refused_given, given_same, bind_given}
use Rattle.demands.proofs.Cells.{few_cells}
use Rattle.demands.proofs.Rows.{table_few}
use Rattle.demands.proofs.Rule11.{ReadsBack, table_keeps}
use Rattle.demands.proofs.Theorem.{walk_means}
use Rattle.lent.specs.Outcomes.{outcome, left}
use Rattle.lent.specs.Tables.{lent_with}
use Rattle.kaldvimur.specs.declared.tables.Sizes.{Sizes}
use Rattle.kaldvimur.specs.Tables.{sized, TableDid}
use Rattle.kaldvimur.proofs.Longer.{over_long, cells_there, longer}

-- ---- the program's own table

record Backs (a : Sound) : Type 0 where
  own : ReadsBack (table_of_sound a)
  few : length (table_of_sound a).rows ≤ a.weight + length a.cells

backs : (t : List ℕ) (a : Sound) → judge t ≡ given a → Backs a
unfolding table_of_sound
backs t a h =
    let k = accepted t a h in
    let ds = k.program.declared in
    let is = cells_of (variables_of ds) in
    let p = k.walked.plain in
    let means = walk_means t a k in
    let weighed : k.walked.weight ≡ weight (length is) p = means.weighed ∙ omega arith in
    let light : k.walked.weight ≤ 3000 = means.light (omega arith) in
    let cells = few_cells ds k.declared in
    let rows = table_few is p in
    subst Backs k.is
    (record { own = table_keeps is p means.typed cells (omega (arith, weighed, light, cells, rows)); few = omega (arith, weighed, rows) })

-- ---- as lent

-- a lent table, and the accepted program whose table it says
pub record Lends (t : List ℕ) (q : Lent) : Type 0 where
  pub program : Sound
  pub judged : judge t ≡ given program
  pub table : Table
  pub own : table_in (lent_of (table_of_sound program)) ≡ some table
  pub same_cells : table.cells ≡ program.cells
  pub reads : table_in q ≡ some table
  pub count : q.cell_count ≡ length program.cells
  pub rows_fit : 4 * q.row_count ≤ length q.rows
  pub cells_fit : q.cell_count ≤ length q.cells

-- the buffers with the program's table in front
abbrev into : Sound → List ℕ → List ℕ → Lent
into a rows cells =
    let t = lent_of (table_of_sound a) in
    lent_with (over t.rows rows) (over t.cells cells) t.row_count t.cell_count

lends_into : (t : List ℕ) (a : Sound) (rows cells : List ℕ) → judge t ≡ given a
    → 4 * (a.weight + length a.cells) ≤ length rows → length a.cells ≤ length cells → Lends t (into a rows cells)
unfolding lent_of table_of_sound table_of
lends_into t a rows cells h r c =
    let b = backs t a h in
    let u = b.own.table in
    let q = lent_of (table_of_sound a) in
    let few = b.few in
    let there = cells_there q.rows q.cells q.row_count q.cell_count u b.own.is (rw b.own.same_cells) in
    let rows_long = over_long q.rows rows in
    let cells-long = over_long q.cells cells in
    record {
      program = a;
      judged = h;
      table = u;
      own = b.own.is;
      same_cells = b.own.same_cells;
      reads = longer q.rows q.cells q.row_count q.cell_count u b.own.is (drop (length q.rows) rows) (drop (length q.cells) cells) there;
      count = refl;
      rows_fit = omega (arith, few, r, rows_long);
      cells_fit = omega (arith, c, cells-long);
    }

-- ---- as made

room_there : {A : Type 0} (n : ℕ) (buffer : List A) (x : Unit {0}) → room n buffer ≡ given x → n ≤ length buffer
room_there n buffer x h = leb-true n (length buffer) (go (leb n (length buffer)) refl)
  where
    go : (b : Bool) → leb n (length buffer) ≡ b → leb n (length buffer) ≡ true
    go true e = e
    go false e = refused_given (rw (e, room) at h)

into_given : (t rows cells : List ℕ) (q : Lent) → table_into t rows cells ≡ given q → Lends t q
unfolding table_into
into_given t rows cells q e =
    let celled : Sound → Answer Lent = λ a. room (length a.cells) cells >>= λ _. given (into a rows cells) in
    let rowed : Sound → Answer Lent = λ a. room (4 * (a.weight + length a.cells)) rows >>= λ _. celled a in
    let (a, judged, h₁) = bind_given (judge t) rowed q e in
    let (x, r, h₂) = bind_given (room (4 * (a.weight + length a.cells)) rows) (λ _. celled a) q h₁ in
    let (y, c, h₃) = bind_given (room (length a.cells) cells) (λ _. given (into a rows cells)) q h₂ in
    subst (Lends t) (given_same h₃)
    (lends_into t a rows cells judged (room_there (4 * (a.weight + length a.cells)) rows x r) (room_there (length a.cells) cells y c))

-- what `table` left, where it made one
pub lends : (t oldRows oldCells rows cells : List ℕ) (n k : ℕ) → TableDid t oldRows oldCells rows cells (Ok (sized n k)) → Lends t (lent_with rows cells n k)
lends t oldRows oldCells rows cells n k d =
    into_given t oldRows oldCells (lent_with rows cells n k) (go (table_into t oldRows oldCells) d.answer d.rows d.cells)
  where
    go : (o : Answer Lent)
        → Ok (sized n k) ≡ outcome (λ x. sized x.row_count x.cell_count) o
        → rows ≡ left oldRows (o >>= λ x. given x.rows)
        → cells ≡ left oldCells (o >>= λ x. given x.cells)
        → o ≡ given (lent_with rows cells n k)
    go (refused w p) h r c = absurd cc
    go (given q) h r c =
        let same : sized n k ≡ sized q.row_count q.cell_count = cc in
        let row_count : n ≡ q.row_count = ap (λ (s : Sizes). s.rows) same in
        let cell_count : k ≡ q.cell_count = ap (λ (s : Sizes). s.cells) same in
        rw (r, c, row_count, cell_count)
