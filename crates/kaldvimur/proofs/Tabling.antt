-- The table of an accepted program, written into lent buffers.
use mathlib.Core.Bool.{Bool, true, false, not, ◌&&◌}
use mathlib.Core.List.{List}
use mathlib.Core.Option.{some}
use mathlib.Core.Path.{◌≡◌, refl, sym, ap, ap₂, ◌∙◌, subst}
use Prim.Native.Nat.{ℕ, ◌+◌, ◌*◌, ◌≤◌}
use native.Mathlib.Omega.{arith}
use borrow.Author.Tests.{not-true}
use lib.Dec.{leb}
use lib.ListN.{length, take}
use Rattle.std.specs.Prelude.{Result, Ok, Err}
use Rattle.paper.specs.declared.Refusal.{Refusal}
use Rattle.paper.specs.declared.Why.TheVariants.{NoRoom}
use Rattle.paper.specs.Refusals.{Answer, refused, given, refusal, Gives, ◌>>=◌}
use Rattle.paper.specs.Names.{cells_of, variables_of}
use Rattle.paper.specs.Tables.{Lent, infos_of, lent_of, table_of}
use Rattle.paper.specs.Judge.{Sound, judge, over, table_of_sound, table_into}
use Rattle.variables.specs.Table.{listed_in}
use Rattle.cells.specs.Numbers.{CellsIn}
use Rattle.table.specs.Growth.{Room}
use Rattle.table.specs.Walks as W
use Rattle.demands.proofs.Accepted.{accepted}
use Rattle.demands.proofs.Theorem.{walk_means}
use Rattle.demands.proofs.Rows.{table_few}
use Rattle.judge.specs.declared.Judged.{Judged}
use Rattle.judge.specs.Judged.{Stands}
use Rattle.kaldvimur.specs.Arrays.{Holds}
use Rattle.lent.specs.Outcomes.{outcome, left}
use Rattle.lent.proofs.Checking.{test, no_room, has_room, have_room}
use Rattle.judge.proofs.Gives.{refuses}
use Rattle.kaldvimur.specs.declared.tables.Sizes.{Sizes}
use Rattle.kaldvimur.specs.Tables.{sized, TableDid}
use Rattle.kaldvimur.specs.Writing.{Writable, Writes}
use Rattle.kaldvimur.proofs.Starting.{own_cells}
use Rattle.kaldvimur.proofs.Answers.{lies, acceptance}

-- ---- an accepted program's cells and rows

pub few_rows : (t : List ℕ) (a : Sound) → judge t ≡ given a → (lent_of (table_of_sound a)).row_count ≤ a.weight + length a.cells
unfolding table_of_sound lent_of table_of
few_rows t a h =
    let k = accepted t a h in
    let u = k.walked in
    let is = cells_of (variables_of k.program.declared) in
    subst (λ (b : Sound). length (table_of b.cells b.plain).rows ≤ b.weight + length b.cells) k.is
    (omega (arith, (walk_means t a k).weighed, table_few is u.plain))

-- ---- the table of the judged program

pub writes : (p table q : List ℕ) (j : Judged) (oldRows oldCells newRows newCells mem infos : List ℕ) (m r : ℕ)
    → length mem ≡ 64 → j.cells ≤ 64
    → CellsIn p (take (4 * j.variables) table) mem infos m
    → W.Tabled q j.list (take j.cells infos) oldRows newRows oldCells newCells r
    → Writes p table q j oldRows oldCells newRows newCells r
unfolding table_of_sound lent_of table_of
writes p table q j oldRows oldCells newRows newCells mem infos m r l f c d t a h s room =
    let own : cells_of (listed_in t p (take (4 * j.variables) table)) ≡ a.cells = ap cells_of s.variables ∙ own_cells t a h in
    let cells = c t in
    let count : length (cells_of (listed_in t p (take (4 * j.variables) table))) ≡ j.cells = ap length own ∙ sym s.cells in
    let fits : length (cells_of (listed_in t p (take (4 * j.variables) table))) ≤ length mem = omega arith in
    let all : m ≡ j.cells = cells.count fits ∙ count in
    let known : infos_of (take j.cells infos) ≡ some a.cells =
    ap (λ (n : ℕ). infos_of (take n infos)) (sym all) ∙ cells.cells fits ∙ ap some own in
    let (n, x, y) = (rw s.plain at (d a.cells known)) room in
    record { count = n; rows = x; cells = y }

-- ---- the answers

-- what is done with an accepted program
abbrev laid : List ℕ → List ℕ → Sound → Lent
laid rows cells a =
    let t = lent_of (table_of_sound a) in
    record { rows = over t.rows rows; cells = over t.cells cells; row_count = t.row_count; cell_count = t.cell_count }

abbrev stage : List ℕ → List ℕ → Sound → Answer Lent
stage rows cells a =
    test (leb (4 * (a.weight + length a.cells)) (length rows)) >>= λ _.
    test (leb (length a.cells) (length cells)) >>= λ _. given (laid rows cells a)

module _ (t oldRows oldCells : List ℕ) where
  into_is : table_into t oldRows oldCells ≡ (judge t >>= stage oldRows oldCells)
  unfolding table_into
  into_is = refl

  did : (x : Answer Lent) → table_into t oldRows oldCells ≡ x → (newRows newCells : List ℕ) (r : Result Sizes Refusal)
      → r ≡ outcome (λ x. sized x.row_count x.cell_count) x
      → newRows ≡ left oldRows (x >>= λ x. given x.rows)
      → newCells ≡ left oldCells (x >>= λ x. given x.cells)
      → TableDid t oldRows oldCells newRows newCells r
  did x e newRows newCells r a m n =
      record {
        answer = a ∙ ap (outcome (λ (x : Lent). sized x.row_count x.cell_count)) (sym e);
        rows = m ∙ ap (λ (y : Answer Lent). left oldRows (y >>= λ x. given x.rows)) (sym e);
        cells = n ∙ ap (λ (y : Answer Lent). left oldCells (y >>= λ x. given x.cells)) (sym e);
      }

pub table_refused : (t : List ℕ) (e : Refusal) → Gives (Holds t) (judge t) (Err e)
    → (oldRows oldCells : List ℕ) → TableDid t oldRows oldCells oldRows oldCells (Err e)
table_refused t e d oldRows oldCells =
    let x = refuses (Holds t) (judge t) e d in
    let no = into_is t oldRows oldCells ∙ ap (λ (o : Answer Sound). o >>= stage oldRows oldCells) x.is in
    did t oldRows oldCells (refused x.why x.place) no oldRows oldCells (Err e) (ap Err x.same) refl refl

module _ (t p table q : List ℕ) (j : Judged) (d : Gives (Stands t p table q) (judge t) (Ok j)) (oldRows oldCells : List ℕ) where
  staged : table_into t oldRows oldCells ≡ stage oldRows oldCells (acceptance t p table q j d).program
  staged = into_is t oldRows oldCells ∙ ap (λ (o : Answer Sound). o >>= stage oldRows oldCells) (acceptance t p table q j d).is

  pub table_no_room : (b : Bool) → b ≡ leb (4 * (j.weight + j.cells)) (length oldRows) && leb j.cells (length oldCells) → not b ≡ true
      → TableDid t oldRows oldCells oldRows oldCells (Err (refusal NoRoom 0))
  table_no_room b h e =
      let x = acceptance t p table q j d in
      let a = x.program in
      let s = x.stands in
      let full : leb (4 * (a.weight + length a.cells)) (length oldRows) && leb (length a.cells) (length oldCells) ≡ false =
      ap₂ (λ (w c : ℕ). leb (4 * (w + c)) (length oldRows) && leb c (length oldCells)) (sym s.weight) (sym s.cells) ∙ sym h ∙ not-true b e in
      did t oldRows oldCells (refused NoRoom 0) (staged ∙ no_room (leb (4 * (a.weight + length a.cells)) (length oldRows)) (leb (length a.cells) (length oldCells)) (given (laid oldRows oldCells a)) full) oldRows oldCells (Err (refusal NoRoom 0)) refl refl refl

  module _ (b : Bool) (h : b ≡ leb (4 * (j.weight + j.cells)) (length oldRows) && leb j.cells (length oldCells)) (e : not b ≡ false) where
    roomy : (4 * (j.weight + j.cells) ≤ length oldRows) × (j.cells ≤ length oldCells)
    roomy = have_room oldRows oldCells (4 * (j.weight + j.cells)) j.cells b h e

    pub writable : Writable p table q j oldCells
    writable = record { lies = lies t p table q j d; few = (acceptance t p table q j d).stands.few; room = roomy.1 }

    pub table_done : (newRows newCells : List ℕ) (r : ℕ) → Writes p table q j oldRows oldCells newRows newCells r
        → TableDid t oldRows oldCells newRows newCells (Ok (sized r j.cells))
    unfolding lent_of table_of_sound table_of
    table_done newRows newCells r w =
        let x = acceptance t p table q j d in
        let a = x.program in
        let s = x.stands in
        let few = few_rows t a x.is in
        let room : Room oldRows (lent_of (table_of_sound a)).row_count =
        (omega (arith, few, s.weight, s.cells, roomy.0), omega (arith, few, s.weight, s.cells, s.light, s.few)) in
        let done = w t a x.is s room in
        let fits = staged ∙ has_room (4 * (a.weight + length a.cells)) (length oldRows) (length a.cells) (length oldCells) (given (laid oldRows oldCells a)) (omega (arith, s.weight, s.cells, roomy.0)) (omega (arith, s.cells, roomy.1)) in
        did t oldRows oldCells (given (laid oldRows oldCells a)) fits newRows newCells (Ok (sized r j.cells))
        (ap₂ (λ (n k : ℕ). Ok (sized n k)) done.count s.cells) done.rows done.cells
