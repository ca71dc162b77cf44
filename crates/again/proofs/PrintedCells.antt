-- Every cell of declared variables is printed as its variable's.
use mathlib.Core.Path.{◌≡◌, refl}
use mathlib.Core.Bool.{Bool, true, false, not, ◌&&◌, and-false}
use mathlib.Core.Option.{some}
use mathlib.Core.List.{List, [], ◌∷◌}
use Prim.Native.Nat.{ℕ, suc, ◌+◌, ◌-◌, ◌≤◌, ◌<◌}
use native.Mathlib.Omega.{arith}
use borrow.Author.Tests.{le-leb, lt-ltb, le-ltb, leb-true, ltb-true, ltb-false}
use lib.Dec.{leb, ltb}
use lib.IntN.{pos}
use lib.ListN.{length, length-append, length-replicate}
use Rattle.paper.specs.declared.Ty.TheVariants.{Dint as DINT}
use Rattle.paper.specs.declared.Cell.{Cell}
use Rattle.paper.specs.Types.{fits}
use Rattle.paper.specs.Words as W
use Rattle.paper.specs.Words.{Word, same_bytes}
use Rattle.paper.specs.Source.{array, Declared}
use Rattle.paper.specs.Names.{Variable, size_of, placed, cells_of, find, at}
use Rattle.paper.specs.Typing as T
use Rattle.paper.specs.Printing as P
use Rattle.demands.specs.InTypes.{All}
use Rattle.demands.proofs.Truths.{both}
use Rattle.demands.proofs.Answers.{no_fault, test_passed}
use Rattle.demands.proofs.Cells.{CellOf, same_bytes_refl}
use Rattle.again.proofs.Wordings.{words_of_variable, cell_words}
use Rattle.again.proofs.SpelledNames.{RunWord}
use Rattle.again.proofs.Printed.{Printed}
use Rattle.again.proofs.Distinct.{one_if, declared_times, Distinct}

-- what is asked of a declaration
abbrev pub Named : Declared → Type 0
Named d = RunWord d.name (W.name d.name) × (T.bounds_faults d.bounds ≡ [])

-- the variable that the cell c is one of, of those placed from k on
record Lies (k : ℕ) (ds : List Declared) (c : Cell) : Type 0 where
  var : Variable
  cell : CellOf var c
  words : (l : List Word) → cell_words (placed k ds) c.0 l ≡ words_of_variable var c.0 l
  print : (l : List ℕ) → P.cell (placed k ds) c.0 l ≡ P.cell_of_variable var c.0 l
  found : find var.declared.name (placed k ds) ≡ some var
  declared : 1 ≤ declared_times var.declared.name ds
  named : Named var.declared

rest_distinct : (d : Declared) (ds : List Declared) → Distinct (d ∷ ds) → Distinct ds
unfolding declared_times
rest_distinct d ds h s = let k = h s in omega arith

-- the first of them
first_lies : (k : ℕ) (d : Declared) (ds : List Declared) (c : Cell) → Named d → k ≤ c.0 → c.0 < k + size_of d.bounds → Lies k (d ∷ ds) c
unfolding placed cell_words P.cell find declared_times
first_lies k d ds c n low high =
    let inside : (leb k c.0 && ltb c.0 (k + size_of d.bounds)) ≡ true =
    both (le-leb k c.0 low) (lt-ltb c.0 (k + size_of d.bounds) high) in
    record {
      var = record { declared = d; first = k };
      cell = record { at = c.0 - k; inside = omega arith; is = omega arith };
      words = λ l. rw (inside, cell_words) refl;
      print = λ l. rw (inside, P.cell) refl;
      found = rw (same_bytes_refl d.name, find) refl;
      declared = rw (same_bytes_refl d.name) (omega arith);
      named = n;
    }

-- one behind it
later_lies : (k : ℕ) (d : Declared) (ds : List Declared) (c : Cell) → Distinct (d ∷ ds) → k + size_of d.bounds ≤ c.0
    → Lies (k + size_of d.bounds) ds c → Lies k (d ∷ ds) c
unfolding placed cell_words P.cell find declared_times
later_lies k d ds c h high r =
    let m = r.var.declared.name in
    let once = h m in
    let here = r.declared in
    let outside : (leb k c.0 && ltb c.0 (k + size_of d.bounds)) ≡ false =
    rw (le-ltb c.0 (k + size_of d.bounds) high) (and-false (leb k c.0)) in
    let other : same_bytes m d.name ≡ false = go (same_bytes m d.name) refl once here in
    record {
      var = r.var;
      cell = r.cell;
      words = λ l. rw (outside, cell_words) (r.words l);
      print = λ l. rw (outside, P.cell) (r.print l);
      found = rw (other, find) r.found;
      declared = omega arith;
      named = r.named;
    }
  where
    go : (b : Bool) → same_bytes r.var.declared.name d.name ≡ b
        → one_if b + declared_times r.var.declared.name ds ≤ 1 → 1 ≤ declared_times r.var.declared.name ds
        → same_bytes r.var.declared.name d.name ≡ false
    go true e once here = absurd (omega arith)
    go false e once here = e

lies : (k : ℕ) (ds : List Declared) (c : Cell) → Distinct ds → All Named ds → k ≤ c.0 → c.0 < k + length (cells_of (placed k ds)) → Lies k ds c
unfolding placed cells_of
lies k [] c h n low high = absurd (omega arith)
lies k (d ∷ ds) c h n low high =
    let m = k + size_of d.bounds in
    let long : length (cells_of (placed k (d ∷ ds))) ≡ size_of d.bounds + length (cells_of (placed m ds)) =
    simp (length-append, length-replicate) refl in
    go (ltb c.0 m) refl (λ above. lies m ds c (rest_distinct d ds h) n.1 above (omega arith))
  where
    go : (b : Bool) → ltb c.0 (k + size_of d.bounds) ≡ b → (k + size_of d.bounds ≤ c.0 → Lies (k + size_of d.bounds) ds c) → Lies k (d ∷ ds) c
    go true e r = first_lies k d ds c n.0 low (ltb-true c.0 (k + size_of d.bounds) e)
    go false e r = let above = ltb-false c.0 (k + size_of d.bounds) e in later_lies k d ds c h above (r above)

-- ---- subscripts fit

fits_below : (m n : ℕ) → m ≤ n → fits DINT (pos n) ≡ true → fits DINT (pos m) ≡ true
unfolding fits
fits_below m n h k = le-leb m 2147483647 (let l = leb-true n 2147483647 k in omega arith)

subscript_fits : (v : Variable) (c : Cell) → CellOf v c → T.bounds_faults v.declared.bounds ≡ []
    → (a lo b hi : ℕ) → v.declared.bounds ≡ array a lo b hi → fits DINT (pos (lo + (c.0 - v.first))) ≡ true
subscript_fits v c h g a lo b hi e =
    let faults : T.bounds_faults (array a lo b hi) ≡ [] = rw e at g in
    let inside : h.at < suc hi - lo = rw e at h.inside in
    let is = h.is in
    let high = test_passed b (fits DINT (pos hi)) (no_fault (at a (not (fits DINT (pos lo)))) (at b (not (fits DINT (pos hi)))) faults).1 in
    fits_below (lo + (c.0 - v.first)) hi (omega arith) high

pub printed_cell : (ds : List Declared) (c : Cell) → Distinct ds → All Named ds → c.0 < length (cells_of (placed 0 ds)) → Printed (placed 0 ds) c
printed_cell ds c h n l =
    let r = lies 0 ds c h n (omega arith) (omega arith) in
    record {
      var = r.var;
      at = record { found = r.found; cell = r.cell };
      words = r.words;
      print = r.print;
      named = r.named.0;
      small = subscript_fits r.var c r.cell r.named.1;
    }
