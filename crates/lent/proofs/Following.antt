-- A scan by the total reading of a lent table: 12, or the state that follows.
use mathlib.Core.Bool.{Bool, true, false, not}
use mathlib.Core.List.{List, [], ◌++◌, append-nil}
use mathlib.Core.Path.{◌≡◌, sym, ap, ◌∙◌}
use Prim.Native.Nat.{ℕ, ◌≤◌}
use native.Mathlib.Omega.{arith}
use borrow.Author.Tests.{not-true, not-false}
use lib.IntN.{ℤ}
use lib.ListN.{length, take, drop, length-map, drop_of_length-le}
use lib.Seq.{take_at}
use Rattle.std.specs.Prelude.{Ok, Err}
use Rattle.paper.specs.declared.Why.TheVariants.{BadValue}
use Rattle.paper.specs.Refusals.{refusal}
use Rattle.paper.specs.Tables.{run_table}
use Rattle.paper.specs.Judge.{all_fit, lent as lent_as, over, scan_table}
use Rattle.cells.specs.Numbers.{Says, read_in, info_of}
use Rattle.cells.proofs.Infos.{infos_map}
use Rattle.cells.proofs.Values.{length_read}
use Rattle.rows.proofs.Total.{ran}
use Rattle.lent.specs.Outcomes.{Outcome}
use Rattle.lent.specs.Totals.{Runs, Follows, Scans}
use Rattle.lent.proofs.Totals.{known}

module _ (rs cs : List ℕ) (n : ℕ) (inputs old : List ℤ) where
  -- the held values with the readings put, then the rows' values, then the cells' next
  pub follows : (mem start end : List ℕ) → length mem ≡ length cs → length cs ≤ length old → length cs ≤ length inputs
      → Says cs (λ is. start ≡ over (read_in is old inputs) mem)
      → Runs rs cs n start end
      → Follows rs cs n inputs old end
  unfolding scan_table
  follows mem start end m s i h next u e =
      let is = u.cells in
      let k = known rs cs n u e in
      let count : length is ≡ length cs = ap length (sym (infos_map cs is k)) ∙ length-map cs info_of in
      let long = length_read is old inputs (omega arith) (omega arith) in
      let past : length mem ≤ length (read_in is old inputs) = omega arith in
      let rest : drop (length (read_in is old inputs)) mem ≡ [] = drop_of_length-le mem past in
      let at : start ≡ read_in is old inputs = h is k ∙ rw rest (append-nil (read_in is old inputs)) in
      ran rs cs n u start end e next ∙ ap (run_table u) at

  pub scan_unfit : (b : Bool) → Says cs (λ is. b ≡ all_fit is old inputs) → not b ≡ true → (r : Outcome) → r ≡ Err (refusal BadValue 0)
      → Scans rs cs n inputs old old r
  scan_unfit b h e r is u k =
      let no : all_fit u.cells old inputs ≡ false = sym (h u.cells (known rs cs n u k)) ∙ not-true b e in
      record { answer = rw no is; lent = rw no }

  -- the values that follow stand in front of any
  pub scan_done : (b : Bool) → Says cs (λ is. b ≡ all_fit is old inputs) → not b ≡ false
      → (vs rest : List ℕ) → length vs ≡ length cs → Follows rs cs n inputs old vs
      → (new : List ℤ) → Says cs (λ is. new ≡ over (lent_as is (take (length cs) (vs ++ rest))) old)
      → Scans rs cs n inputs old new (Ok (length cs))
  scan_done b h e vs rest m f new l u k =
      let c = known rs cs n u k in
      let yes : all_fit u.cells old inputs ≡ true = sym (h u.cells c) ∙ not-false b e in
      let is = take_at vs rest (length cs) m ∙ f u k in
      record { answer = rw yes; lent = rw yes (l u.cells c ∙ ap (λ (x : List ℕ). over (lent_as u.cells x) old) is) }
