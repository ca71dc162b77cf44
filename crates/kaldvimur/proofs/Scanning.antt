-- A scan by the statements, from what judging left.
use mathlib.Core.Path.{◌≡◌, sym, ap, ◌∙◌, subst}
use mathlib.Core.Bool.{Bool, true, false, not}
use mathlib.Core.Option.{some}
use mathlib.Core.List.{List, [], ◌++◌}
use Prim.Native.Nat.{ℕ, ◌*◌, ◌≤◌, ◌<◌}
use native.Mathlib.Omega.{arith}
use borrow.Author.Tests.{le-leb, lt-leb, not-true, not-false}
use lib.IntN.{ℤ}
use lib.ListN.{length, take, drop, length-map, length-append}
use lib.Seq.{take_at, length-take-le}
use Rattle.std.specs.Prelude.{Ok, Err}
use Rattle.paper.specs.declared.Why.TheVariants.{NoRoom, BadValue}
use Rattle.paper.specs.declared.Refusal.{Refusal}
use Rattle.paper.specs.Refusals.{given, refusal, Gives}
use Rattle.paper.specs.Names.{Info, cells_of}
use Rattle.paper.specs.Plain.{State, Stmts}
use Rattle.paper.specs.Tables.{infos_of}
use Rattle.paper.specs.Judge.{Sound, judge, all_fit, lent, over, scan_plain, scan_from}
use Rattle.plain.specs.Flat.{list_at}
use Rattle.cells.specs.Numbers.{info_of, Says, read_in, Numbered, CellsIn}
use Rattle.cells.proofs.Infos.{infos_map}
use Rattle.cells.proofs.Values.{length_read}
use Rattle.run.specs.Parts.{ran_from, Runs}
use Rattle.run.proofs.Lists.{runs_kept}
use Rattle.demands.proofs.PlainRuns.{run_steps}
use Rattle.demands.proofs.Prints.{few_steps}
use Rattle.judge.specs.declared.Judged.{Judged}
use Rattle.judge.specs.Judged.{Stands}
use Rattle.kaldvimur.specs.Arrays.{Holds}
use Rattle.lent.specs.Outcomes.{Outcome}
use Rattle.judge.proofs.Gives.{refuses}
use Rattle.kaldvimur.specs.Scans.{ScanDid}
use Rattle.kaldvimur.specs.States.{CarriedOut, ScansIn}
use Rattle.kaldvimur.proofs.Answers.{acceptance}
use Rattle.kaldvimur.proofs.Starting.{own_cells}

-- ---- the statements carried out on a copy of the cells

-- a front that was lent has room where it was
pub front_room : (n : ℕ) (new old : List ℕ) → n ≤ length old → length new ≡ length (take n old) → n ≤ length (new ++ drop n old)
front_room n new old l e = omega (arith, length-append new (drop n old), e, length-take-le n old l)

pub carries : (xs zeros held new rest : List ℕ) (k : Stmts) (inputs old out : List ℤ) (r : ℕ) → length xs ≤ length old → length xs ≤ length inputs
    → Says xs (λ is. held ≡ over (read_in is old inputs) zeros) → Runs k (take (length xs) held) new r
    → Says xs (λ is. out ≡ over (lent is (take (length xs) (new ++ rest))) old) → Says xs (λ is. CarriedOut is k inputs old out r)
carries xs zeros held new rest k inputs old out r l m h g e is s =
    let many : length is ≡ length xs = sym (ap length (infos_map xs is s)) ∙ length-map xs info_of in
    let cells : State = read_in is old inputs in
    let all : length cells ≡ length xs = length_read is old inputs (omega (arith, many)) (omega (arith, many)) ∙ many in
    let front : take (length xs) held ≡ cells = ap (take (length xs)) (h is s) ∙ take_at cells _ (length xs) all in
    let ran : Runs k cells new r = subst (λ (v : State). Runs k v new r) front g in
    let back : take (length xs) (new ++ rest) ≡ new = take_at new rest (length xs) (runs_kept k cells new r ran ∙ all) in
    record { state = e is s ∙ ap (λ (v : State). over (lent is v) old) (back ∙ ran.state); steps = ran.steps }

-- ---- the judged program

-- no more numbers are written than there is room for
pub listed_room : (p tab zeros xs : List ℕ) (n : ℕ) → CellsIn p tab zeros xs n → length xs ≡ length zeros → n ≤ length xs
listed_room p tab zeros xs n c e = omega (arith, (c []).poured.behind, e)

module _ (p table q : List ℕ) (j : Judged) (inputs old : List ℤ) (zeros xs : List ℕ) (n : ℕ) (wide : 64 ≤ length zeros)
    (c : CellsIn p (take (4 * j.variables) table) zeros xs n) where
  -- the numbers say the cells of the program that stands there
  record Listed (a : Sound) : Type 0 where
    count : n ≡ length a.cells
    cells : infos_of (take n xs) ≡ some a.cells

  listed : (t : List ℕ) (a : Sound) → judge t ≡ given a → Stands t p table q a j → Listed a
  listed t a h s =
      let own : cells_of a.variables ≡ a.cells = own_cells t a h in
      let all : Numbered a.cells zeros xs n = subst (λ (is : List Info). Numbered is zeros xs n) (ap cells_of s.variables ∙ own) (c t) in
      let few : length a.cells ≤ length zeros = omega (arith, wide, s.cells, s.few) in
      record { count = all.count few; cells = all.cells few }

  pub state_short : length old < n → ScansIn p table q j inputs old old (Err (refusal NoRoom 0))
  unfolding scan_from
  state_short f t a h s =
      let short = lt-leb (length a.cells) (length old) (omega (arith, (listed t a h s).count)) in
      record { answer = rw (h, scan_from, short); lent = rw (h, scan_from, short) }

  module _ (f : n ≤ length old) where
    roomy : (t : List ℕ) (a : Sound) (h : judge t ≡ given a) (s : Stands t p table q a j) → length a.cells ≤ length old
    roomy t a h s = omega (arith, (listed t a h s).count)

    pub inputs_short : length inputs < n → ScansIn p table q j inputs old old (Err (refusal NoRoom 0))
    unfolding scan_from
    inputs_short g t a h s =
        let long = le-leb (length a.cells) (length old) (roomy t a h s) in
        let short = lt-leb (length a.cells) (length inputs) (omega (arith, (listed t a h s).count)) in
        record { answer = rw (h, scan_from, long, short); lent = rw (h, scan_from, long, short) }

    module _ (g : n ≤ length inputs) (fit : Bool) (v : Says (take n xs) (λ is. fit ≡ all_fit is old inputs)) where
      pub scan_unfit : not fit ≡ true → ScansIn p table q j inputs old old (Err (refusal BadValue 0))
      unfolding scan_from
      scan_unfit e t a h s =
          let l = listed t a h s in
          let state = le-leb (length a.cells) (length old) (roomy t a h s) in
          let readings = le-leb (length a.cells) (length inputs) (omega (arith, l.count)) in
          let bad : all_fit a.cells old inputs ≡ false = sym (v a.cells l.cells) ∙ not-true fit e in
          record { answer = rw (h, scan_from, state, readings, bad); lent = rw (h, scan_from, state, readings, bad) }

      pub scan_done : not fit ≡ false → (new : List ℤ) (r : ℕ) → Says (take n xs) (λ is. CarriedOut is (list_at q j.list) inputs old new r)
          → ScansIn p table q j inputs old new (Ok r)
      unfolding scan_from scan_plain
      scan_done e new r w t a h s =
          let l = listed t a h s in
          let state = le-leb (length a.cells) (length old) (roomy t a h s) in
          let readings = le-leb (length a.cells) (length inputs) (omega (arith, l.count)) in
          let good : all_fit a.cells old inputs ≡ true = sym (v a.cells l.cells) ∙ not-false fit e in
          let cells : State = read_in a.cells old inputs in
          let ran : CarriedOut a.cells a.plain inputs old new r =
          subst (λ (k : Stmts). CarriedOut a.cells k inputs old new r) s.plain (w a.cells l.cells) in
          let steps : r ≡ (ran_from a.plain cells).steps =
          omega (arith, ran.steps, run_steps a.plain (record { state = cells; steps = 0 }), few_steps t a h) in
          record {
            answer = rw (h, scan_from, state, readings, good) (ap Ok steps);
            lent = rw (h, scan_from, state, readings, good) ran.state;
          }

-- ---- the text

pub scan_refused : (t : List ℕ) (e : Refusal) → Gives (Holds t) (judge t) (Err e) → (inputs old : List ℤ) → ScanDid t inputs old old (Err e)
unfolding scan_from
scan_refused t e d inputs old =
    let x = refuses (Holds t) (judge t) e d in
    record { answer = rw (x.is, scan_from) (ap Err x.same); lent = rw (x.is, scan_from) }

pub scan_judged : (t p table q : List ℕ) (j : Judged) → Gives (Stands t p table q) (judge t) (Ok j) → (inputs old new : List ℤ) (r : Outcome)
    → ScansIn p table q j inputs old new r → ScanDid t inputs old new r
scan_judged t p table q j d inputs old new r h = let x = acceptance t p table q j d in h t x.program x.is x.stands
