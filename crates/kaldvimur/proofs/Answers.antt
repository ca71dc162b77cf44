-- The public functions' answers, from what judging left.
use mathlib.Core.Path.{◌≡◌, ap}
use mathlib.Core.List.{List}
use Prim.Native.Nat.{ℕ, ◌≤◌, ◌<◌, min}
use native.Mathlib.Omega.{arith}
use borrow.Author.Tests.{le-leb, lt-leb}
use lib.ListN.{length}
use Rattle.std.specs.Prelude.{Ok, Err}
use Rattle.paper.specs.declared.Why.TheVariants.{NoRoom}
use Rattle.paper.specs.declared.Refusal.{Refusal}
use Rattle.paper.specs.Refusals.{given, refusal, Gives}
use Rattle.paper.specs.Plain.{figure}
use Rattle.paper.specs.Judge.{Sound, judge, print_of, verdict, print_into}
use Rattle.plain.specs.Flat.{list_at}
use Rattle.print.specs.Printed.{limit}
use Rattle.demands.proofs.Prints.{few_steps}
use Rattle.judge.specs.declared.Judged.{Judged}
use Rattle.judge.specs.Judged.{Stands}
use Rattle.kaldvimur.specs.Arrays.{Holds}
use Rattle.judge.proofs.Gives.{gave, refuses}
use Rattle.kaldvimur.specs.Prints.{Lies, Prints, Counts}
use Rattle.kaldvimur.specs.Outcomes.{PrintDid}
use Rattle.kaldvimur.proofs.Standing.{counts, written}

module _ (t : List ℕ) (e : Refusal) (d : Gives (Holds t) (judge t) (Err e)) where
  pub verdict_refused : Err e ≡ verdict t
  unfolding verdict
  verdict_refused = let x = refuses (Holds t) (judge t) e d in rw x.is (ap Err x.same)

  pub print_refused : (old : List ℕ) → PrintDid t old old (Err e)
  unfolding print_into
  print_refused old =
      let x = refuses (Holds t) (judge t) e d in
      record { answer = rw (x.is, print_into) (ap Err x.same); lent = rw (x.is, print_into) }

module _ (t p table q : List ℕ) (j : Judged) (d : Gives (Stands t p table q) (judge t) (Ok j)) where
  -- an accepted program
  pub record Acceptance : Type 0 where
    pub program : Sound
    pub is : judge t ≡ given program
    pub stands : Stands t p table q program j

  pub acceptance : Acceptance
  acceptance = let (a, e, s) = gave (Stands t p table q) (judge t) j d in record { program = a; is = e; stands = s }

  pub lies : Lies p table q j
  lies = let s = acceptance.stands in record { root = s.root; room = s.room; list = s.list }

  -- ---- the verdict

  pub verdict_given : (f n : ℕ) → f ≡ min 65535 (figure (list_at q j.list)) → Counts t p table q j n
      → Ok (record { cells = j.cells; weight = j.weight; figure = f; length = n }) ≡ verdict t
  unfolding verdict
  verdict_given f n e c =
      let x = acceptance in
      let a = x.program in
      let s = x.stands in
      let same : figure (list_at q j.list) ≡ figure a.plain = ap figure s.plain in
      let low : f ≡ figure a.plain = omega (arith, e, same, few_steps t a x.is) in
      rw x.is (λ i. Ok (record { cells = s.cells i; weight = s.weight i; figure = low i; length = c a x.is s i }))

  -- ---- the print

  pub print_no_room : (n : ℕ) → Counts t p table q j n → (old : List ℕ) → length old < n → PrintDid t old old (Err (refusal NoRoom 0))
  unfolding print_into
  print_no_room n c old f =
      let x = acceptance in
      let a = x.program in
      let long = lt-leb (length (print_of a)) (length old) (omega (arith, c a x.is x.stands)) in
      record { answer = rw (x.is, print_into, long); lent = rw (x.is, print_into, long) }

  pub print_done : (n : ℕ) → Counts t p table q j n → (old new : List ℕ) (r : ℕ) → n ≤ length old → length old ≤ limit
      → Prints t p table q j old new r → PrintDid t old new (Ok r)
  unfolding print_into
  print_done n c old new r f l b =
      let x = acceptance in
      let a = x.program in
      let fits : length (print_of a) ≤ length old = omega (arith, c a x.is x.stands) in
      let room = le-leb (length (print_of a)) (length old) fits in
      record {
        answer = rw (x.is, print_into, room) (ap Ok (counts t p table q j old new r b a x.is x.stands));
        lent = rw (x.is, print_into, room) (written (print_of a) (b a x.is x.stands) fits l);
      }
