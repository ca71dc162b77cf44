-- The starting state, from what judging left.
use mathlib.Core.Path.{◌≡◌, refl, ap, subst}
use mathlib.Core.List.{List}
use Prim.Native.Nat.{ℕ, ◌*◌, ◌≤◌, ◌<◌}
use native.Mathlib.Omega.{arith}
use borrow.Author.Tests.{le-leb, lt-leb}
use lib.IntN.{ℤ}
use lib.ListN.{length, take}
use Rattle.std.specs.Prelude.{Ok, Err}
use Rattle.paper.specs.declared.Why.TheVariants.{NoRoom}
use Rattle.paper.specs.declared.Refusal.{Refusal}
use Rattle.paper.specs.Refusals.{given, refusal, Gives}
use Rattle.paper.specs.Names.{Variable, cells_of}
use Rattle.paper.specs.Judge.{Sound, judge, start_into}
use Rattle.cells.specs.Numbers.{Started, StartIn}
use Rattle.demands.proofs.Accepted.{accepted}
use Rattle.judge.specs.declared.Judged.{Judged}
use Rattle.judge.specs.Judged.{Stands}
use Rattle.kaldvimur.specs.Arrays.{Holds}
use Rattle.judge.proofs.Gives.{refuses}
use Rattle.kaldvimur.specs.Scans.{StartDid}
use Rattle.kaldvimur.proofs.Answers.{acceptance}

-- an accepted program's cells are those of its variables
pub own_cells : (t : List ℕ) (a : Sound) → judge t ≡ given a → cells_of a.variables ≡ a.cells
own_cells t a h = subst (λ (b : Sound). cells_of b.variables ≡ b.cells) (accepted t a h).is refl

pub start_refused : (t : List ℕ) (e : Refusal) → Gives (Holds t) (judge t) (Err e) → (old : List ℤ) → StartDid t old old (Err e)
unfolding start_into
start_refused t e d old =
    let x = refuses (Holds t) (judge t) e d in
    record { answer = rw (x.is, start_into) (ap Err x.same); lent = rw (x.is, start_into) }

module _ (t p table q : List ℕ) (j : Judged) (d : Gives (Stands t p table q) (judge t) (Ok j)) (old : List ℤ) where
  pub start_no_room : length old < j.cells → StartDid t old old (Err (refusal NoRoom 0))
  unfolding start_into
  start_no_room f =
      let x = acceptance t p table q j d in
      let short = lt-leb (length x.program.cells) (length old) (omega (arith, x.stands.cells)) in
      record { answer = rw (x.is, start_into, short); lent = rw (x.is, start_into, short) }

  pub start_done : j.cells ≤ length old → (new : List ℤ) → StartIn p (take (4 * j.variables) table) old new
      → StartDid t old new (Ok j.cells)
  unfolding start_into
  start_done f new h =
      let x = acceptance t p table q j d in
      let a = x.program in
      let fits : length a.cells ≤ length old = omega (arith, x.stands.cells) in
      let room = le-leb (length a.cells) (length old) fits in
      let s : Started a.variables old new = subst (λ (vs : List Variable). Started vs old new) x.stands.variables (h t) in
      record {
        answer = rw (x.is, start_into, room) (ap Ok x.stands.cells);
        lent = rw (x.is, start_into, room) (s.front (omega (arith, fits, ap length (own_cells t a x.is))));
      }
