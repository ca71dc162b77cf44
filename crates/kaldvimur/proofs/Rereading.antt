-- What `print` left is read again: the same four numbers and the same bytes.
use mathlib.Core.Path.{◌≡◌, sym, ap, ◌∙◌, subst}
use mathlib.Core.List.{List}
use Prim.Native.Nat.{ℕ, ◌≤◌}
use borrow.Author.Tests.{le-leb}
use lib.ListN.{length, take}
use lib.Seq.{length-take-le}
use Rattle.std.specs.Prelude.{Ok}
use Rattle.paper.specs.Refusals.{given}
use Rattle.paper.specs.Judge.{Sound, judge, print_of, verdict, over, print_into}
use Rattle.demands.proofs.Answers.{given_same}
use Rattle.again.proofs.Again.{read_again}
use Rattle.lent.specs.Outcomes.{Outcome, outcome}
use Rattle.kaldvimur.specs.Outcomes.{printed, PrintDid}
use Rattle.kaldvimur.proofs.Fits.{print_done}
use Rattle.kaldvimur.specs.Rereading.{Repeats, RereadForAll}

into_room : (t old : List ℕ) (a : Sound) → judge t ≡ given a → length (print_of a) ≤ length old → print_into t old ≡ given (over (print_of a) old)
unfolding print_into
into_room t old a h f = rw (h, print_into, le-leb (length (print_of a)) (length old) f)

-- an accepted program is printed where there is room
printed_whole : (t old new : List ℕ) (r : Outcome) (a : Sound) → judge t ≡ given a → length (print_of a) ≤ length old → PrintDid t old new r
    → r ≡ Ok (length (print_of a))
printed_whole t old new r a h f d = d.answer ∙ ap (outcome (λ _. printed (judge t))) (into_room t old a h f) ∙ rw h

-- bytes that are a program's print, printed from a text that is accepted as it
repeats : (t before old after : List ℕ) (n : ℕ) (r : Outcome) (a : Sound) → judge t ≡ given a → length (print_of a) ≡ n → take n before ≡ print_of a
    → PrintDid t old after r → n ≤ length old → Repeats before after n r
repeats t before old after n r a h count bytes d f =
    let answer : r ≡ Ok n = printed_whole t old after r a h (rw count f) d ∙ ap Ok count in
    let (b, k, long, again) = print_done t old after n (subst (PrintDid t old after) answer d) in
    let same : b ≡ a = given_same (sym k ∙ h) in
    record { answer = answer; bytes = again ∙ ap print_of same ∙ sym bytes }

pub reread : RereadForAll
reread t old new n d f =
    let (a, judged, long, bytes) = print_done t old new n d in
    let count : length (print_of a) ≡ n = ap length (sym bytes) ∙ length-take-le n new long in
    let again = read_again t a judged (rw count f) in
    let b = again.program in
    let same = again.same.print in
    record {
      four_numbers = ap verdict bytes ∙ again.four_numbers;
      print = λ old after r e room.
          repeats (take n new) new old after n r b (ap judge bytes ∙ again.accepted) (ap length same ∙ count) (bytes ∙ sym same) e room;
    }
