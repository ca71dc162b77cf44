-- What a print leaves: the bytes of the accepted program in the front of the buffer, or the buffer as it was.
use mathlib.Core.Path.{◌≡◌, refl, sym, ap, ◌∙◌, subst}
use mathlib.Core.Bool.{Bool, true, false, cond}
use mathlib.Core.List.{List, ◌++◌}
use Prim.Native.Nat.{ℕ, ◌≤◌}
use native.Mathlib.Omega.{arith}
use lib.Dec.{leb}
use lib.ListN.{length, take, drop, length-append}
use lib.Seq.{take_at}
use Rattle.std.specs.Prelude.{Ok, Err}
use Rattle.paper.specs.declared.Why.TheVariants.{NoRoom}
use Rattle.paper.specs.Refusals.{Answer, refused, given, ◌>>=◌}
use Rattle.paper.specs.Judge.{Sound, judge, print_of, print_into, room, over}
use Rattle.lent.specs.Outcomes.{Outcome, outcome, left}
use Rattle.kaldvimur.specs.Outcomes.{printed, PrintDid}

-- the print by the judgement
abbrev into : List ℕ → Answer Sound → Answer (List ℕ)
into old o = o >>= λ a. room (length (print_of a)) old >>= λ fits. given (over (print_of a) old)

into_is : (t old : List ℕ) → print_into t old ≡ into old (judge t)
unfolding print_into
into_is t old = refl

-- what is known of a print that was done with the count n
abbrev Printed : List ℕ → Answer Sound → ℕ → Type 0
Printed new o n = (a : Sound) × (o ≡ given a) × (n ≤ length new) × (take n new ≡ print_of a)

-- an outcome that is no refusal
abbrev IsDone : Outcome → (ℕ → Type 0) → Type 0
IsDone (Ok n) P = P n
IsDone (Err e) P = Unit {0}

front : (x rest : List ℕ) → take (length x) (x ++ rest) ≡ x
front x rest = take_at x rest (length x) refl

-- the bytes x in front of the buffer, if it has room
abbrev roomed : List ℕ → List ℕ → Bool → Answer (List ℕ)
roomed x old b = cond b (given tt) (refused NoRoom 0) >>= λ (u : Unit {0}). given (over x old)

done : (old : List ℕ) (o : Answer Sound) → IsDone (outcome (λ _. printed o) (into old o)) (Printed (left old (into old o)) o)
done old (refused w p) = tt
done old (given a) = go (leb (length (print_of a)) (length old))
  where
    go : (b : Bool) → IsDone (outcome (λ _. length (print_of a)) (roomed (print_of a) old b)) (Printed (left old (roomed (print_of a) old b)) (given a))
    go false = tt
    go true = (a, refl, simp length-append (omega arith), front (print_of a) (drop (length (print_of a)) old))

pub print_done : (t old new : List ℕ) (n : ℕ) → PrintDid t old new (Ok n)
    → (a : Sound) × (judge t ≡ given a) × (n ≤ length new) × (take n new ≡ print_of a)
print_done t old new n d =
    let o = into old (judge t) in
    let e : Ok n ≡ outcome (λ _. printed (judge t)) o = d.answer ∙ ap (outcome (λ _. printed (judge t))) (into_is t old) in
    let f : new ≡ left old o = d.lent ∙ ap (left old) (into_is t old) in
    subst (λ r. IsDone r (Printed new (judge t))) (sym e)
    (subst (λ x. IsDone (outcome (λ _. printed (judge t)) o) (Printed x (judge t))) (sym f) (done old (judge t)))
