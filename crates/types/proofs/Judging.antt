-- Judgements and settled types, by the cases of what they stand for.
use mathlib.Core.Path.{◌≡◌, sym, ap₂, ◌∙◌}
use mathlib.Core.Bool.{Bool, not}
use Prim.Native.Nat.{ℕ}
use Rattle.std.specs.Bool.{then_some}
use Rattle.std.specs.Option.{option_or}
use Rattle.paper.specs.Names.{at}
use Rattle.paper.specs.Typing as T
use Rattle.faults.specs.Soonest.{soonest}
use Rattle.faults.proofs.Soonest.{soonest_none, soonest_at, soonest_or_else, soonest_more, sooner_comm}
use Rattle.types.specs.declared.parts.Judged.{Judged}
use Rattle.types.specs.declared.parts.Judged.TheVariants.{Typed, Numbers, Faulty}
use Rattle.types.specs.declared.parts.Settled.{Settled}
use Rattle.types.specs.Says.{Says, fault_of, Settles}

-- the soonest of its faults
pub first_of : (x : Judged) (j : T.Judged) → Says x j → fault_of x ≡ soonest (T.faults_of j)
first_of (Typed u) (T.faulty ps) a = absurd a
first_of (Typed u) T.numbers a = absurd a
first_of (Typed u) (T.typed v) a = sym soonest_none
first_of Numbers (T.faulty ps) a = absurd a
first_of Numbers T.numbers a = sym soonest_none
first_of Numbers (T.typed v) a = absurd a
first_of (Faulty q) (T.faulty ps) a = a
first_of (Faulty q) T.numbers a = absurd a
first_of (Faulty q) (T.typed v) a = absurd a

-- a rule's faults: those of its parts, else its own
pub rule_faults : (s : Settled) (v : T.Settled) (q : ℕ) (g : Bool) → Settles s v
    → option_or s.first (then_some (not g) q) ≡ soonest (T.or_else v.faults (at q (not g)))
rule_faults s v q g h = ap₂ option_or h.first (sym (soonest_at q (not g))) ∙ sym (soonest_or_else v.faults (at q (not g)))

-- for the two sides of an assignment, whichever comes first
pub ruleset assigned = (first_of, soonest_more, sooner_comm)
