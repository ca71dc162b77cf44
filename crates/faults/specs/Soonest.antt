-- The smallest of the places of faults, None where there is none.
use Rattle.std.specs.Prelude.{Bool, true, List, ℕ, min, ltb, Option, None, Some}
use Rattle.std.proofs.Math.Option as Math
use Rattle.std.proofs.Math.Option.{none, some}
use Rattle.paper.specs.Judge.{smallest}

-- as the functions say it
abbrev pub carried : {T : Type 0} → Math.Option T → Option T
carried none = None
carried (some x) = Some x

unfoldable pub soonest : List ℕ → Option ℕ
soonest ps = carried (smallest ps)

-- the sooner of two
abbrev pub sooner : Option ℕ → Option ℕ → Option ℕ
sooner None b = b
sooner (Some p) None = Some p
sooner (Some p) (Some q) = Some (min p q)

-- whether a fault at p would be sooner than the soonest so far
abbrev pub matter : Option ℕ → ℕ → Bool
matter None p = true
matter (Some q) p = ltb p q
