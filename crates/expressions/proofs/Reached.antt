-- How far reading came: one part behind another.
use Prim.Native.Nat.{ℕ, ◌≤◌}
use native.Mathlib.Omega.{arith}
use Rattle.std.specs.Prelude.{Result, Ok, Err}
use Rattle.paper.specs.declared.Refusal.{Refusal}
use Rattle.expressions.specs.declared.Parsed.{Parsed}
use Rattle.expressions.specs.Reads.{Within, Ends}

module _ (len from n : ℕ) where
  -- from a place before it
  pub later : (at : ℕ) → from ≤ at → (r : Result Parsed Refusal) → Ends len at n r → Ends len from n r
  later at l (Ok q) x = omega (arith, x)
  later at l (Err y) x = omega (arith, x)

  -- behind a part that ended at q
  pub further : (q : Parsed) → Within len from n q → (r : Result Parsed Refusal) → Ends len q.at q.count r → Ends len from n r
  further q v (Ok p) x = omega (arith, v, x)
  further q v (Err y) x = omega (arith, v, x)
