use mathlib.Core.Path.{◌≡◌}
use Prim.Native.Nat.{◌-◌, ◌≤◌}
use lib.ListN.{length}
use Rattle.variables.proofs.Keys as keys
use Rattle.variables.proofs.key_from.Given as goal

abbrev pub invariant-loop-b : goal.invariant-loop-b
invariant-loop-b l =
    (length l.yielded ≤ length l.name) × (l.key ≡ keys.key_from l.name (length l.name - length l.yielded))
