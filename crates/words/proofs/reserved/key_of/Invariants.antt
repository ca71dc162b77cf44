use mathlib.Core.Path.{◌≡◌}
use Prim.Native.Nat.{◌-◌, ◌≤◌}
use lib.ListN.{length}
use Rattle.words.proofs.Keys.{key_from}
use Rattle.words.proofs.reserved.key_of.Given as goal

abbrev pub invariant-loop-b : goal.invariant-loop-b
invariant-loop-b l = (length l.yielded ≤ length l.run) × (l.key ≡ key_from l.run (length l.run - length l.yielded))
