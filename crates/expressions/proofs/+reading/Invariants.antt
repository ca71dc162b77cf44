use mathlib.Core.Path.{◌≡◌}
use Prim.Native.Nat.{◌≤◌, ◌+◌, ◌-◌, ◌*◌}
use lib.ListN.{length}
use Rattle.expressions.proofs.Turns.{Carries}
use Rattle.expressions.proofs.+reading.Given as goal

abbrev pub decreases-bracketed : goal.decreases-bracketed
decreases-bracketed l = 16 * (length l.text.now - l.at)

abbrev pub decreases-expression : goal.decreases-expression
decreases-expression l = 16 * (length l.text.now - l.at) + 6

abbrev pub decreases-joined : goal.decreases-joined
decreases-joined l = 16 * (length l.text.now - l.first.at) + 5

abbrev pub decreases-named : goal.decreases-named
decreases-named l = 16 * (length l.text.now - l.end) + 1

abbrev pub decreases-operand : goal.decreases-operand
decreases-operand l = 16 * (length l.text.now - l.at) + 4

abbrev pub decreases-primary : goal.decreases-primary
decreases-primary l = 16 * (length l.text.now - l.at) + 2

abbrev pub decreases-signed : goal.decreases-signed
decreases-signed l = 16 * (length l.text.now - l.at) + 3

abbrev pub decreases-wrapped : goal.decreases-wrapped
decreases-wrapped l = 16 * (length l.text.now - l.at) + 1

abbrev pub invariant-joined-loop-o : goal.invariant-joined-loop-o
invariant-joined-loop-o l =
    (l.initial.left.at ≤ l.left.at) × (l.left.at ≤ length l.text) × (l.initial.left.count ≤ l.left.count) × (l.left.count + l.initial.left.at ≤ l.initial.left.count + l.left.at) × (l.left.root ≤ l.left.count) × (length l.pool ≡ length l.initial.pool) × Carries l.text l.initial.pool l.pool l.least l.nest l.initial.left.at l.left.at l.initial.left.count l.left.count l.initial.left.root l.left.root

abbrev pub decreases-joined-loop-o : goal.decreases-joined-loop-o
decreases-joined-loop-o l =
    length l.text - l.left.at
