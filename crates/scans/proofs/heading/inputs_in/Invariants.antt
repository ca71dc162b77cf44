use Rattle.std.proofs.Common.{◌≤◌, ◌+◌, length}
use Rattle.std.specs.Slice.Iter.{split_inclusive_rest}
use Rattle.scans.proofs.heading.inputs_in.Given as goal

abbrev pub invariant-loop-line : goal.invariant-loop-line
invariant-loop-line l =
    (goal.iterator-loop-line).can_next l.line-iterator
    × (goal.iterator-loop-line).is_finite l.line-iterator
    × (l.count + length (split_inclusive_rest l.line-iterator) ≤ length l.print)
