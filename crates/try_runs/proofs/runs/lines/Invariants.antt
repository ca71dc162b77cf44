use Rattle.std.proofs.Common.{◌≤◌, ◌+◌, length}
use Rattle.std.specs.Slice.Iter.{split_inclusive_rest}
use Rattle.try_runs.proofs.runs.lines.Given as goal

abbrev pub invariant-loop-part : goal.invariant-loop-part
invariant-loop-part l =
    (goal.iterator-loop-part).can_next l.part-iterator
    × (goal.iterator-loop-part).is_finite l.part-iterator
    × (l.place + length (split_inclusive_rest l.part-iterator) ≤ length l.s)
