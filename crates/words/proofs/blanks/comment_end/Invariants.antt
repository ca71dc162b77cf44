use mathlib.Core.Path.{◌≡◌}
use Prim.Native.Nat.{ℕ, ◌+◌}
use Rattle.std.specs.Prelude.{Option}
use Rattle.words.specs.Denoted.{CommentEnds}
use Rattle.words.proofs.blanks.comment_end.Given as goal

abbrev pub invariant-loop-i : goal.invariant-loop-i
invariant-loop-i l =
    (j : ℕ) → j + 1 ≡ l.i → (r : Option ℕ) → CommentEnds l.text j r → CommentEnds l.text l.at r
