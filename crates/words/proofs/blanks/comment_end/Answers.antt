-- `words::blanks::comment_end` meets its contract. The loop's invariant: where the comment ends from the byte before `i` on, it ends from `at` on.
use mathlib.Core.Path.{◌≡◌}
use Prim.Native.Nat.{◌+◌, ◌-◌}
use native.Mathlib.Omega.{arith}
use lib.ListN.{get_or}
use Rattle.std.specs.Prelude.{None}
use Rattle.words.proofs.Gaps.{comment_here, comment_more, comment_none}
use Rattle.words.proofs.blanks.comment_end.Goals as goal
use Rattle.words.proofs.blanks.comment_end.Goals.{else-text-i-eq42-via-else-text-i-eq42, else-text-i-eq42-via-then-text-i-eq42+else-text-i-eq41}

pub returns-then-text-i-eq41 : goal.returns-then-text-i-eq41
returns-then-text-i-eq41 c =
    let i = c.loop-i.i in
    c.loop-i.invariant (i - 1) (omega arith) _
    (comment_here c.args.text.now (i - 1) i (omega arith) c.if-text-i-eq42.true c.if-text-i-eq41.true)

pub loop-i-preserved : goal.loop-i-preserved
loop-i-preserved c j e r k =
    let t = c.args.text.now in
    let i = c.loop-i.i in
    let q : j ≡ i - 1 + 1 = omega arith in
    let here : i - 1 + 1 ≡ i = omega arith in
    let no_end : get_or t (i - 1) 0 ≡ 42 → get_or t (i - 1 + 1) 0 ≡ 41 → ⊥ =
    λ x y. elim c.else-text-i-eq42.branch [ else-text-i-eq42-via-then-text-i-eq42+else-text-i-eq41 w ↦ w.if-text-i-eq41.false (rw here at y) | else-text-i-eq42-via-else-text-i-eq42 w ↦ w.if-text-i-eq42.false x ] in
    c.loop-i.invariant (i - 1) (omega arith) r (comment_more t (i - 1) r (omega arith) no_end (rw q at k))

pub returns : goal.returns
returns c =
    let j = c.loop-i.i - 1 in
    c.loop-i.invariant j (omega arith) None (comment_none c.args.text.now j (omega arith))
