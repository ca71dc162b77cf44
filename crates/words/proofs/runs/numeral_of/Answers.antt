-- `words::runs::numeral_of` meets its contract. The loop's invariant: the bytes so far are counted.
use mathlib.Core.Path.{◌≡◌, sym, ◌∙◌}
use Prim.Native.Nat.{◌+◌, ◌-◌, ◌*◌}
use native.Mathlib.Omega.{arith}
use borrow.Author.Tests.{eq-eqb, ne_eqb}
use lib.ListN.{length, get_or}
use lib.Seq.{drop-length}
use Rattle.words.proofs.Parts.{counts_next, counts_digit, counts_underscore, counts_other, counts_beyond, counts_all}
use Rattle.words.proofs.runs.numeral_of.Goals as goal
use Rattle.words.proofs.runs.numeral_of.Goals.{then-is_ascii_digit+in_ok-checked_mul+in_ok-n, else-is_ascii_digit+else-b-ne95}

pub returns-in_err-checked_mul : goal.returns-in_err-checked_mul
returns-in_err-checked_mul c =
    let k = counts_next c.args.run.now c.loop-b.b-index c.loop-b.n (omega arith) c.loop-b.invariant in
    rw c.from_residual.ensures (counts_beyond k (sym c.is_ascii_digit.ensures.value ∙ c.if-is_ascii_digit.true) (omega (arith, c.in_err-checked_mul.ensures)))

pub returns-in_err-n : goal.returns-in_err-n
returns-in_err-n c =
    let k = counts_next c.args.run.now c.loop-b.b-index c.loop-b.n (omega arith) c.loop-b.invariant in
    rw c.from_residual-in_err-n.ensures
    (counts_beyond k (sym c.is_ascii_digit.ensures.value ∙ c.if-is_ascii_digit.true) (omega (arith, c.in_ok-checked_mul.ensures, c.in_err-n.ensures)))

pub returns-then-b-ne95 : goal.returns-then-b-ne95
returns-then-b-ne95 c =
    let k = counts_next c.args.run.now c.loop-b.b-index c.loop-b.n (omega arith) c.loop-b.invariant in
    counts_other k (sym c.is_ascii_digit.ensures.value ∙ c.if-is_ascii_digit.false) (ne_eqb _ 95 c.if-b-ne95.true)

pub loop-b-preserved : goal.loop-b-preserved
loop-b-preserved c =
    let i = c.loop-b.b-index in
    let k = counts_next c.args.run.now i c.loop-b.n (omega arith) c.loop-b.invariant in
    elim c.if-is_ascii_digit.branch [
      | then-is_ascii_digit+in_ok-checked_mul+in_ok-n w ↦
          let e : c.if-is_ascii_digit.n ≡ c.loop-b.n * 10 + (get_or c.args.run.now i 0 - 48) = omega (arith, w.n-is, w.in_ok-checked_mul.ensures, w.in_ok-n.ensures) in
          rw e (counts_digit k (sym c.is_ascii_digit.ensures.value ∙ w.if-is_ascii_digit.true) (omega (arith, w.in_ok-checked_mul.ensures, w.in_ok-n.ensures)))
      | else-is_ascii_digit+else-b-ne95 w ↦ rw w.n-is (counts_underscore k (eq-eqb _ 95 w.if-b-ne95.false))
    ]

pub returns : goal.returns
returns c =
    let e : c.loop-b.b-index ≡ length c.args.run.now = omega arith in
    counts_all c.args.run.now c.loop-b.n (rw (e, drop-length) at c.loop-b.invariant)
