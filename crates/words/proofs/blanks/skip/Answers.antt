-- `words::blanks::skip` meets its contract. The loop's invariant: the words from `at` on are those from `i` on. The measure is what is left of the length.
use mathlib.Core.Path.{◌≡◌, sym, ap, ◌∙◌}
use Prim.Native.Nat.{◌+◌}
use native.Mathlib.Omega.{arith}
use lib.ListN.{get_or}
use Rattle.std.proofs.lemmas.Result.{err_from_is_err_and}
use Rattle.std.specs.Prelude.{Some, None, Err}
use Rattle.paper.specs.Words.{is_blank}
use Rattle.words.proofs.Gaps.{words_blank, words_comment, words_open, no_comment}
use Rattle.words.proofs.blanks.skip.Goals as goal
use Rattle.words.proofs.blanks.skip.Goals.{else-b-eq40-via-then-b-eq40+else-byte_at-eq42, else-b-eq40-via-else-b-eq40}

pub loop-b-preserved-then-blank : goal.loop-b-preserved-then-blank
loop-b-preserved-then-blank c =
    let b : c.in-Some.field-0.now ≡ get_or c.args.text.now c.loop-b.i 0 = c.in-Some.ensures.lookup.4 (omega arith) 0 in
    let l = c.in-Some.ensures.lookup.3.0 in (
      omega arith,
      omega arith,
      c.loop-b.invariant.2 ∙ words_blank c.args.text.now c.loop-b.i l (ap is_blank (sym b) ∙ sym c.blank.ensures ∙ c.if-blank.true),
    )

pub returns-in_err-i : goal.returns-in_err-i
returns-in_err-i c =
    let t = c.args.text.now in
    let i = c.loop-b.i in
    let b : c.in-Some.field-0.now ≡ get_or t i 0 = c.in-Some.ensures.lookup.4 (omega arith) 0 in
    let none : c.comment_end.result ≡ None = c.in_err-i.ensures.ok_part in
    let here : Err c.in_err-i.field-0.0 ≡ Err i = rw none at c.in_err-i.ensures.value in
    let p = err_from_is_err_and c.from_residual.result c.from_residual.ensures.1 in
    let e : c.from_residual.result ≡ Err i = cc (p.1, p.2, here) in
    rw e
    (record {
      from = c.loop-b.invariant.0;
      to = c.loop-b.invariant.1;
      there = c.loop-b.invariant.2 ∙ words_open t i (sym b ∙ c.if-b-eq40.true) (sym c.byte_at.ensures ∙ c.if-byte_at-eq42.true) (rw none at c.comment_end.ensures);
    })

pub loop-b-preserved : goal.loop-b-preserved
loop-b-preserved c =
    let t = c.args.text.now in
    let i = c.loop-b.i in
    let b : c.in-Some.field-0.now ≡ get_or t i 0 = c.in-Some.ensures.lookup.4 (omega arith) 0 in
    let some : c.comment_end.result ≡ Some c.in_ok-i.i = c.in_ok-i.ensures.ok_part in
    let w = words_comment t i (sym b ∙ c.if-b-eq40.true) (sym c.byte_at.ensures ∙ c.if-byte_at-eq42.true) c.in_ok-i.i (rw some at c.comment_end.ensures) in
    (omega (arith, w.0), w.1, c.loop-b.invariant.2 ∙ w.2)

pub returns-else-b-eq40 : goal.returns-else-b-eq40
returns-else-b-eq40 c =
    let t = c.args.text.now in
    let i = c.loop-b.i in
    let b : c.in-Some.field-0.now ≡ get_or t i 0 = c.in-Some.ensures.lookup.4 (omega arith) 0 in
    let no_start : get_or t i 0 ≡ 40 → get_or t (i + 1) 0 ≡ 42 → ⊥ =
    λ p q. elim c.else-b-eq40.branch [ else-b-eq40-via-then-b-eq40+else-byte_at-eq42 w ↦ w.if-byte_at-eq42.false (w.byte_at.ensures ∙ q) | else-b-eq40-via-else-b-eq40 w ↦ w.if-b-eq40.false (b ∙ p) ] in
    record {
      from = c.loop-b.invariant.0;
      to = c.loop-b.invariant.1;
      there = (c.loop-b.invariant.2, λ l. (ap is_blank (sym b) ∙ sym c.blank.ensures ∙ c.if-blank.false, no_comment t i no_start));
    }
