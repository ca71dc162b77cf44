-- `words::first_bad` meets its contract. The invariant: what stands before `at` are words; each turn passes one more.
use mathlib.Core.Path.{◌∙◌}
use native.Mathlib.Omega.{arith}
use borrow.Author.Tests.{eq-eqb, ne_eqb}
use Rattle.words.proofs.Cuts.{some_word, none_passed, bad_passed, ending_passed, word_passed}
use Rattle.words.proofs.first_bad.Goals as goal

pub loop-at-init : goal.loop-at-init
loop-at-init c =
    none_passed c.args.text.now

pub returns-in-255 : goal.returns-in-255
returns-in-255 c =
    let w = some_word _ _ c.next_from-w.result c.next_from-w.ensures in
    bad_passed c.args.text.now c.loop-at.at _ c.loop-at.invariant w.3 (w.1 ∙ eq-eqb _ _ c.in-255.is)

pub returns-in-0 : goal.returns-in-0
returns-in-0 c =
    let w = some_word _ _ c.next_from-w.result c.next_from-w.ensures in
    ending_passed c.args.text.now c.loop-at.at _ c.loop-at.invariant w.3 (w.1 ∙ ne_eqb _ 255 (omega arith)) (w.2 ∙ eq-eqb _ _ c.in-0.is)

pub loop-at-smaller : goal.loop-at-smaller
loop-at-smaller c =
    let w = some_word _ _ c.next_from-w.result c.next_from-w.ensures in
    omega (arith, w.3.from, w.3.to, w.3.moves (w.1 ∙ ne_eqb _ 255 (λ q. omega arith)) (w.2 ∙ ne_eqb _ 0 (λ q. omega arith)))

pub loop-at-preserved : goal.loop-at-preserved
loop-at-preserved c =
    let w = some_word _ _ c.next_from-w.result c.next_from-w.ensures in
    word_passed c.args.text.now c.loop-at.at _ c.loop-at.invariant w.3 (w.1 ∙ ne_eqb _ 255 (λ q. omega arith)) (w.2 ∙ ne_eqb _ 0 (λ q. omega arith))
