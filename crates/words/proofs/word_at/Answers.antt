-- `words::word_at` meets its contract: a run by its end and its underscores, any other piece as a sign.
use mathlib.Core.Path.{refl, sym, ◌∙◌}
use borrow.Author.Tests.{le-leb, lt-leb}
use Rattle.words.specs.Denoted.{IsWordAt}
use Rattle.words.proofs.Parts.{run_empty, run_some}
use Rattle.words.proofs.Pieces.{bad_at, sole, number_here, name_good, name_bad, name_here}
use Rattle.words.proofs.word_at.Goals as goal
use Rattle.words.proofs.word_at.Goals.{else-end-at-le24-via-else-end-at-le24, else-end-at-le24-via-then-end-at-le24+else-run}

pub returns-then-end-at : goal.returns-then-end-at
returns-then-end-at c =
    let T = c.args.text.now in
    let e = c.run_at-run in
    let w = c.sign_at in
    sole (IsWordAt T c.args.at) c.args.told T w.result w.ensures.0 (w.ensures.1 (run_empty T c.args.at e.result.end e.ensures.ends c.if-end-at.true))

pub returns-then-is_ascii_digit : goal.returns-then-is_ascii_digit
returns-then-is_ascii_digit c =
    let T = c.args.text.now in
    let e = c.run_at-run in
    let w = c.number_at in
    sole (IsWordAt T c.args.at) c.args.told T w.result w.ensures.0
    (number_here T c.args.at c.requires e.result.end w.result
    (run_some T c.args.at e.result.end e.ensures.ends c.if-end-at.false)
    (sym c.is_ascii_digit.ensures.value ∙ c.if-is_ascii_digit.true) e.ensures.ends w.ensures)

pub returns-then-run : goal.returns-then-run
returns-then-run c k i =
    let T = c.args.text.now in
    let e = c.run_at-run in
    name_here T c.args.at c.requires e.result.end _
    (run_some T c.args.at e.result.end e.ensures.ends c.if-end-at.false)
    (sym c.is_ascii_digit.ensures.value ∙ c.if-is_ascii_digit.false) e.ensures.ends
    (name_good T c.args.at e.result.end e.ensures.ends.from e.ensures.ends.to k c.if-end-at-le24.true
    (sym e.ensures.parted ∙ c.if-run.true) (c.name_class.ensures k i))

pub returns : goal.returns
returns c =
    let T = c.args.text.now in
    let e = c.run_at-run in
    rw c.bad.ensures
    (sole (IsWordAt T c.args.at) c.args.told T (bad_at c.args.at) refl
    (name_here T c.args.at c.requires e.result.end (bad_at c.args.at)
    (run_some T c.args.at e.result.end e.ensures.ends c.if-end-at.false)
    (sym c.is_ascii_digit.ensures.value ∙ c.if-is_ascii_digit.false) e.ensures.ends
    (name_bad T c.args.at e.result.end e.ensures.ends.from e.ensures.ends.to
    (elim c.else-end-at-le24.branch [ else-end-at-le24-via-then-end-at-le24+else-run w ↦ rw (le-leb _ _ w.if-end-at-le24.true) (sym e.ensures.parted ∙ w.if-run.false) | else-end-at-le24-via-else-end-at-le24 w ↦ rw (lt-leb _ _ w.if-end-at-le24.false) ]))))
