-- `words::names::same_name` meets its contract. The loop's invariant: the names are the same where their rests behind `i` bytes are.
use mathlib.Core.Path.{◌≡◌, sym, ap, ◌∙◌}
use mathlib.Core.Bool.{not, not-not}
use native.Mathlib.Omega.{arith}
use borrow.Author.Tests.{eq-eqb}
use Rattle.paper.specs.Words.{in_run, same_bytes}
use Rattle.words.specs.Denoted.{rest_at}
use Rattle.words.proofs.Spellings.{rest_none_yet, rest_same, rest_no_more}
use Rattle.words.proofs.Lengths.{rest_differs, text_ends, behind_tells}
use Rattle.words.proofs.names.same_name.Goals as goal

pub returns-then-text-b : goal.returns-then-text-b
returns-then-text-b c =
    let A = c.args in
    text_ends A.text.now A.a A.b A.n c.requires.0 (omega arith)

pub loop-i-init : goal.loop-i-init
loop-i-init c =
    let A = c.args in
    rest_none_yet A.text.now A.a A.b

pub returns-then-not-same_byte : goal.returns-then-not-same_byte
returns-then-not-same_byte c =
    let A = c.args in
    let i = c.loop-i.i in
    sym (c.loop-i.invariant ∙ rest_differs A.text.now A.a A.b i (omega (arith, c.requires.0.most)) (c.requires.0.all i (omega arith)) (sym c.same_byte.ensures ∙ sym (not-not _) ∙ ap not c.if-not-same_byte.true-raw))

pub loop-i-preserved : goal.loop-i-preserved
loop-i-preserved c =
    let A = c.args in
    let i = c.loop-i.i in
    c.loop-i.invariant ∙ rest_same A.text.now A.a A.b i (omega (arith, c.requires.0.most)) (sym c.same_byte.ensures ∙ sym (not-not _) ∙ ap not c.if-not-same_byte.false-raw) (c.requires.0.all i (omega arith))

pub returns-then-n-eq24 : goal.returns-then-n-eq24
returns-then-n-eq24 c =
    let A = c.args in
    let t = A.text.now in
    let all : c.loop-i.i ≡ 24 = omega (arith, c.if-n-eq24.true) in
    eq-eqb _ _ c.if-n-eq24.true
    ∙ sym (c.loop-i.invariant ∙ ap (λ i. same_bytes (rest_at t A.a i) (rest_at t A.b i)) all ∙ rest_no_more t A.a A.b)

pub returns-else-n-eq24 : goal.returns-else-n-eq24
returns-else-n-eq24 c =
    let A = c.args in
    let t = A.text.now in
    let all : c.loop-i.i ≡ A.n = omega arith in
    let next = c.in_run.ensures ∙ ap in_run c.byte_at.ensures in
    ap not next
    ∙ sym
    (c.loop-i.invariant
    ∙ ap (λ i. same_bytes (rest_at t A.a i) (rest_at t A.b i)) all
    ∙ behind_tells t A.a A.b A.n c.requires.0 (omega (arith, c.requires.0.most, c.if-n-eq24.false)))
