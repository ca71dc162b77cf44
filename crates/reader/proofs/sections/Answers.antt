-- All sections. The measure is what is left of the text.
use native.Mathlib.Omega.{arith}
use Rattle.std.proofs.lemmas.Result.{err_from_is_err_and}
use Rattle.statements.proofs.Rooms.{turned}
use Rattle.reader.proofs.Sectioning.{section_class, sections_0, sections_1, sections_2}
use Rattle.reader.proofs.sections.Goals as goal

pub returns-in_default : goal.returns-in_default
returns-in_default c =
    let L = c.loop-kind in
    L.invariant.on (sections_0 L.invariant.room L.invariant.rooted c.next_word-w.ensures c.in_default.ensures)

pub returns-in_err-read : goal.returns-in_err-read
returns-in_err-read c =
    let p = err_from_is_err_and c.from_residual.result c.from_residual.ensures.1 in rw (p.1, p.2) (c.loop-kind.invariant.on (sections_1 _ c.next_word-w.ensures c.in-Some.ensures c.in_err-read.ensures))

pub loop-kind-smaller : goal.loop-kind-smaller
loop-kind-smaller c =
    let i = c.next_word-w.ensures in
    let k = section_class _ _ c.in-Some.ensures in
    omega (arith, i.from, i.moves k.0 k.1, c.in_ok-read.ensures.within)

pub loop-kind-preserved : goal.loop-kind-preserved
loop-kind-preserved c =
    let L = c.loop-kind in
    let i = c.next_word-w.ensures in
    let s = c.in_ok-read.ensures in
    let k = section_class _ _ c.in-Some.ensures in
    turned L.invariant (omega (arith, L.invariant.room, i.from, i.on, s.within, c.section.auto)) s.within.rooted (omega (arith, i.from, i.on, s.within)) (omega (arith, c.section.auto))
    (λ end r x. sections_2 _ i c.in-Some.ensures s x)
