-- One or more declarations, up to END_VAR. The measure is what is left of the text.
use native.Mathlib.Omega.{arith}
use Rattle.std.proofs.lemmas.Result.{err_from_is_err_and}
use Rattle.statements.proofs.Rooms.{turned}
use Rattle.reader.proofs.Answers.{Fits}
use Rattle.reader.proofs.Sectioning.{section_1, section_2, section_3}
use Rattle.reader.proofs.section.Goals as goal

pub returns-in_err-d : goal.returns-in_err-d
returns-in_err-d c =
    let p = err_from_is_err_and c.from_residual.result c.from_residual.ensures.1 in rw (p.1, p.2) (c.loop-d.invariant.on (section_1 c.args.kind c.loop-d.read.root c.in_err-d.ensures))

pub returns-then-w-eq-END_VAR : goal.returns-then-w-eq-END_VAR
returns-then-w-eq-END_VAR c =
    let L = c.loop-d in
    let f : Fits c.declaration.new.pool c.in_ok-d.d.count L.read.root c.in_ok-d.d.root = omega (arith, L.invariant.room, L.invariant.rooted, c.in_ok-d.ensures.0.within, c.in_ok-d.ensures.1, c.declaration.auto) in
    rw c.node-read.ensures.read
    (L.invariant.on (section_2 c.args.kind L.read.root c.in_ok-d.ensures L.invariant.rooted f.room c.node-read.ensures.written c.next_word-w.ensures c.if-w-eq-END_VAR.true))

pub loop-d-preserved : goal.loop-d-preserved
loop-d-preserved c =
    let L = c.loop-d in
    let d = c.in_ok-d.ensures in
    let f : Fits c.declaration.new.pool c.in_ok-d.d.count L.read.root c.in_ok-d.d.root = omega (arith, L.invariant.room, L.invariant.rooted, d.0.within, d.1, c.declaration.auto) in
    rw c.node-read.ensures.read
    (turned L.invariant (omega (arith, L.invariant.room, d.0.within, d.1, c.declaration.auto, c.node-read.auto)) (omega arith) (omega (arith, d.0.within)) (omega (arith, c.declaration.auto, c.node-read.auto))
    (λ end r x. section_3 c.args.kind L.read.root d L.invariant.rooted f.room c.node-read.ensures.written c.next_word-w.ensures c.if-w-eq-END_VAR.false x))
