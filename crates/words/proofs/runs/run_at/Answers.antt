-- `words::runs::run_at` meets its contract. The loop's invariant: the run is read up to `i`. The measure is what is left of the length.
use mathlib.Core.Path.{◌≡◌, refl, sym, ap, ◌∙◌}
use lib.ListN.{length}
use mathlib.Core.Bool.{and-true, and-false}
use native.Mathlib.Omega.{arith}
use borrow.Author.Tests.{eq-eqb, ne_eqb, not-true, not-false}
use Rattle.paper.specs.Words.{in_run}
use Rattle.words.proofs.Parts.{read_more, read_all, run_stops, run_ends}
use Rattle.words.proofs.runs.run_at.Goals as goal
use Rattle.words.proofs.runs.run_at.Goals.{else-b-eq95+else-not-in_run, then-b-eq95+else-not-parts, then-b-eq95+then-not-parts}

pub returns-then-not-in_run : goal.returns-then-not-in_run
returns-then-not-in_run c =
    let r = c.in_run in
    read_all c.args.text.now c.args.at c.loop-i.i c.loop-i.parted c.loop-i.invariant
    (run_stops c.args.text.now c.loop-i.i (omega arith) (sym r.ensures ∙ not-true r.result c.if-not-in_run.true-raw))

pub loop-i-preserved : goal.loop-i-preserved
loop-i-preserved c =
    let g = c.loop-i.parted in
    let more = read_more c.args.text.now c.args.at c.loop-i.i g c.if-b-eq95.parted (omega arith) in
    elim c.if-b-eq95.branch [ then-b-eq95+then-not-parts w ↦ more (ap in_run w.if-b-eq95.true) (w.parted-is ∙ sym (rw (eq-eqb _ 95 w.if-b-eq95.true, ← w.parts.ensures, not-true w.parts.result w.if-not-parts.true-raw) (and-false g))) c.loop-i.invariant | then-b-eq95+else-not-parts w ↦ more (ap in_run w.if-b-eq95.true) (w.parted-is ∙ sym (rw (eq-eqb _ 95 w.if-b-eq95.true, ← w.parts.ensures, not-false w.parts.result w.if-not-parts.false-raw) (and-true g))) c.loop-i.invariant | else-b-eq95+else-not-in_run w ↦ more (sym w.in_run.ensures ∙ not-false w.in_run.result w.if-not-in_run.false-raw) (w.parted-is ∙ sym (rw (ne_eqb _ 95 w.if-b-eq95.false) (and-true g))) c.loop-i.invariant ]

pub returns : goal.returns
returns c =
    let end : c.loop-i.i ≡ length c.args.text.now = omega arith in
    read_all c.args.text.now c.args.at (length c.args.text.now) c.loop-i.parted (rw end at c.loop-i.invariant)
    (run_ends c.args.text.now (length c.args.text.now) refl)
