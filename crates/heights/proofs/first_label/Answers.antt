-- The measure is the node of the labels.
use mathlib.Core.Path.{sym, ap, ◌∙◌}
use native.Mathlib.Omega.{arith}
use Rattle.heights.specs.Measured.{first_place}
use Rattle.heights.proofs.Labels.{one_label, more_first}
use Rattle.heights.proofs.first_label.Goals as goal

pub returns-then-before-eq0 : goal.returns-then-before-eq0
returns-then-before-eq0 c =
    let L = c.loop-before in
    rw (c.label_place.ensures, c.child.ensures.0, c.child.ensures.1, ← L.invariant.2)
    (sym (ap first_place (one_label L.rest.pool.now L.rest.at (omega (arith, L.invariant)) (sym c.child-before.ensures.1 ∙ c.if-before-eq0.true))))

pub loop-before-preserved : goal.loop-before-preserved
loop-before-preserved c =
    let L = c.loop-before in
    let at = c.child-before.ensures in (
      rw (at.0, L.invariant.0),
      omega (arith, at, c.if-before-eq0.false),
      rw (at.0, at.1) (more_first L.rest.pool.now L.rest.at (omega (arith, L.invariant)) (omega (arith, at, c.if-before-eq0.false)) ∙ L.invariant.2),
    )
