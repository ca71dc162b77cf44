-- The measure is the node: a child is an earlier one. What is left gives the same answer as the whole.
use mathlib.Core.Path.{◌∙◌}
use native.Mathlib.Omega.{arith}
use Rattle.types.proofs.Owns.{labels_none, labels_more}
use Rattle.types.proofs.body.labels.Goals as goal

pub loop-rest-preserved : goal.loop-rest-preserved
loop-rest-preserved c =
    let A = c.args in
    let L = c.loop-rest in
    let same = L.invariant.0 in (
      c.child-rest.ensures.0 ∙ same,
      rw (c.child-rest.ensures.1, same)
          (labels_more A.n.pool.now A.t L.rest.at L.y c.label-x.result _ (omega arith)
          (rw (c.child.ensures.0, c.child.ensures.1, same) at c.label-x.ensures) c.sooner_of-y.ensures
          ∙ L.invariant.1),
    )

pub returns : goal.returns
returns c =
    let A = c.args in
    let L = c.loop-rest in
    labels_none A.n.pool.now A.t L.rest.at L.y (omega arith) ∙ L.invariant.1
