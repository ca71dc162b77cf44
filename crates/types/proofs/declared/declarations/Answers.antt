-- The measure is the node: a child is an earlier one. What is left gives the same answer as the whole.
use mathlib.Core.Path.{◌∙◌}
use native.Mathlib.Omega.{arith}
use Rattle.types.proofs.Declares.{no_declarations, more_declarations}
use Rattle.types.proofs.declared.declarations.Goals as goal

pub loop-rest-preserved : goal.loop-rest-preserved
loop-rest-preserved c =
    let A = c.args in
    let L = c.loop-rest in
    let same = L.invariant.0 in (
      c.child-rest.ensures.0 ∙ same,
      rw (c.child-rest.ensures.1, same) (λ t.
          more_declarations A.n.pool.now L.rest.at L.x c.declaration-x.result (omega arith)
          (rw (c.child.ensures.0, c.child.ensures.1, same) at c.declaration-x.ensures) t
          ∙ L.invariant.1 t),
    )

pub returns : goal.returns
returns c =
    let A = c.args in
    let L = c.loop-rest in
    λ t. no_declarations A.n.pool.now L.rest.at L.x (omega arith) t ∙ L.invariant.1 t
