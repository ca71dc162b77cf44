-- The invariant holds of the child too, and the word that is left is that of the whole.
use mathlib.Core.Path.{◌∙◌}
use Rattle.tree.proofs.FirstWords.{own_word, no_word, left_word}
use Rattle.tree.proofs.node.Node.first_word.Goals as goal

pub returns-in-Nothing : goal.returns-in-Nothing
returns-in-Nothing c =
    let A = c.loop-rest in
    λ u. no_word A.rest.pool.now A.rest.at c.in-Nothing.ensures u ∙ A.invariant.1 u

pub loop-rest-preserved : goal.loop-rest-preserved
loop-rest-preserved c =
    let A = c.loop-rest in
    let at = c.child-rest.ensures in
    rw (at.0, at.1) (A.invariant.0, λ u. left_word A.rest.pool.now A.rest.at _ c.in-Binary.ensures u ∙ A.invariant.1 u)

pub returns-in_default : goal.returns-in_default
returns-in_default c =
    let A = c.loop-rest in
    λ u. c.place.ensures ∙ own_word A.rest.pool.now A.rest.at _ c.expression.ensures c.in_default.not-Nothing c.in_default.not-Binary u ∙ A.invariant.1 u
