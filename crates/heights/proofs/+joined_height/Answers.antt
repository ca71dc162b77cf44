-- The measure is the node of the labels.
use mathlib.Core.Path.{sym, ◌∙◌}
use native.Mathlib.Omega.{arith}
use Rattle.std.proofs.lemmas.Bool.Decides.{nat_tests}
use Rattle.tree.proofs.Decodes.{child_less}
use Rattle.heights.proofs.Labels.{one_joined, more_joined}
use Rattle.heights.proofs.+joined_height.Goals as goal

pub returns-then-before-eq0 : goal.returns-then-before-eq0
returns-then-before-eq0 t c =
    let A = c.args in
    one_joined A.n.pool.now A.n.at (omega arith) A.h _ (sym c.child-before.ensures.1 ∙ c.if-before-eq0.true)
    (rw (c.child.ensures.0, c.child.ensures.1) at c.test_height-test.ensures)

pub returns : goal.returns
returns t c =
    let A = c.args in
    more_joined A.n.pool.now A.n.at (omega arith) (omega arith) A.h _ _ _ (child_less A.n.pool.now A.n.at 1 (omega arith))
    (rw (c.child-before.ensures.0, c.child-before.ensures.1) at c.joined_height.ensures)
    (rw (c.child.ensures.0, c.child.ensures.1) at c.test_height-test.ensures)
    (grind (arith, nat_tests))
