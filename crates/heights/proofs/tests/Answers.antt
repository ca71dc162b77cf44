-- `heights::tests` meets its contract.
use native.Mathlib.Omega.{arith}
use Rattle.heights.proofs.Labels.{some_labels, arm_tests}
use Rattle.heights.proofs.tests.Goals as goal

pub returns : goal.returns
returns c t =
    let A = c.args in
    rw (
      arm_tests A.h _ (some_labels A.n.pool.now A.n.at (omega arith)),
      ← c.first_label.ensures,
      ← c.joined_height.ensures.height,
    ) (c.too_high.ensures t)
