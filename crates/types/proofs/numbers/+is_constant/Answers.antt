-- The measure is the node: a child is an earlier one.
use mathlib.Core.Path.{sym, ◌∙◌}
use mathlib.Core.Bool.{true≢false}
use Rattle.types.specs.Says.{around}
use Rattle.types.proofs.Constants.{constant_not, constant_first, constant_second}
use Rattle.types.proofs.numbers.+is_constant.Goals as goal
use Rattle.types.proofs.numbers.+is_constant.Goals.{then-is_scan, else-is_scan}

pub returns-then-is_constant : goal.returns-then-is_constant
returns-then-is_constant t c =
    let A = c.args in
    let at = c.child-then-is_constant.ensures in
    let second = rw (at.0, at.1) at c.is_constant-then-is_constant.ensures in
    elim c.if-is_scan.branch [
      | then-is_scan w ↦
          let left = w.child-then-is_scan.ensures in
          constant_second A.text.now A.n.pool.now A.n.at (around A.text.now A.loops.now) _ c.in-Binary.ensures _ c.is_scan.ensures w.if-is_scan.true
          _ (rw (left.0, left.1) at w.is_constant-then-is_scan.ensures) (sym w.value-is ∙ c.if-is_constant.true) _ second
      | else-is_scan w ↦ absurd (true≢false (sym c.if-is_constant.true ∙ w.value-is ∙ w.if-is_scan.false))
    ]

pub returns-else-is_constant : goal.returns-else-is_constant
returns-else-is_constant t c =
    let A = c.args in
    c.if-is_constant.false
    ∙ elim c.if-is_scan.branch [
      | then-is_scan w ↦
          let left = w.child-then-is_scan.ensures in
          constant_first A.text.now A.n.pool.now A.n.at (around A.text.now A.loops.now) _ c.in-Binary.ensures _ c.is_scan.ensures w.if-is_scan.true
          _ (rw (left.0, left.1) at w.is_constant-then-is_scan.ensures) (sym w.value-is ∙ c.if-is_constant.false)
      | else-is_scan w ↦ constant_not A.text.now A.n.pool.now A.n.at (around A.text.now A.loops.now) _ c.in-Binary.ensures _ c.is_scan.ensures w.if-is_scan.false
    ]
