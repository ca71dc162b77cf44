-- None of the first `v` has the cell.
use Rattle.std.proofs.Common.{arith, ◌≡◌, sym, ◌∙◌, ◌/◌, length}
use Rattle.print.proofs.Cells.{holds_from, passed, found, missing}
use Rattle.print.proofs.index.walked.Goals as goal

pub returns-then-has : goal.returns-then-has
returns-then-has c =
    let A = c.args in
    let h = sym c.has.ensures ∙ c.if-has.true in
    record {
      most = omega arith;
      from = λ l. holds_from A.vars.pool.now A.vars.table.now A.c c.loop-v.v h;
      found = λ l t k. c.loop-v.invariant t k ∙ found t A.vars.pool.now A.vars.table.now A.c k c.loop-v.v l h;
      missing = λ l. absurd (omega arith);
    }

pub loop-v-preserved : goal.loop-v-preserved
loop-v-preserved c t k =
    let A = c.args in
    let h = sym c.has.ensures ∙ c.if-has.false in
    c.loop-v.invariant t k ∙ passed t A.vars.pool.now A.vars.table.now A.c k c.loop-v.v (omega arith) h

pub returns : goal.returns
returns c =
    let A = c.args in
    let done : c.loop-v.v ≡ length A.vars.table.now / 4 = omega arith in
    record {
      most = omega arith;
      from = λ l. absurd (omega arith);
      found = λ l. absurd (omega arith);
      missing = λ l t k. rw done at (c.loop-v.invariant t k) ∙ missing t A.vars.pool.now A.vars.table.now A.c k;
    }
