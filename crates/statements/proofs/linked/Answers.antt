-- `linked` meets its contract: a node more, or one of the two as it is.
use mathlib.Core.Path.{refl, sym, ap, ◌∙◌}
use Prim.Native.Nat.{◌+◌}
use native.Mathlib.Omega.{arith}
use Rattle.tree.proofs.Frames.{front_nil}
use Rattle.tree.proofs.Forms.{put_list}
use Rattle.tree.proofs.Puts.{written_same, written_length}
use Rattle.tree.specs.Trees.{front_at}
use Rattle.statements.proofs.linked.Goals as goal

pub returns-then-s-eq0 : goal.returns-then-s-eq0
returns-then-s-eq0 c =
    let A = c.args in
    record {
      at = refl;
      more = omega arith;
      few = omega arith;
      first = omega arith;
      rooted = omega arith;
      same = λ k h. refl;
      long = refl;
      front = λ t k. ap (front_at t A.pool.now A.before) (sym (ap (λ s. front_at t A.pool.now s k) c.if-s-eq0.true ∙ front_nil t A.pool.now k));
    }

pub returns-then-before-eq0 : goal.returns-then-before-eq0
returns-then-before-eq0 c =
    let A = c.args in
    let old = A.pool.now in
    record {
      at = refl;
      more = omega arith;
      few = omega arith;
      first = omega arith;
      rooted = omega arith;
      same = λ k h. refl;
      long = refl;
      front = λ t k. sym (ap (λ b. front_at t old b (front_at t old A.s k)) c.if-before-eq0.true ∙ front_nil t old (front_at t old A.s k));
    }

pub returns : goal.returns
returns c =
    let A = c.args in
    let old = A.pool.now in
    let n = A.count in
    rw (c.node.ensures.read, c.node.ensures.written)
    (record {
      at = refl;
      more = omega arith;
      few = omega arith;
      first = omega arith;
      rooted = omega arith;
      same = written_same old (n + 1) 44 A.before A.s 0 n (omega arith);
      long = written_length old (n + 1) 44 A.before A.s 0;
      front = λ t k. put_list t old (n + 1) A.before A.s 0 (omega arith) (omega arith) k (omega arith) (omega arith);
    })
