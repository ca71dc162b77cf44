-- `print::bytes::whole` meets its contract.
use borrow.Author.Tests.{ltb-true}
use Rattle.paper.specs.Words.{bytes}
use Rattle.print.proofs.Laws.{named, ◌then◌}
use Rattle.print.proofs.Numbers.{minus_number}
use Rattle.print.proofs.bytes.whole.Goals as goal

pub returns-then-n-gt0 : goal.returns-then-n-gt0
unfolding bytes
returns-then-n-gt0 c =
    let A = c.args in
    named (λ k. minus_number A.minus A.n k c.if-minus.true (ltb-true 0 A.n c.if-n-gt0.true-raw)) (c.put-a.ensures then c.natural.ensures)
