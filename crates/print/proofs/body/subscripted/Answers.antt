-- Of an array alone.
use Rattle.std.proofs.Common.{arith, sym, ◌∙◌}
use Rattle.paper.specs.Words.{bytes}
use Rattle.variables.specs.Table.{bounds_in}
use Rattle.print.proofs.Laws.{none, named, ◌then◌}
use Rattle.print.proofs.Cells.{no_subscript, some_subscript}
use Rattle.print.proofs.body.subscripted.Goals as goal

pub returns-then-not-is_array : goal.returns-then-not-is_array
returns-then-not-is_array c =
    let A = c.args in
    named (λ k. no_subscript (bounds_in A.n.pool.now A.n.at) A.o k (sym c.is_array.ensures ∙ c.if-not-is_array.true)) (none _ _ (omega arith))

pub returns : goal.returns
unfolding bytes
returns c =
    let A = c.args in
    let b = c.bounds_of.ensures in
    named (λ k. some_subscript A.n.pool.now A.n.at A.o _ _ _ k (sym c.is_array.ensures ∙ c.if-not-is_array.false) b.1 (rw b.0 at c.child.ensures.1) (rw (c.child.ensures.0, b.0) at c.wide-lo.ensures))
    (c.put-a.ensures then c.natural-b.ensures then c.put.ensures)
