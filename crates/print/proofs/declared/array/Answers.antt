-- `print::declared::array` meets its contract.
use Rattle.paper.specs.Words.{bytes}
use Rattle.print.proofs.Laws.{named, ◌then◌}
use Rattle.print.proofs.declared.array.Goals as goal

pub returns : goal.returns
unfolding bytes
returns c =
    let lo = c.child.ensures in
    let hi = c.child-2.ensures in
    named (λ k. rw (c.wide.ensures, lo.0, lo.1, c.wide-2.ensures, hi.0, hi.1))
    (c.put-x.ensures then c.natural-y.ensures then c.put-z.ensures then c.natural-w.ensures then c.put-v.ensures then c.type_name-u.ensures then c.put.ensures)
