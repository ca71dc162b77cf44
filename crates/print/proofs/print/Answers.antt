-- `print::print` meets its contract.
use Prim.Native.Nat.{◌/◌}
use lib.ListN.{length}
use Rattle.paper.specs.Words.{bytes}
use Rattle.tree.specs.Trees.{name_at}
use Rattle.plain.specs.Flat.{list_at}
use Rattle.variables.specs.Table.{entries, listed_in}
use Rattle.print.proofs.Laws.{named, ◌then◌}
use Rattle.print.proofs.Programs.{printed}
use Rattle.print.proofs.print.Goals as goal

pub returns : goal.returns
unfolding bytes
returns c =
    let A = c.args in
    let l = c.listed-variables.ensures in
    printed (name_at A.text.now A.name) (entries A.text.now A.pool.now A.table.now (length A.table.now / 4))
    (listed_in A.text.now A.pool.now A.table.now) (list_at A.plain.now A.root)
    (named (λ k. rw c.name_of.ensures) (c.put-a.ensures then c.capitals-b.ensures then c.put-c.ensures then rw (l.0, l.1, l.2) at c.sections-d.ensures then rw (l.0, l.1, l.2, c.node_at.ensures.0, c.node_at.ensures.1) at c.list-e.ensures then c.put.ensures))
