-- `types::parts::joined` meets its contract.
use mathlib.Core.Path.{◌≡◌}
use mathlib.Core.Bool.{true, false}
use borrow.Author.Rules.{rules}
use Rattle.paper.specs.Types as Y
use Rattle.types.specs.Says.{is_open}
use Rattle.types.proofs.Joining.{joined_faulty, joined_operated}
use Rattle.types.proofs.parts.joined.Goals as goal

pub returns-in-Some : goal.returns-in-Some
returns-in-Some c =
    let A = c.args in
    joined_faulty A.n.pool.now A.n.at A.o A.x A.y c.in-Some.place (rw (c.sooner_of.ensures, c.fault.ensures, c.fault-2.ensures) at c.in-Some.is)

pub returns : goal.returns
returns c =
    let A = c.args in
    let closed : is_open A.x ≡ true → is_open A.y ≡ true → Y.is_arithmetic (Y.sort_of A.o) ≡ false = search rules in
    joined_operated A.n.pool.now A.n.at A.o A.x A.y c.settle-v.result c.settle-w.result _
    (rw (c.offered-t.ensures, c.child.ensures.0, c.child.ensures.1) at c.settle-v.ensures)
    (rw (c.offered-t.ensures, c.child-2.ensures.0, c.child-2.ensures.1) at c.settle-w.ensures)
    c.operated.ensures
    (rw (c.sooner_of.ensures, c.fault.ensures, c.fault-2.ensures) at c.in_default.is)
    closed
