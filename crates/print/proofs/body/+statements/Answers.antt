-- The proof of the cycle of calls {statements}. The measure is the node: a child is an earlier one.
use Rattle.std.proofs.Common.{arith}
use Rattle.paper.specs.Words.{bytes}
use Rattle.variables.specs.Table.{listed_in}
use Rattle.print.proofs.Laws.{none, named, ◌then◌}
use Rattle.print.proofs.Bodies.{none_at, assign_at_lem, both_at, choice_at}
use Rattle.print.proofs.body.+statements.Goals as goal

pub returns-in-Nothing : goal.returns-in-Nothing
returns-in-Nothing t c =
    let A = c.args in
    let vs = listed_in A.names.variables.text.now A.names.variables.pool.now A.names.variables.table.now in
    named (λ k. none_at vs A.n.pool.now A.n.at k c.in-Nothing.ensures) (none _ _ (omega arith))

pub returns-in-Assignment : goal.returns-in-Assignment
returns-in-Assignment t c =
    let A = c.args in
    let vs = listed_in A.names.variables.text.now A.names.variables.pool.now A.names.variables.table.now in
    named (λ k. assign_at_lem vs A.n.pool.now A.n.at k c.in-Assignment.ensures) c.assignment.ensures

pub returns-in-Choice : goal.returns-in-Choice
unfolding bytes
returns-in-Choice t c =
    let A = c.args in
    let vs = listed_in A.names.variables.text.now A.names.variables.pool.now A.names.variables.table.now in
    let two = c.child.ensures in
    let three = c.child-in-Choice.ensures in
    named (λ k. choice_at vs A.n.pool.now A.n.at k c.in-Choice.ensures)
    (c.condition-a.ensures then rw (two.0, two.1) at c.statements-b.ensures then c.between-c.ensures then rw (three.0, three.1) at c.statements-d.ensures then c.put.ensures)

pub returns-in-List : goal.returns-in-List
returns-in-List t c =
    let A = c.args in
    let vs = listed_in A.names.variables.text.now A.names.variables.pool.now A.names.variables.table.now in
    let one = c.child-in-List.ensures in
    let two = c.child-in-List-2.ensures in
    named (λ k. both_at vs A.n.pool.now A.n.at k c.in-List.ensures)
    (rw (one.0, one.1) at c.statements-a.ensures then rw (two.0, two.1) at c.statements.ensures)
