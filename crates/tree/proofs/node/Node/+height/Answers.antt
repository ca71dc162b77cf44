-- A node's height from those of its children, which the calls gave.
use native.Mathlib.Omega.{arith}
use Rattle.std.proofs.lemmas.Bool.Decides.{nat_tests}
use Rattle.tree.proofs.Heights.{leaf_height, brackets_height, unary_height, binary_height}
use Rattle.tree.proofs.node.Node.+height.Goals as goal

pub returns-in-Brackets : goal.returns-in-Brackets
returns-in-Brackets t c =
    let A = c.args.self in
    let v = c.in-Brackets.ensures in
    brackets_height A.pool.now A.at _ (rw (c.child.ensures.0, c.child.ensures.1) at c.height.ensures) v

pub returns-in-Minus : goal.returns-in-Minus
returns-in-Minus t c =
    let A = c.args.self in
    unary_height A.pool.now A.at _ (rw (c.child-in-Minus.ensures.0, c.child-in-Minus.ensures.1) at c.height-in-Minus.ensures)
    _ c.expression.ensures c.in-Minus.is

pub returns-in-Binary : goal.returns-in-Binary
returns-in-Binary t c =
    let A = c.args.self in
    let v = c.in-Binary.ensures in
    binary_height A.pool.now A.at _
    (rw (c.child-in-Binary.ensures.0, c.child-in-Binary.ensures.1) at c.height-in-Binary.ensures)
    c.in-Binary.field-0 _ _ v
    (rw (c.child-in-Binary-2.ensures.0, c.child-in-Binary-2.ensures.1) at c.height-in-Binary-2.ensures)
    (grind (arith, nat_tests))

pub returns-in_default : goal.returns-in_default
returns-in_default t c =
    let d = c.in_default in
    leaf_height c.args.self.pool.now c.args.self.at _ c.expression.ensures d.not-Minus d.not-Complement d.not-Brackets d.not-Conversion d.not-Binary
