-- Each kind by the definition's form.
use mathlib.Core.Path.{sym, ◌∙◌}
use native.Mathlib.Omega.{arith}
use Rattle.plain.proofs.Exprs.{some_node, at_number, at_true, at_false, at_read, at_minus, at_complement, at_conversion}
use Rattle.plain.proofs.Views.{operated, beyond}
use Rattle.plain.proofs.kinds.as_expression.Goals as goal

pub returns-in-1 : goal.returns-in-1
returns-in-1 c =
    let A = c.args.n in
    record { tree = at_number A.pool.now A.at _ c.kind.ensures (grind arith) (grind arith); some = some_node A.pool.now A.at _ c.kind.ensures (grind arith) }

pub returns-in-4 : goal.returns-in-4
returns-in-4 c = record { tree = at_true c.args.n.pool.now c.args.n.at _ c.kind.ensures c.in-4.is; some = tt }

pub returns-in-5 : goal.returns-in-5
returns-in-5 c =
    let A = c.args.n in
    record { tree = at_read A.pool.now A.at _ c.kind.ensures c.in-5.is; some = some_node A.pool.now A.at _ c.kind.ensures (omega arith) }

pub returns-in-7 : goal.returns-in-7
returns-in-7 c =
    let A = c.args.n in
    record { tree = at_minus A.pool.now A.at _ c.kind.ensures c.in-7.is; some = some_node A.pool.now A.at _ c.kind.ensures (omega arith) }

pub returns-in-8 : goal.returns-in-8
returns-in-8 c =
    let A = c.args.n in
    record { tree = at_complement A.pool.now A.at _ c.kind.ensures c.in-8.is; some = some_node A.pool.now A.at _ c.kind.ensures (omega arith) }

pub returns-in-10 : goal.returns-in-10
returns-in-10 c =
    let A = c.args.n in
    rw (c.type_with.ensures, c.type_with-in-10.ensures, c.word-w.ensures)
    (record { tree = at_conversion A.pool.now A.at _ c.kind.ensures c.in-10.is; some = some_node A.pool.now A.at _ c.kind.ensures (omega arith) })

pub returns-in-0 : goal.returns-in-0
returns-in-0 c =
    let A = c.args.n in
    record {
      tree = at_false A.pool.now A.at _ c.kind.ensures (omega arith) (omega arith) (omega arith) (omega arith) (omega arith);
      some = tt;
    }

pub returns-in-Some : goal.returns-in-Some
returns-in-Some c =
    operated c.args.n.pool.now c.args.n.at _ c.kind.ensures c.in-Some.o (grind arith) (sym c.operator_with.ensures ∙ c.in-Some.is)

pub returns-in-None : goal.returns-in-None
returns-in-None c =
    beyond c.args.n.pool.now c.args.n.at _ c.kind.ensures (grind arith) (sym c.operator_with.ensures ∙ c.in-None.is)
