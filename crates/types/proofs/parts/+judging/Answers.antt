-- The measure is twice the node, and one more for `judge`: a child is an earlier node.
use mathlib.Core.Path.{refl}
use Rattle.types.proofs.Walking.{walk_name, walk_element, walk_minus, walk_complement, walk_conversion, walk_binary}
use Rattle.types.proofs.parts.+judging.Goals as goal

pub judge-returns-in-Variable : goal.judge-returns-in-Variable
judge-returns-in-Variable t c =
    let A = c.args in
    walk_name _ A.vars.text.now A.loops.now A.n.pool.now A.n.at _ c.in-Variable.ensures ((rw c.place.ensures at c.named.ensures) refl)

pub judge-returns-in-Element : goal.judge-returns-in-Element
judge-returns-in-Element t c =
    let A = c.args in
    walk_element _ A.vars.text.now A.loops.now A.n.pool.now A.n.at _ _ c.operand-x.ensures c.in-Element.ensures c.element.ensures

pub judge-returns-in-Minus : goal.judge-returns-in-Minus
judge-returns-in-Minus t c =
    let A = c.args in
    walk_minus _ A.vars.text.now A.loops.now A.n.pool.now A.n.at _ _ c.operand-x.ensures
    c.in-Minus.ensures (rw c.place-in-Minus.ensures at c.negated.ensures)

pub judge-returns-in-Complement : goal.judge-returns-in-Complement
judge-returns-in-Complement t c =
    let A = c.args in
    walk_complement _ A.vars.text.now A.loops.now A.n.pool.now A.n.at _ _ c.operand-x.ensures c.in-Complement.ensures c.complement.ensures

pub judge-returns-in-Conversion : goal.judge-returns-in-Conversion
judge-returns-in-Conversion t c =
    let A = c.args in
    walk_conversion _ A.vars.text.now A.loops.now A.n.pool.now A.n.at _ _ c.operand-x.ensures _ _ c.in-Conversion.ensures c.converted.ensures

pub judge-returns-in-Binary : goal.judge-returns-in-Binary
judge-returns-in-Binary t c =
    let A = c.args in
    walk_binary _ A.vars.text.now A.loops.now A.n.pool.now A.n.at _ _ c.operand-x.ensures _ c.in-Binary.ensures _ c.operand-y.ensures c.joined.ensures
