-- The proof of the cycle of calls {expression_rows}. The measure is the node: a child is an earlier one.
use Rattle.std.proofs.Common.{ap, ◌∙◌}
use mir.Syntax.{w64}
use mir.Facts.{to_z-of_z}
use lib.ListN.{get_or}
use Rattle.paper.specs.declared.Cell.{Cell}
use Rattle.paper.specs.Types.{encode}
use Rattle.paper.specs.Tables.{row}
use Rattle.plain.specs.Flat.{type_at}
use Rattle.table.proofs.Pushing.{number_made, truth_made, read_made, minus_made, complement_made, conversion_made, binary_made}
use Rattle.table.proofs.parts.+expression_rows.Goals as goal

pub returns-in-Number : goal.returns-in-Number
returns-in-Number t c =
    let A = c.args in
    number_made A.env.now A.n.pool.now A.n.at _ _ A.count _ c.in-Number.ensures _ _ (c.head.ensures ∙ rw c.type_of-t.ensures)
    (c.residue_of.ensures ∙ rw c.type_of-t.ensures (ap (encode _) (to_z-of_z {w = w64} (record { sfits = c.whole.type_inv }) ∙ c.whole.ensures))) c.push_number.ensures

pub returns-in-Truth : goal.returns-in-Truth
returns-in-Truth t c =
    let A = c.args in
    truth_made A.env.now A.n.pool.now A.n.at _ _ A.count _ _ c.in-Truth.ensures (rw c.bit_of.ensures at c.push_number-in-Truth.ensures)

pub returns-in-Read : goal.returns-in-Read
returns-in-Read t c =
    let A = c.args in
    read_made A.env.now A.n.pool.now A.n.at c.in-Read.ensures A.rows.now A.count _ (c.row_of.ensures ∙ ap (λ (i : Cell). row (get_or A.env.now i.0 0)) c.cell_of.ensures)

pub returns-in-Minus : goal.returns-in-Minus
returns-in-Minus t c =
    let A = c.args in
    let at = c.child.ensures in
    minus_made A.env.now A.n.pool.now A.n.at _ _ _ A.count _ _ _ (rw (at.0, at.1) at c.expression_rows-x.ensures) c.in-Minus.ensures (c.head-in-Minus.ensures ∙ rw c.type_of.ensures) c.push_one.ensures

pub returns-in-Complement : goal.returns-in-Complement
returns-in-Complement t c =
    let A = c.args in
    let at = c.child-in-Complement.ensures in
    complement_made A.env.now A.n.pool.now A.n.at _ _ _ A.count _ _ _ (rw (at.0, at.1) at c.expression_rows-x-in-Complement.ensures) c.in-Complement.ensures c.head-in-Complement.ensures c.push_one-in-Complement.ensures

pub returns-in-Conversion : goal.returns-in-Conversion
returns-in-Conversion t c =
    let A = c.args in
    let at = c.child-in-Conversion.ensures in
    conversion_made A.env.now A.n.pool.now A.n.at _ _ _ A.count _ _ _ (rw (at.0, at.1) at c.expression_rows-x-in-Conversion.ensures) _ _ c.in-Conversion.ensures (c.head-in-Conversion.ensures ∙ rw c.from.ensures) c.push_one-in-Conversion.ensures

pub returns-in-Binary : goal.returns-in-Binary
returns-in-Binary t c =
    let A = c.args in
    let left = c.child-in-Binary.ensures in
    let right = c.child-in-Binary-2.ensures in
    binary_made A.env.now A.n.pool.now A.n.at _ _ _ A.count _ _ _ (rw (left.0, left.1) at c.expression_rows-x-in-Binary.ensures) _ c.in-Binary.ensures
    (λ a b. c.head-in-Binary.ensures ∙ rw (c.type_of-in-Binary.ensures, c.operation_of.ensures.number (type_at A.n.pool.now A.n.at) a b)) _ _ (rw (right.0, right.1) at c.expression_rows-y.ensures) c.push_two.ensures
