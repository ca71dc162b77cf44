-- The measure is the node: a child is an earlier one. A turn goes to an operand that has the type of the whole.
use mathlib.Core.Path.{◌∙◌}
use native.Mathlib.Omega.{arith}
use Rattle.tree.proofs.Decodes.{child_most}
use Rattle.constants.proofs.Types.{name_type, conversion_type, test_type, right_type, other_type}
use Rattle.constants.proofs.+own_type.Goals as goal

pub returns-in-Variable : goal.returns-in-Variable
returns-in-Variable t c =
    let L = c.loop-rest in
    name_type _ c.args.vars.now.text.now L.rest.pool.now L.rest.at _ c.expression.ensures c.in-Variable.is _ _ c.type_of_name.ensures c.place.ensures ∙ L.invariant.1

pub returns-in_default : goal.returns-in_default
returns-in_default t c =
    let L = c.loop-rest in
    let d = c.in_default in
    other_type _ c.args.vars.now.text.now L.rest.pool.now L.rest.at _ c.expression.ensures d.not-Number d.not-Variable d.not-Element d.not-Minus d.not-Brackets d.not-Conversion d.not-Binary ∙ L.invariant.1

pub returns-in-Conversion : goal.returns-in-Conversion
returns-in-Conversion t c =
    let L = c.loop-rest in
    conversion_type _ c.args.vars.now.text.now L.rest.pool.now L.rest.at _ _ c.in-Conversion.ensures ∙ L.invariant.1

pub returns-in-Binary : goal.returns-in-Binary
returns-in-Binary t c =
    let L = c.loop-rest in
    test_type _ c.args.vars.now.text.now L.rest.pool.now L.rest.at _ c.in-Binary.ensures _ c.is_arithmetic.ensures c.if-not-is_arithmetic.true ∙ L.invariant.1

pub loop-rest-preserved : goal.loop-rest-preserved
loop-rest-preserved t c =
    let L = c.loop-rest in
    let first = c.child.ensures in
    let second = c.child-rest-in-None.ensures in
    let most = child_most L.rest.pool.now L.rest.at 2 in
    let at = second.1 in
    let below = L.invariant.0 in (
      omega arith,
      right_type _ c.args.vars.now.text.now L.rest.pool.now L.rest.at _ c.in-Binary.ensures _ c.is_arithmetic.ensures c.if-not-is_arithmetic.false _
          (rw (first.0, first.1) at c.in-None.ensures) (rw (second.0, second.1)) ∙ L.invariant.1,
    )
