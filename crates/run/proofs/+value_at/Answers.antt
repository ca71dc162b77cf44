-- The measure is the node: a child is an earlier one.
use mathlib.Core.Path.{ap, ap₂, ◌∙◌}
use mathlib.Core.Bool.{not}
use Rattle.std.proofs.Common.{rules}
use Rattle.paper.specs.Types.{negate, convert, bit, is_true, apply}
use Rattle.paper.specs.Plain.{value_of}
use Rattle.plain.specs.Flat.{type_at}
use Rattle.run.proofs.Values.{by_view, number_seen}
use Rattle.run.proofs.+value_at.Goals as goal

pub returns-in-Number : goal.returns-in-Number
returns-in-Number t c = search (rules, number_seen)

pub returns-in-Truth : goal.returns-in-Truth
unfolding value_of
returns-in-Truth t c =
    by_view _ _ _ _ _ c.in-Truth.ensures (c.bit_of.ensures)

pub returns-in-Read : goal.returns-in-Read
unfolding value_of
returns-in-Read t c =
    by_view _ _ _ _ _ c.in-Read.ensures (search rules)

pub returns-in-Minus : goal.returns-in-Minus
unfolding value_of
returns-in-Minus t c =
    by_view _ _ _ _ _ c.in-Minus.ensures (c.negated.ensures ∙ ap₂ negate c.type_of-in-Minus.ensures (rw (c.child.ensures.0, c.child.ensures.1) at c.value_at.ensures))

pub returns-in-Complement : goal.returns-in-Complement
unfolding value_of
returns-in-Complement t c =
    by_view _ _ _ _ _ c.in-Complement.ensures (c.bit_of-in-Complement.ensures ∙ ap (λ b. bit (not b)) (c.is_true.ensures ∙ ap is_true (rw (c.child-in-Complement.ensures.0, c.child-in-Complement.ensures.1) at c.value_at-in-Complement.ensures)))

pub returns-in-Conversion : goal.returns-in-Conversion
unfolding value_of
returns-in-Conversion t c =
    by_view _ _ _ _ _ c.in-Conversion.ensures (c.converted.ensures ∙ ap (convert _ _) (rw (c.child-in-Conversion.ensures.0, c.child-in-Conversion.ensures.1) at c.value_at-in-Conversion.ensures))

pub returns-in-Binary : goal.returns-in-Binary
unfolding value_of
returns-in-Binary t c =
    by_view _ _ _ _ _ c.in-Binary.ensures (c.apply.ensures ∙ ap (λ t. apply c.in-Binary.o t c.value_at-a.result c.value_at-b.result) c.type_of-in-Binary.ensures ∙ ap₂ (apply c.in-Binary.o (type_at c.args.n.pool.now c.args.n.at)) (rw (c.child-in-Binary.ensures.0, c.child-in-Binary.ensures.1) at c.value_at-a.ensures) (rw (c.child-in-Binary-2.ensures.0, c.child-in-Binary-2.ensures.1) at c.value_at-b.ensures))
