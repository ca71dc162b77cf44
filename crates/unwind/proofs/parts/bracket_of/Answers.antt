-- `unwind::parts::bracket_of` meets its contract.
use mathlib.Core.Path.{◌∙◌}
use Rattle.unwind.proofs.Exprs.{nil_bracket, element_bracket, own_bracket}
use Rattle.unwind.proofs.parts.bracket_of.Goals as goal

pub returns-in-Nothing : goal.returns-in-Nothing
returns-in-Nothing c = (nil_bracket _ _ c.in-Nothing.ensures)

pub returns-in-Element : goal.returns-in-Element
returns-in-Element c = (λ t. c.word.ensures ∙ element_bracket _ _ c.in-Element.ensures t)

pub returns-in_default : goal.returns-in_default
returns-in_default c =
    (λ t. c.place.ensures ∙ own_bracket _ _ _ c.expression.ensures c.in_default.not-Nothing c.in_default.not-Element t)
