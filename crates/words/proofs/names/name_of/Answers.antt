-- `words::names::name_of` meets its contract: it is as many bytes of the text as the name has.
use mathlib.Core.Path.{sym, ◌∙◌}
use Rattle.words.proofs.Lengths.{spelled_part, spelled_inside}
use Rattle.words.proofs.names.name_of.Goals as goal

pub returns : goal.returns
returns c =
    let t = c.args.text.now in
    let at = c.min-at.result in
    sym (spelled_part t at c.name_length-n.result c.name_length-n.ensures) ∙ spelled_inside t c.args.at at c.min-at.ensures
