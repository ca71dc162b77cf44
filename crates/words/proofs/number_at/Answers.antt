-- `words::number_at` meets its contract: the numeral and the parting of the run say whether it is a number.
use mathlib.Core.Path.{sym, ◌∙◌}
use Rattle.words.proofs.Pieces.{number_good, number_bad}
use Rattle.words.proofs.number_at.Goals as goal
use Rattle.words.proofs.number_at.Goals.{in_default-via-in-Some+else-run, in_default-via-in_default}

pub returns-in-Some : goal.returns-in-Some
returns-in-Some c =
    number_good c.args.text.now c.args.at c.args.run.end c.requires.ends.from c.requires.ends.to c.in-Some.value c.in-Some.ensures
    (sym c.requires.parted ∙ c.if-run.true)

pub returns-in_default : goal.returns-in_default
returns-in_default c =
    let n = c.numeral_of in
    rw c.bad.ensures
    (number_bad c.args.text.now c.args.at c.args.run.end c.requires.ends.from c.requires.ends.to n.result n.ensures
    (elim c.in_default.branch [ in_default-via-in-Some+else-run w ↦ rw w.in-Some.is (sym c.requires.parted ∙ w.if-run.false) | in_default-via-in_default w ↦ rw w.in_default.is ]))
