-- `words::next_from` meets its contract: it is the word behind the blanks and comments.
use mathlib.Core.Path.{refl}
use Rattle.words.specs.Denoted.{classed, IsWord}
use Rattle.words.proofs.Pieces.{sole}
use Rattle.words.proofs.Cuts.{word_next, ending_next}
use Rattle.words.proofs.next_from.Goals as goal

pub returns-in-Ok : goal.returns-in-Ok
returns-in-Ok c k w =
    word_next c.args.text.now c.args.at c.in-Ok.i c.in-Ok.ensures c.if-i-text.true (classed c.word_at.result k) (c.word_at.ensures k w)

pub returns-in-Ok-2 : goal.returns-in-Ok-2
returns-in-Ok-2 c =
    sole (IsWord c.args.text.now c.args.at) c.args.told c.args.text.now _ refl
    (ending_next c.args.text.now c.args.at c.in-Ok.i c.in-Ok.ensures c.if-i-text.false)
