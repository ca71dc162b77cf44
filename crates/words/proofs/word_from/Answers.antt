-- `words::word_from` meets its contract: a word that is told stands for its own class.
use mathlib.Core.Path.{refl}
use Rattle.words.proofs.word_from.Goals as goal

pub returns : goal.returns
returns c =
    c.next_from.ensures c.next_from.result.class refl
