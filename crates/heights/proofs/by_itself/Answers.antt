-- `heights::by_itself` meets its contract.
use Rattle.heights.proofs.by_itself.Goals as goal

pub returns : goal.returns
returns c t = rw (← c.first_word.ensures t, ← c.height.ensures.height t) (c.too_high.ensures t)
