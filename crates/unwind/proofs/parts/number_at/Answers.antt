-- `unwind::parts::number_at` meets its contract.
use Rattle.unwind.proofs.Spells.{spelt_negative, spelt_positive}
use Rattle.unwind.proofs.parts.number_at.Goals as goal

pub returns-then-word-eq2 : goal.returns-then-word-eq2
returns-then-word-eq2 c =
    spelt_negative c.args.out.now _ c.args.count _ _ _ _ c.args.n.pool.now c.args.n.at c.args.t c.word-low.ensures c.word-high.ensures c.from-v.ensures _ c.word.ensures c.if-word-eq2.true c.emit.ensures

pub returns : goal.returns
returns c =
    spelt_positive c.args.out.now _ c.args.count _ _ _ _ c.args.n.pool.now c.args.n.at c.args.t c.word-low.ensures c.word-high.ensures c.from-v.ensures _ c.word.ensures c.if-word-eq2.false c.emit-2.ensures
