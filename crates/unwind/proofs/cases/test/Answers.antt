-- `unwind::cases::test` meets its contract.
use mathlib.Core.Path.{sym, ◌∙◌}
use Rattle.unwind.proofs.Spells.{spelt_range}
use Rattle.unwind.proofs.cases.test.Goals as goal

pub returns-then-is_range : goal.returns-then-is_range
returns-then-is_range c =
    let low = rw (c.child.ensures.0) at c.compared-a.ensures in
    let high = rw (c.child-then-is_range.ensures.0) at c.compared-b.ensures in
    spelt_range c.args.n.pool.now c.args.n.at c.args.sel c.args.root c.args.out.now c.args.count c.requires.1 _ _ _ _ _ _ _ _ (sym c.is_range.ensures ∙ c.if-is_range.true)
    c.child.ensures.1 c.child-then-is_range.ensures.1 low high c.emit.ensures
