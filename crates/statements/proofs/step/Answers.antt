-- `step` meets its contract: what BY says, or 1.
use Rattle.statements.proofs.Heads.{step_by, step_one}
use Rattle.statements.proofs.step.Goals as goal

pub returns-then-w-eq-BY : goal.returns-then-w-eq-BY
returns-then-w-eq-BY c =
    step_by c.args.p c.next_word-w.ensures c.if-w-eq-BY.true c.expression.ensures

pub returns : goal.returns
returns c =
    rw c.node.ensures.read (step_one c.args.p c.next_word-w.ensures c.if-w-eq-BY.false c.requires.0 c.requires.1 c.node.ensures.written)
