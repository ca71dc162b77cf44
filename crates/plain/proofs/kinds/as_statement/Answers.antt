-- Each kind by the definition's form.
use mathlib.Core.Path.{sym, ap, ◌∙◌}
use native.Mathlib.Omega.{arith}
use Rattle.plain.specs.Flat.{list_at}
use Rattle.plain.proofs.Lists.{list_nil, list_assign, list_choice, list_both, list_other}
use Rattle.plain.proofs.kinds.as_statement.Goals as goal

pub returns-then-n-eq0 : goal.returns-then-n-eq0
returns-then-n-eq0 c =
    record { list = ap (list_at c.args.n.pool.now) c.if-n-eq0.true ∙ list_nil c.args.n.pool.now; some = tt }

pub returns-in-0-to-40 : goal.returns-in-0-to-40
returns-in-0-to-40 c =
    record { list = list_assign c.args.n.pool.now c.args.n.at (omega arith) (omega (arith, c.word.ensures)); some = omega arith }

pub returns-in-41 : goal.returns-in-41
returns-in-41 c =
    record { list = list_choice c.args.n.pool.now c.args.n.at (omega arith) (sym c.word.ensures ∙ c.in-41.is); some = omega arith }

pub returns-in-44 : goal.returns-in-44
returns-in-44 c =
    record { list = list_both c.args.n.pool.now c.args.n.at (omega arith) (sym c.word.ensures ∙ c.in-44.is); some = omega arith }

pub returns-in_default : goal.returns-in_default
returns-in_default c =
    record { list = list_other c.args.n.pool.now c.args.n.at (omega arith) (omega (arith, c.word.ensures)) (omega (arith, c.word.ensures)); some = tt }
