-- `judge::rules::refuse` meets its contract.
use mathlib.Core.Path.{refl, sym, ◌∙◌}
use Rattle.faults.proofs.Soonest.{none_refused, soonest_refused}
use Rattle.judge.proofs.rules.refuse.Goals as goal

pub returns-in-Some : goal.returns-in-Some
returns-in-Some c faults is = rw (soonest_refused c.args.why faults c.in-Some.place (sym is ∙ c.in-Some.is)) refl

pub returns-in-None : goal.returns-in-None
returns-in-None c faults is = rw (none_refused c.args.why faults (sym is ∙ c.in-None.is)) tt
