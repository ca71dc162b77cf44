-- `numbers::whole_in` meets its contract: without a minus, and with one.
use Rattle.std.proofs.Common.{[], ◌∷◌}
use Rattle.std.specs.Prelude.{None, Some}
use Rattle.std.proofs.lemmas.Bool.Decides.{Decides-eqb}
use Rattle.std.proofs.lemmas.Slice.Eq.{strip_prefix_is}
use Rattle.pack.proofs.Beginnings.{not_begun}
use Rattle.numbers.proofs.Signs.{negated, unsigned, minus_whole}
use Rattle.numbers.proofs.whole_in.Goals as goal

pub returns-in_default : goal.returns-in_default
returns-in_default c =
    unsigned _ (not_begun (45 ∷ []) c.args.s.now (strip_prefix_is Decides-eqb c.args.s.now (45 ∷ []) None c.in_default.ensures.cases)) c.plain_in.result c.plain_in.ensures

pub returns : goal.returns
returns c =
    let p = c.in_ok-w in
    minus_whole _ p.w p.ensures c.args.s.now (strip_prefix_is Decides-eqb _ (45 ∷ []) (Some c.in-Some.rest) c.in-Some.ensures.cases) _
    (negated p.ensures.value p.w.value p.ensures.digits.small p.ensures.as_whole)
