-- `pack::pair_in` meets its contract: the line is put together from its parts.
use mathlib.Core.Path.{sym, ◌∙◌}
use Rattle.std.specs.Prelude.{Some}
use Rattle.std.proofs.lemmas.Bool.Decides.{Decides-eqb}
use Rattle.std.proofs.lemmas.Slice.Eq.{strip_prefix_is}
use Rattle.pack.proofs.Numbers.{rest, joined}
use Rattle.pack.proofs.pair_in.Goals as goal

pub returns : goal.returns
returns c =
    joined _ _ _ _ c.in_ok-n.n c.in_ok-n.ensures
    (sym (rest c.args.s.now c.in_ok-n.n.count) ∙ strip_prefix_is Decides-eqb _ _ (Some c.in_ok-rest.rest) c.in_ok-rest.ensures.cases) c.in_ok-p.ensures
