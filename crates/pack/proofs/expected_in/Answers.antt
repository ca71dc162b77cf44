-- `pack::expected_in` meets its contract: what stands behind the word.
use Rattle.std.specs.Prelude.{None, Some}
use Rattle.std.proofs.lemmas.Bool.Decides.{Decides-eqb}
use Rattle.std.proofs.lemmas.Slice.Eq.{strip_prefix_is}
use Rattle.paper.specs.Words.{bytes}
use Rattle.pack.proofs.Beginnings.{begun, not_begun}
use Rattle.pack.proofs.expected_in.Goals as goal

pub returns-in_default : goal.returns-in_default
unfolding bytes
returns-in_default c =
    not_begun (bytes "refused ") c.args.s.now (strip_prefix_is Decides-eqb c.args.s.now (bytes "refused ") None c.in_default.ensures.cases)

pub returns-in_err-number : goal.returns-in_err-number
unfolding bytes
returns-in_err-number c =
    let e = strip_prefix_is Decides-eqb c.args.s.now (bytes "refused ") (Some c.in-Some.refusal) c.in-Some.ensures.cases in
    rw (c.from_residual.ensures, e) (begun (bytes "refused ") c.in-Some.refusal.now)

pub returns : goal.returns
unfolding bytes
returns c =
    (_, strip_prefix_is Decides-eqb c.args.s.now (bytes "refused ") (Some c.in-Some.refusal) c.in-Some.ensures.cases, c.in_ok-number.ensures)
