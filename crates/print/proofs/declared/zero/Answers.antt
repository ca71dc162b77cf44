-- A BOOL is FALSE, any other 0.
use Rattle.std.proofs.Common.{rules, ◌≡◌, false}
use Rattle.paper.specs.declared.Ty.TheVariants.{Bool as BOOL}
use Rattle.paper.specs.Types.{same_ty}
use Rattle.paper.specs.Words.{bytes}
use Rattle.print.proofs.Laws.{named}
use Rattle.print.proofs.Sections.{zero_of}
use Rattle.print.proofs.declared.zero.Goals as goal

pub returns-else-eq : goal.returns-else-eq
unfolding bytes
returns-else-eq c =
    let other : same_ty c.args.t BOOL ≡ false = search rules in
    named (λ k. zero_of c.args.t k other) c.put.ensures
