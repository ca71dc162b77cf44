-- `starts` meets its contract: a class that is none of its five starts nothing.
use mathlib.Core.Path.{◌≡◌, sym, ◌∙◌}
use native.Mathlib.Omega.{arith}
use borrow.Author.Tests.{ne_eqb}
use Rattle.statements.proofs.Starting.{start_of_lem}
use Rattle.statements.proofs.starts.Goals as goal

pub returns-in_default : goal.returns-in_default
returns-in_default c s n p ts =
    let k = c.args.class in
    sym
    (start_of_lem k n p s ts
    ∙ rw (
      ne_eqb k 1 (λ (e : k ≡ 1). grind arith),
      ne_eqb k 11 (λ (e : k ≡ 11). grind arith),
      ne_eqb k 16 (λ (e : k ≡ 16). grind arith),
      ne_eqb k 18 (λ (e : k ≡ 18). grind arith),
      ne_eqb k 60 (λ (e : k ≡ 60). grind arith),
    ))
