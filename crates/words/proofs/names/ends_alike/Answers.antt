-- `words::names::ends_alike` meets its contract.
use mathlib.Core.Path.{◌≡◌, sym, ◌∙◌}
use Prim.Native.Nat.{◌+◌, ◌-◌, ◌<◌}
use native.Mathlib.Omega.{arith}
use borrow.Author.Tests.{ne_eqb}
use lib.Dec.{eqb}
use lib.ListN.{get_or}
use Rattle.paper.specs.Words.{capital}
use Rattle.words.proofs.Lengths.{last_differs}
use Rattle.words.proofs.names.ends_alike.Goals as goal

pub returns-else-n-eq0 : goal.returns-else-n-eq0
returns-else-n-eq0 c =
    let A = c.args in
    let t = A.text.now in
    let k = A.n - 1 in
    let l : 0 < A.n = omega arith in
    let same : c.same_byte.result ≡ eqb (capital (get_or t (A.a + k) 0)) (capital (get_or t (A.b + k) 0)) = rw (← c.byte_at.ensures) c.same_byte.ensures in
    record { last = same ∙ rw (ne_eqb A.n 0 (λ q. omega arith)); apart = λ e. last_differs t A.a A.b A.n c.requires.0 l (sym same ∙ e) }
