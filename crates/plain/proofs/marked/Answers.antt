-- `plain::marked` meets its contract.
use mathlib.Core.Path.{◌≡◌, ◌∙◌}
use native.Mathlib.Omega.{arith}
use lib.Dec.{ltb}
use lib.ListN.{take}
use Rattle.std.proofs.Common.{rules, count_by}
use Rattle.plain.proofs.Markings.{count_first}
use Rattle.plain.proofs.marked.Goals as goal

pub returns : goal.returns
returns c =
    let e : c.count.result ≡ count_by (λ v. ltb 0 v) (take c.args.n c.args.marks.now) = search rules in
    e ∙ count_first c.args.marks.now c.args.n (omega arith)
