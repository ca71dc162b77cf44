-- `cells::lend` meets its contract. The loop's invariant: the first `i` are written.
use mathlib.Core.Path.{ap, ◌∙◌}
use mathlib.Core.List.{map}
use native.Mathlib.Omega.{arith}
use lib.IntN.{pos}
use lib.ListN.{get_or, length-map}
use Rattle.paper.specs.Types.{decode}
use Rattle.cells.specs.Numbers.{info_of}
use Rattle.cells.proofs.Pours.{pour_start, pour_step, pour_end}
use Rattle.cells.proofs.Infos.{says}
use Rattle.cells.proofs.Values.{as_read, length_lent, lent_at}
use Rattle.cells.proofs.lend.Goals as goal

pub loop-i-init : goal.loop-i-init
loop-i-init c =
    pour_start _

pub loop-i-preserved : goal.loop-i-preserved
loop-i-preserved c =
    let A = c.args in
    let m = length-map A.cells.now info_of in
    let n = length_lent (map info_of A.cells.now) A.held.now (omega arith) in
    pour_step _ _ _ _ (pos 0) _ (omega (arith, n)) c.loop-i.invariant
    (as_read c.value_of.result c.value_of.type_inv ∙ c.value_of.ensures ∙ ap (λ t. decode t (get_or A.held.now c.loop-i.i 0)) c.cell_type.ensures
    ∙ lent_at A.cells.now A.held.now c.loop-i.i (omega arith) (omega arith))

pub returns : goal.returns
returns c =
    let A = c.args in
    let m = length-map A.cells.now info_of in
    let n = length_lent (map info_of A.cells.now) A.held.now (omega arith) in
    says _ _ (pour_end _ _ _ c.loop-i.i (omega (arith, n)) (omega (arith, n)) c.loop-i.invariant)
