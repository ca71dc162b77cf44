-- `cells::hold` meets its contract. The loop's invariant: the first `i` are written.
use mathlib.Core.Path.{◌∙◌}
use mathlib.Core.List.{map}
use native.Mathlib.Omega.{arith}
use lib.IntN.{pos}
use lib.ListN.{get_or, length-map}
use Rattle.cells.specs.Numbers.{info_of}
use Rattle.cells.proofs.Pours.{pour_start, pour_step, pour_end}
use Rattle.cells.proofs.Infos.{says}
use Rattle.cells.proofs.Values.{as_read, length_read, read_at}
use Rattle.cells.proofs.hold.Goals as goal

pub loop-i-init : goal.loop-i-init
loop-i-init c =
    pour_start _

pub loop-i-preserved : goal.loop-i-preserved
loop-i-preserved c =
    let A = c.args in
    let i = c.loop-i.i in
    let z = as_read (get_or A.state.now i (pos 0)) c.cell_held-arg-1.given in
    let x = as_read (get_or A.inputs.now i (pos 0)) c.cell_held-arg-in-loop-i-1.given in
    let m = length-map A.cells.now info_of in
    let n = length_read (map info_of A.cells.now) A.state.now A.inputs.now (omega arith) (omega arith) in
    pour_step _ _ _ _ 0 _ (omega (arith, n)) c.loop-i.invariant
    (rw (z, x) at c.cell_held.ensures ∙ read_at A.cells.now A.state.now A.inputs.now c.loop-i.i (omega arith) (omega arith) (omega arith))

pub returns : goal.returns
returns c =
    let A = c.args in
    let m = length-map A.cells.now info_of in
    let n = length_read (map info_of A.cells.now) A.state.now A.inputs.now (omega arith) (omega arith) in
    says _ _ (pour_end _ _ _ c.loop-i.i (omega (arith, n)) (omega (arith, n)) c.loop-i.invariant)
