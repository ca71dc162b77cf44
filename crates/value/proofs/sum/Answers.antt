-- The sum of two residues stands for the sum of the values.
use mathlib.Core.Path.{◌∙◌}
use Rattle.value.proofs.Residues.{sum_residue}
use Rattle.value.proofs.sum.Goals as goal

pub returns : goal.returns
returns c =
    let x = c.args in c.wrapped.ensures ∙ sum_residue x.t x.a x.b
