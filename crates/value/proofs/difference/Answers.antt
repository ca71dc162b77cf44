-- A difference of two residues stands for the difference of the values.
use mathlib.Core.Path.{◌∙◌}
use Rattle.value.proofs.Residues.{difference_residue}
use Rattle.value.proofs.difference.Goals as goal

pub returns : goal.returns
returns c =
    let x = c.args in c.wrapped.ensures ∙ difference_residue x.t x.a x.b c.ranges.b.fits
