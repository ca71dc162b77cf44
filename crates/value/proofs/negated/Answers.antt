-- A multiple of the modulus less a residue stands for the opposite of the value.
use mathlib.Core.Path.{◌∙◌}
use Rattle.value.proofs.Residues.{negation_residue}
use Rattle.value.proofs.negated.Goals as goal

pub returns : goal.returns
returns c =
    let x = c.args in c.wrapped.ensures ∙ negation_residue x.t x.a c.ranges.a.fits
