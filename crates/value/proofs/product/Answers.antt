-- The product of two residues stands for the product of the values.
use mathlib.Core.Path.{◌∙◌}
use Rattle.value.proofs.Residues.{product_residue}
use Rattle.value.proofs.product.Goals as goal

pub returns : goal.returns
returns c =
    let x = c.args in c.wrapped.ensures ∙ product_residue x.t x.a x.b
