-- The low bits of z are its remainder.
use Rattle.value.proofs.Residues.{masked, low_bits}
use Rattle.value.proofs.residue_of.Goals as goal

pub returns : goal.returns
returns c =
    let x = c.args in
    rw (c.modulus.ensures, masked x.t x.z) (low_bits x.t x.z c.ranges.z)
