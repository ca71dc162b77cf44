-- Two residues are the same where the values are.
use Rattle.value.proofs.Residues.{same_residues}
use Rattle.value.proofs.is_same.Goals as goal

pub returns : goal.returns
returns c =
    let x = c.args in
    rw (c.wrapped.ensures, c.wrapped-2.ensures) (same_residues x.t x.a x.b)
