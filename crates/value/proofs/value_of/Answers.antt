-- The place among the type's values, less the number of those below 0.
use mir.Facts.{to_z-of_z}
use Rattle.value.proofs.Values.{from_lowest, value_fits}
use Rattle.value.proofs.value_of.Goals as goal

pub returns : goal.returns
returns c =
    let x = c.args in
    rw (c.wrapped.ensures, c.negatives-n.ensures, from_lowest x.t x.r) (to_z-of_z (value_fits x.t x.r))
