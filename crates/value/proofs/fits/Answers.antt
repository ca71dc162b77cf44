-- Between the ends.
use mathlib.Core.Bool.{true, false}
use mathlib.Core.Path.{◌≡◌}
use lib.Signed.{le_z}
use mir.Facts.{to_z-of_z}
use Rattle.paper.specs.Types.{lowest, fits}
use Rattle.value.proofs.fits.Goals as goal

pub returns-then-lowest_of-z : goal.returns-then-lowest_of-z
unfolding fits
returns-then-lowest_of-z c =
    let t = c.args.t in
    let z = c.args.z in
    let f = c.ranges.z in
    let low : le_z (lowest t) z ≡ true = rw (to_z-of_z f, to_z-of_z (record { sfits = c.lowest_of.type_inv }), c.lowest_of.ensures) at c.if-lowest_of-z.true in
    rw (to_z-of_z f, to_z-of_z (record { sfits = c.highest_of.type_inv }), c.highest_of.ensures, low)

pub returns-else-lowest_of-z : goal.returns-else-lowest_of-z
unfolding fits
returns-else-lowest_of-z c =
    let t = c.args.t in
    let z = c.args.z in
    let f = c.ranges.z in
    let low : le_z (lowest t) z ≡ false = rw (to_z-of_z f, to_z-of_z (record { sfits = c.lowest_of.type_inv }), c.lowest_of.ensures) at c.if-lowest_of-z.false in
    rw (to_z-of_z f, to_z-of_z (record { sfits = c.lowest_of.type_inv }), c.lowest_of.ensures, low)
