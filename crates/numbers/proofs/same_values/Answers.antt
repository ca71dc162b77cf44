-- `numbers::same_values` meets its contract: what `==` says of slices.
use Rattle.std.proofs.lemmas.Bool.Decides.{Decides-int_eq}
use Rattle.std.proofs.lemmas.Slice.Eq.{slice_eq-Decides}
use Rattle.numbers.proofs.same_values.Goals as goal

pub returns : goal.returns
returns c = slice_eq-Decides Decides-int_eq _ _ _ c.eq.ensures
