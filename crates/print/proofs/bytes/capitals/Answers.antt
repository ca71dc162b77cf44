-- The first bytes are printed in capitals.
use Rattle.std.proofs.Common.{arith, sym, ◌≡◌, ◌∙◌, ◌<◌, ℕ, map, length}
use Rattle.std.proofs.lemmas.Bool.Decides.{nat_tests}
use Rattle.std.specs.Char.{to_ascii_uppercase}
use lib.ListN.{get_or, length-map, get_or-map}
use Rattle.paper.specs.Words.{capital}
use Rattle.print.proofs.Laws.{more}
use Rattle.print.proofs.bytes.capitals.Goals as goal

capital_is : (b : ℕ) → to_ascii_uppercase b ≡ capital b
capital_is b = grind (arith, nat_tests)

pub loop-b-preserved : goal.loop-b-preserved
loop-b-preserved c =
    let s = c.args.s.now in
    let i = c.loop-b.b-index in
    let l : i < length s = omega arith in
    more (map capital s) i (rw (length-map s capital) l) (c.to_ascii_uppercase.ensures.value ∙ capital_is (get_or s i 0) ∙ sym (get_or-map capital s i 0)) c.loop-b.invariant c.byte-a.ensures
