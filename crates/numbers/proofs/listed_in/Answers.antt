-- `numbers::listed_in` meets its contract.
use native.Mathlib.Omega.{arith}
use Rattle.pack.proofs.Numbers.{rest}
use Rattle.numbers.proofs.Signs.{read_back}
use Rattle.numbers.proofs.Commas.{nothing_read, value_read, digits_end, comma_read}
use Rattle.numbers.proofs.listed_in.Goals as goal
use Rattle.numbers.proofs.listed_in.Goals.{then-count-s-via-then-count-s, then-count-s-via-else-count-s+then-s-count-ne44}

pub loop-values-init : goal.loop-values-init
loop-values-init c = nothing_read _ _

pub returns-then-count-s : goal.returns-then-count-s
returns-then-count-s c =
    let L = c.loop-values in
    let p = c.in-Some in
    record {
      spelled = value_read _ _ _ _ _ _ p.w _ L.invariant (omega arith) (rest c.args.s.now L.count) p.ensures (read_back _ p.ensures.small);
      no_comma =
          elim c.then-count-s.branch [
            | then-count-s-via-then-count-s w ↦ λ l. absurd (omega arith)
            | then-count-s-via-else-count-s+then-s-count-ne44 w ↦ λ l e. absurd (omega arith)
          ];
      no_digit = digits_end _ _ _ _ _ _ p.w _ L.invariant (omega arith) (rest c.args.s.now L.count) p.ensures (read_back _ p.ensures.small);
    }

pub loop-values-preserved : goal.loop-values-preserved
loop-values-preserved c =
    let L = c.loop-values in
    let p = c.in-Some in
    let r = value_read _ _ _ _ _ _ p.w _ L.invariant (omega arith) (rest c.args.s.now L.count) p.ensures (read_back _ p.ensures.small) in
    comma_read _ _ _ _ _ r (omega (arith, r.within)) (omega arith)
