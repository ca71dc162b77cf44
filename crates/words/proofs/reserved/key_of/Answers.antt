-- `words::reserved::key_of` meets its contract. The loop's invariant: the bytes behind those left are counted.
use mathlib.Core.Path.{◌≡◌, ap, ◌∙◌}
use Prim.Native.Nat.{◌+◌, ◌-◌, ◌*◌, ◌<◌}
use native.Mathlib.Omega.{arith}
use lib.ListN.{length, get_or}
use Rattle.std.proofs.lemmas.Iterator.Adapters.{YieldsList-from_rev_slice}
use Rattle.std.proofs.lemmas.Iterator.Consumers.{YieldsList-turn, YieldsList-end}
use Rattle.std.proofs.lemmas.List.{length_push}
use Rattle.std.proofs.Math.ListN.{length-reverse}
use Rattle.paper.specs.Words.{capital}
use Rattle.words.specs.Keys.{key_digit}
use Rattle.words.proofs.Keys.{digit_small, key_from, key_none, key_fits, key_before, from_back}
use Rattle.words.proofs.reserved.key_of.Goals as goal

pub loop-b-init : goal.loop-b-init
loop-b-init c =
    let e : length c.args.run.now - 0 ≡ length c.args.run.now = omega arith in
    (omega arith, rw e (key_none c.args.run.now))

pub overflow_mul-key : goal.overflow_mul-key
overflow_mul-key c =
    let run = c.args.run.now in
    let x = from_back run _ _ (YieldsList-turn (YieldsList-from_rev_slice run cc) c.loop-b.yielded _ c.loop-b.yielded_by _ _ c.in-Some.field-0 c.in-Some.is c.next.ensures.steps) in
    let fits : c.loop-b.key < 353814783205469041 = rw c.loop-b.invariant.1 (key_fits run (length run - length c.loop-b.yielded) (omega arith)) in
    omega arith

pub overflow_add-key : goal.overflow_add-key
overflow_add-key c =
    let run = c.args.run.now in
    let x = from_back run _ _ (YieldsList-turn (YieldsList-from_rev_slice run cc) c.loop-b.yielded _ c.loop-b.yielded_by _ _ c.in-Some.field-0 c.in-Some.is c.next.ensures.steps) in
    let fits : c.loop-b.key < 353814783205469041 = rw c.loop-b.invariant.1 (key_fits run (length run - length c.loop-b.yielded) (omega arith)) in
    let d : c.key_digit.result < 29 = rw c.key_digit.ensures (digit_small (capital c.in-Some.field-0.now)) in
    omega arith

pub loop-b-preserved : goal.loop-b-preserved
loop-b-preserved c =
    let run = c.args.run.now in
    let n = length c.loop-b.yielded in
    let x = from_back run _ _ (YieldsList-turn (YieldsList-from_rev_slice run cc) c.loop-b.yielded _ c.loop-b.yielded_by _ _ c.in-Some.field-0 c.in-Some.is c.next.ensures.steps) in
    let more = length_push c.loop-b.yielded c.in-Some.field-0 in
    let next : key_from run (length run - (n + 1)) ≡ key_from run (length run - n) * 29 + key_digit (capital (get_or run (length run - (n + 1)) 0)) =
    key_before run (length run - (n + 1)) (length run - n) (omega arith) (omega arith) in (
      omega arith,
      rw (more, next, c.loop-b.invariant.1, c.key_digit.ensures) (ap (λ b. key_from run (length run - n) * 29 + key_digit (capital b)) x.1),
    )

pub returns : goal.returns
returns c =
    let run = c.args.run.now in
    let t = YieldsList-end (YieldsList-from_rev_slice run cc) c.loop-b.yielded _ c.loop-b.yielded_by _ _ c.in-None.is c.next.ensures.steps in
    let e : length run - length c.loop-b.yielded ≡ 0 = omega (arith, t.1, length-reverse run) in
    c.loop-b.invariant.1 ∙ ap (key_from run) e
