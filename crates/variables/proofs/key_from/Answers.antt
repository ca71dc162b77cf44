-- `variables::key_from` meets its contract. The loop's invariant: the bytes behind those left are counted.
use mathlib.Core.Path.{◌≡◌, ap, ◌∙◌}
use Prim.Native.Nat.{◌+◌, ◌-◌}
use native.Mathlib.Omega.{arith}
use lib.ListN.{length}
use Rattle.std.proofs.lemmas.Iterator.Adapters.{YieldsList-from_rev_slice}
use Rattle.std.proofs.lemmas.Iterator.Consumers.{YieldsList-turn, YieldsList-end}
use Rattle.std.proofs.lemmas.List.{length_push}
use Rattle.std.proofs.Math.ListN.{length-reverse}
use Rattle.words.proofs.Keys.{from_back}
use Rattle.variables.proofs.Keys as keys
use Rattle.variables.proofs.key_from.Goals as goal

pub loop-b-init : goal.loop-b-init
loop-b-init c =
    let e : length c.args.name.now - 0 ≡ length c.args.name.now = omega arith in
    (omega arith, rw e (keys.key_none c.args.name.now))

pub loop-b-preserved : goal.loop-b-preserved
loop-b-preserved c =
    let s = c.args.name.now in
    let n = length c.loop-b.yielded in
    let x = from_back s _ _ (YieldsList-turn (YieldsList-from_rev_slice s cc) c.loop-b.yielded _ c.loop-b.yielded_by _ _ c.in-Some.field-0 c.in-Some.is c.next.ensures.steps) in
    let more = length_push c.loop-b.yielded c.in-Some.field-0 in
    let next = keys.key_before s (length s - (n + 1)) (length s - n) (omega arith) (omega arith) in
    (omega arith, rw (more, next, ← c.loop-b.invariant.1, ← x.1) (omega arith))

pub returns : goal.returns
returns c =
    let s = c.args.name.now in
    let t = YieldsList-end (YieldsList-from_rev_slice s cc) c.loop-b.yielded _ c.loop-b.yielded_by _ _ c.in-None.is c.next.ensures.steps in
    let e : length s - length c.loop-b.yielded ≡ 0 = omega (arith, t.1, length-reverse s) in
    c.loop-b.invariant.1 ∙ ap (keys.key_from s) e
