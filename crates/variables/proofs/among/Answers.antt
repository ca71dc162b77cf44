-- `variables::among` meets its contract. The loop's invariant: the name is not among those so far.
use mathlib.Core.Path.{◌≡◌, sym, ◌∙◌}
use mathlib.Core.Bool.{false}
use native.Mathlib.Numerals.{add-one}
use native.Mathlib.Omega.{arith}
use lib.ListN.{length, get_or}
use Rattle.paper.specs.Words.{same_bytes}
use Rattle.tree.specs.Trees.{name_at}
use Rattle.variables.proofs.Lookups.{none_more, some_there, none_of_none}
use Rattle.variables.proofs.among.Goals as goal
use Rattle.variables.proofs.among.Goals.{else-ends_alike-via-else-ends_alike, else-ends_alike-via-then-ends_alike+else-same_name}

pub loop-other-init : goal.loop-other-init
loop-other-init c = none_of_none _ _ _

pub returns-then-same_name : goal.returns-then-same_name
returns-then-same_name c =
    let A = c.args in
    sym (some_there A.text.now A.places.now (name_at A.text.now A.place) (length A.places.now) c.loop-other.other-index (omega arith) (sym c.same_name.ensures ∙ c.if-same_name.true))

pub loop-other-preserved : goal.loop-other-preserved
loop-other-preserved c =
    let A = c.args in
    let t = A.text.now in
    let i = c.loop-other.other-index in
    let other : same_bytes (name_at t A.place) (name_at t (get_or A.places.now i 0)) ≡ false =
    elim c.else-ends_alike.branch [ else-ends_alike-via-then-ends_alike+else-same_name w ↦ sym w.same_name.ensures ∙ w.if-same_name.false | else-ends_alike-via-else-ends_alike w ↦ c.ends_alike.ensures.apart w.if-ends_alike.false ] in
    rw (add-one i) (none_more t A.places.now (name_at t A.place) i c.loop-other.invariant other)

pub returns : goal.returns
returns c =
    let end : c.loop-other.other-index ≡ length c.args.places.now = omega arith in
    sym (rw end at c.loop-other.invariant)
