-- The loop's invariant: none of the variables so far has the name.
use mathlib.Core.Path.{◌≡◌, sym, ap, ◌∙◌}
use mathlib.Core.List.{map}
use mathlib.Core.Bool.{false}
use Prim.Native.Nat.{◌/◌}
use native.Mathlib.Omega.{arith}
use lib.ListN.{length}
use Rattle.paper.specs.Words.{capital, same_bytes}
use Rattle.words.proofs.Lengths.{spelled_length}
use Rattle.tree.specs.Nodes.{word_of}
use Rattle.tree.specs.Trees.{name_at}
use Rattle.variables.specs.Table.{key_of}
use Rattle.variables.proofs.Keys.{key_found, key_apart}
use Rattle.variables.proofs.Lookups.{none_next, found_at, found_none, listed_at, listed_none}
use Rattle.variables.proofs.listed.find.Goals as goal
use Rattle.variables.proofs.listed.find.Goals.{else-word-key-via-then-word-key+else-same_name, else-word-key-via-else-word-key}

pub same_name-requires : goal.same_name-requires
same_name-requires c =
    (rw c.name_of-name.ensures (spelled_length c.args.text.now c.args.place), omega arith)

pub returns-then-same_name : goal.returns-then-same_name
returns-then-same_name c =
    let A = c.args in
    let t = A.text.now in
    let place = c.args.place in
    let key =
    sym c.word.ensures ∙ c.if-word-key.true ∙ c.key_from-key.ensures ∙ ap (λ s. key_of (map capital s)) c.name_of-name.ensures in
    let bytes = rw c.word-then-word-key.ensures at (sym c.same_name.ensures ∙ c.if-same_name.true) in
    let same = key_found t A.table.now c.loop-v.v place key bytes in
    record {
      inside = omega arith;
      declared = λ p. found_at t A.table.now place p c.loop-v.v (omega arith) c.loop-v.invariant same;
      listed = λ p. listed_at t A.table.now place p c.loop-v.v (omega arith) c.loop-v.invariant same;
    }

pub loop-v-preserved : goal.loop-v-preserved
loop-v-preserved c =
    let A = c.args in
    let t = A.text.now in
    let tab = A.table.now in
    let v = c.loop-v.v in
    let s = name_at t c.args.place in
    let other : word_of tab v 3 ≡ key_of s → same_bytes s (name_at t (word_of tab v 0)) ≡ false =
    λ e.
    elim c.else-word-key.branch [
      | else-word-key-via-then-word-key+else-same_name w ↦ rw w.word-then-word-key.ensures at (sym w.same_name.ensures ∙ w.if-same_name.false)
      | else-word-key-via-else-word-key w ↦
          absurd (w.if-word-key.false (c.word.ensures ∙ e ∙ sym (c.key_from-key.ensures ∙ ap (λ s. key_of (map capital s)) c.name_of-name.ensures)))
    ] in
    none_next t tab c.args.place v c.loop-v.invariant (key_apart t tab v c.args.place other)

pub returns : goal.returns
returns c =
    let A = c.args in
    let done : c.loop-v.v ≡ length A.table.now / 4 = omega arith in
    record {
      declared = λ p. found_none A.text.now A.table.now c.args.place p (rw done at c.loop-v.invariant);
      listed = λ p. listed_none A.text.now A.table.now c.args.place p (rw done at c.loop-v.invariant);
    }
