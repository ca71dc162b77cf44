-- Laws of reading a FOR: its head, its list, and END_FOR.
use mathlib.Core.Path.{◌≡◌, sym, ◌∙◌}
use mathlib.Core.List.{List}
use Prim.Native.Nat.{ℕ, suc, ◌+◌, ◌≤◌}
use native.Mathlib.Omega.{arith}
use Rattle.std.specs.Prelude.{Result, Ok, Err}
use Rattle.paper.specs.declared.Refusal.{Refusal}
use Rattle.paper.specs.Refusals.{◌>>=◌}
use Rattle.paper.specs.Words.{Token}
use Rattle.paper.specs.Reading as R
use Rattle.paper.specs.Reading.{ok}
use Rattle.tree.specs.Nodes.{written}
use Rattle.tree.specs.Trees.{front_at}
use Rattle.expressions.specs.declared.Parsed.{Parsed}
use Rattle.expressions.specs.Reads.{ExpectDid}
use Rattle.expressions.proofs.Tokens.{key_end_for}
use Rattle.statements.specs.Lists.{head_of, ListDid, HeadDid, RepeatDid}
use Rattle.statements.proofs.Runs.{assoc, cong}
use Rattle.statements.proofs.Rooms.{Spare, ended}
use Rattle.statements.proofs.Parts.{Part, part, did, stepped, part_bad, part_good, past_bad, past, node}
use Rattle.statements.proofs.Lists.{whole}
use Rattle.statements.proofs.Nodes.{looped, loop_node}

repeat_step : (depth p f : ℕ) (ts : List Token)
    → R.repeat (suc f) depth p ts
    ≡ (head_of f p ts >>= λ h. (R.list f (suc depth) h.rest >>= λ b. (R.expect "END_FOR" b.rest >>= λ us. ok (looped p h.it b.it) us)))
unfolding R.list
repeat_step depth p f ts =
    sym (assoc (R.taken R.a_name ts) _ _ ∙ cong (R.taken R.a_name ts) _ _ (λ v.
    assoc (R.expect ":=" v.rest) _ _ ∙ cong (R.expect ":=" v.rest) _ _ (λ us.
    assoc (R.expression f 0 1 us) _ _ ∙ cong (R.expression f 0 1 us) _ _ (λ a.
    assoc (R.expect "TO" a.rest) _ _ ∙ cong (R.expect "TO" a.rest) _ _ (λ vs.
    assoc (R.expression f 0 1 vs) _ _ ∙ cong (R.expression f 0 1 vs) _ _ (λ b.
    assoc (R.step f p b.rest) _ _ ∙ cong (R.step f p b.rest) _ _ (λ c.
    assoc (R.expect "DO" c.rest) _ _)))))))

module _ {t old : List ℕ} {at n : ℕ} (depth p : ℕ) where
  stepped_for : {new : List ℕ} {r : Result Parsed Refusal} {e : ℕ}
      → Part (front_at t) t old new at n e 8 (λ f ts. head_of f p ts >>= λ h. (R.list f (suc depth) h.rest >>= λ b. (R.expect "END_FOR" b.rest >>= λ us. ok (looped p h.it b.it) us))) r
      → 1 ≤ e → Part (front_at t) t old new at n 1 11 (λ f ts. R.repeat f depth p ts) r
  stepped_for P l = stepped (repeat_step depth p) P (omega arith)

module _ {t old mid : List ℕ} {at n : ℕ} (depth p : ℕ) where
  pub repeat_bad : {y : Refusal} → HeadDid t old mid at n p (Err y) → RepeatDid t old mid at depth n p (Err y)
  repeat_bad H = did H.within (stepped_for depth p (part_bad (part H) _ 1) (omega arith))

  module _ {h : Parsed} (H : HeadDid t old mid at n p (Ok h)) {new : List ℕ} where
    pub repeat_half : {y : Refusal} → ListDid t mid new h.at (depth + 1) h.count 0 (Err y) → RepeatDid t old new at depth n p (Err y)
    repeat_half B =
        did (omega (arith, H.within, B.1.within)) (stepped_for depth p (part_good (part H) _ (part_bad (whole depth B) _ 1) (omega arith)) (omega arith))

    module _ {b : Parsed} (B : ListDid t mid new h.at (depth + 1) h.count 0 (Ok b)) where
      pub repeat_open : {y : Refusal} → ExpectDid t b.at 22 (Err y) → RepeatDid t old new at depth n p (Err y)
      repeat_open E =
          did (omega (arith, H.within, B.1.within, E.within))
          (stepped_for depth p (part_good (part H) _ (part_good (whole depth B) _ (past_bad "END_FOR" key_end_for E _ 1) (omega arith)) (omega arith)) (omega arith))

      pub repeat_good : {o : ℕ} → ExpectDid t b.at 22 (Ok o) → {last : List ℕ} → Spare t new at n o b.count
          → last ≡ written new (b.count + 1) 43 h.root b.root p
          → RepeatDid t old last at depth n p (Ok (record { at = o; count = b.count + 1; root = b.count + 1 }))
      repeat_good E {last} S e =
          let v : h.root ≤ b.count = omega (arith, H.within, B.1.within) in
          let d = loop_node t mid new last h.count b.count h.root b.root p B.1.same H.within.rooted v B.1.within.rooted S.pool e in
          did (ended S)
          (stepped_for depth p (part_good (part H) _ (part_good (whole depth B) _ (past "END_FOR" key_end_for E _ (node 43 h.root b.root p e d)) (omega arith)) (omega arith)) (omega arith))
