-- Laws of reading a number with or without minus: one for each way on.
use mathlib.Core.Path.{◌≡◌, refl, sym, ap, subst, ◌∙◌}
use mathlib.Core.Bool.{true, false, cond}
use mathlib.Core.Option.{Option, none, some}
use mathlib.Core.List.{List}
use Prim.Native.Nat.{ℕ, ◌+◌, ◌*◌, ◌/◌, ◌%◌, ◌≤◌, ◌<◌}
use native.Mathlib.Omega.{arith}
use lib.Dec.{eqb}
use lib.IntN.{ℤ, pos, neg_ℤ}
use lib.ListN.{length}
use Rattle.std.specs.Prelude.{Ok, Err}
use Rattle.paper.specs.declared.Why.TheVariants.{BadShape}
use Rattle.paper.specs.Refusals.{Answer, refusal, ◌>>=◌}
use Rattle.paper.specs.Words.{Token}
use Rattle.paper.specs.Reading as R
use Rattle.paper.specs.Reading.{Read, ok}
use Rattle.words.specs.declared.Word.{Word}
use Rattle.words.specs.Denoted.{IsWord}
use Rattle.tree.specs.Nodes.{written}
use Rattle.tree.proofs.Forms.{whole, put_place, put_whole}
use Rattle.tree.proofs.Puts.{written_same, written_word0}
use Rattle.expressions.specs.Reads.{Answered, Runs, Room}
use Rattle.expressions.proofs.Tokens.{key_minus}
use Rattle.expressions.proofs.Moves.{class_moves}
use Rattle.expressions.proofs.Answers.{done}
use Rattle.expressions.proofs.Steps.{next, sees_it, sees_other, passed, a_number_lem, no_number, here}
use Rattle.statements.specs.Lists.{Whole, whole_node, SignedNumberDid}

-- at the place p
abbrev pub plain : ℕ → ℤ → Whole
plain p z = record { place = p; value = z }

-- the node of a number, its value in two words
number_put : (p : List ℕ) (n k v c : ℕ) → 0 < n → 4 * n + 4 ≤ length p
    → whole_node (written p n k (v % 65536) (v / 65536) c) n ≡ plain c (cond (eqb k 2) (neg_ℤ (pos v)) (pos v))
number_put p n k v c s fits =
    let all : v % 65536 + 65536 * (v / 65536) ≡ v = omega arith in
    let value : whole k (v % 65536) (v / 65536) ≡ cond (eqb k 2) (neg_ℤ (pos v)) (pos v) = rw all in
    rw (put_place p n k (v % 65536) (v / 65536) c fits, put_whole p n (v % 65536) (v / 65536) c s fits k, value)

abbrev number_then : List Token → (ℕ → ℤ) → Option ℕ → Answer (Read ℤ)
number_then ts mk o = ◌>>=◌ {A = Read ℕ} (elim o [ none ↦ R.broken ts | some a ↦ ok a (R.behind ts) ]) (λ n. ok (mk n.it) n.rest)

abbrev pub numbered : List Token → Answer (Read ℤ) → Answer (Read Whole)
numbered ts s = s >>= λ z. ok (plain (R.here ts) z.it) z.rest

-- by what comes next, a minus or not
signed_plain : (ts : List Token) → R.sees "-" ts ≡ false → R.signed_number ts ≡ number_then ts pos (R.a_number (R.next ts))
signed_plain ts e = rw (e, R.signed_number)

signed_minus : (ts : List Token) → R.sees "-" ts ≡ true
    → R.signed_number ts ≡ number_then (R.behind ts) (λ n. neg_ℤ (pos n)) (R.a_number (R.next (R.behind ts)))
signed_minus ts e = rw (e, R.signed_number)

module _ (D : ℕ → Whole) (t : List ℕ) (at : ℕ) (w : Word) (i : IsWord t at w) where
  plain_says : (m : ℕ) → w.class ≡ 2 → D m ≡ plain w.at (pos w.value)
      → Runs D t at 1 0 (λ f ts. numbered ts (R.signed_number ts)) (Ok (record { at = w.end; count = m; root = m }))
  plain_says m ec d ts h f l =
      let b = passed t at w i ts h 2 ec refl in
      let e = signed_plain ts (sees_other t at w i ts h "-" 69 key_minus (λ z. omega arith)) ∙ ap (number_then ts pos) (a_number_lem t at w i ts h ec) in
      subst (λ s. Answered D t 1 (length ts) (numbered ts s) (Ok (record { at = w.end; count = m; root = m }))) (sym e)
      (done D t 1 (length ts) _ _ w.end m m (d ∙ ap (λ p. plain p (pos w.value)) (sym (next t at w i ts h).here)) b.0 (omega arith))

  other_says : (w.class ≡ 2 → ⊥) → (w.class ≡ 69 → ⊥) → Runs D t at 1 0 (λ f ts. numbered ts (R.signed_number ts)) (Err (refusal BadShape w.at))
  other_says e2 e69 ts h f l =
      let e = signed_plain ts (sees_other t at w i ts h "-" 69 key_minus e69) ∙ ap (number_then ts pos) (no_number t at w i ts h e2) in
      subst (λ s. Answered D t 1 (length ts) (numbered ts s) (Err (refusal BadShape w.at))) (sym e) (here t at w i ts h BadShape)

  module _ (ec : w.class ≡ 69) (v : Word) (j : IsWord t w.end v) where
    minus_says : (m : ℕ) → v.class ≡ 2 → D m ≡ plain w.at (neg_ℤ (pos v.value))
        → Runs D t at 1 0 (λ f ts. numbered ts (R.signed_number ts)) (Ok (record { at = v.end; count = m; root = m }))
    minus_says m ev d ts h f l =
        let us = R.behind ts in
        let b = passed t at w i ts h 69 ec refl in
        let a = passed t w.end v j us b.0 2 ev refl in
        let e = signed_minus ts (sees_it t at w i ts h "-" 69 key_minus ec) ∙ ap (number_then us (λ n. neg_ℤ (pos n))) (a_number_lem t w.end v j us b.0 ev) in
        subst (λ s. Answered D t 1 (length ts) (numbered ts s) (Ok (record { at = v.end; count = m; root = m }))) (sym e)
        (done D t 1 (length ts) _ _ v.end m m (d ∙ ap (λ p. plain p (neg_ℤ (pos v.value))) (sym (next t at w i ts h).here)) a.0 (omega arith))

    none_says : (v.class ≡ 2 → ⊥) → Runs D t at 1 0 (λ f ts. numbered ts (R.signed_number ts)) (Err (refusal BadShape v.at))
    none_says ev ts h f l =
        let us = R.behind ts in
        let b = passed t at w i ts h 69 ec refl in
        let e = signed_minus ts (sees_it t at w i ts h "-" 69 key_minus ec) ∙ ap (number_then us (λ n. neg_ℤ (pos n))) (no_number t w.end v j us b.0 ev) in
        subst (λ s. Answered D t 1 (length ts) (numbered ts s) (Err (refusal BadShape v.at))) (sym e) (here t w.end v j us b.0 BadShape)

-- ---- what is read, and its node

-- the node of a number: its kind, its value in two words, its place
module _ {t old new : List ℕ} {at n : ℕ} (k v p e : ℕ) where
  noded : eqb k 31 ≡ false → 4 * (n + 1) + 4 ≤ length old → new ≡ written old (n + 1) k (v % 65536) (v / 65536) p
      → at < e → e ≤ length t
      → ((D : ℕ → Whole) → D (n + 1) ≡ plain p (cond (eqb k 2) (neg_ℤ (pos v)) (pos v))
      → Runs D t at 1 0 (λ f ts. numbered ts (R.signed_number ts)) (Ok (record { at = e; count = n + 1; root = n + 1 })))
      → SignedNumberDid t old new at n (Ok (record { at = e; count = n + 1; root = n + 1 }))
  noded z fits en a b x = (
    record {
      within = omega arith;
      same = rw en (written_same old (n + 1) k (v % 65536) (v / 65536) p n (omega arith));
      runs = x (whole_node new) (ap (λ q. whole_node q (n + 1)) en ∙ number_put old (n + 1) k v p (omega arith) fits);
    },
    rw en (rw (written_word0 old (n + 1) k (v % 65536) (v / 65536) p fits) z),
  )

module _ {t old : List ℕ} {at n : ℕ} {w : Word} (i : IsWord t at w) where
  pub number_plain : {new : List ℕ} → w.class ≡ 2 → Room t old at n
      → new ≡ written old (n + 1) 1 (w.value % 65536) (w.value / 65536) w.at → SignedNumberDid t old new at n (Ok (record { at = w.end; count = n + 1; root = n + 1 }))
  number_plain {new} e room en =
      let m = class_moves t at w i 2 e refl refl in
      noded 1 w.value w.at w.end refl (omega (arith, room, i.from, i.to)) en (omega (arith, i.from)) i.to
      (λ D d. plain_says D t at w i (n + 1) e d)

  pub number_other : (w.class ≡ 2 → ⊥) → (w.class ≡ 69 → ⊥) → SignedNumberDid t old old at n (Err (refusal BadShape w.at))
  number_other e g = (
    record { within = omega (arith, i.from, i.on, i.to); same = λ k h. refl; runs = other_says (whole_node old) t at w i e g },
    tt,
  )

  module _ (e : w.class ≡ 69) {v : Word} (j : IsWord t w.end v) where
    pub number_none : (v.class ≡ 2 → ⊥) → SignedNumberDid t old old at n (Err (refusal BadShape v.at))
    number_none g = (
      record {
        within = omega (arith, i.from, i.on, j.from, j.on, j.to);
        same = λ k h. refl;
        runs = none_says (whole_node old) t at w i e v j g;
      },
      tt,
    )

    pub number_minus : {new : List ℕ} → v.class ≡ 2 → Room t old at n
        → new ≡ written old (n + 1) 2 (v.value % 65536) (v.value / 65536) w.at → SignedNumberDid t old new at n (Ok (record { at = v.end; count = n + 1; root = n + 1 }))
    number_minus {new} g room en =
        let m = class_moves t w.end v j 2 g refl refl in
        noded 2 v.value w.at v.end refl (omega (arith, room, i.from, i.on, j.from, j.to)) en (omega (arith, i.from, i.on, j.from)) j.to
        (λ D d. minus_says D t at w i e v j (n + 1) g d)
