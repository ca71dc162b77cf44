-- Reading a number, and names parted by commas.
use mathlib.Core.Path.{◌≡◌, refl, sym, ap, ap₂, subst, ◌∙◌}
use mathlib.Core.Bool.{true, false, cond}
use mathlib.Core.Option.{none, some}
use mathlib.Core.List.{List, [], ◌∷◌, ◌++◌, append_assoc}
use Prim.Native.Nat.{ℕ, zero, suc, ◌+◌, ◌*◌, ◌/◌, ◌%◌, ◌≤◌, ◌<◌}
use native.Mathlib.Omega.{arith}
use lib.Dec.{eqb}
use lib.ListN.{length}
use borrow.Author.Tests.{eq-eqb, ne_eqb}
use Rattle.std.specs.Prelude.{Result, Ok, Err}
use Rattle.paper.specs.declared.Refusal.{Refusal}
use Rattle.paper.specs.declared.Why.TheVariants.{BadShape}
use Rattle.paper.specs.Refusals.{Answer, refused, given, refusal, ◌>>=◌}
use Rattle.paper.specs.Words.{Token}
use Rattle.paper.specs.Source.{Name, Named}
use Rattle.paper.specs.Reading as R
use Rattle.paper.specs.Reading.{Read, ok}
use Rattle.words.specs.declared.Word.{Word}
use Rattle.words.specs.Denoted.{words_at, folded, IsWord}
use Rattle.tree.specs.Nodes.{Same, written}
use Rattle.tree.specs.Trees.{name_at, names_at}
use Rattle.tree.proofs.Puts.{written_same}
use Rattle.tree.proofs.Forms.{put_place, put_wide, put_names}
use Rattle.expressions.specs.declared.Parsed.{Parsed}
use Rattle.expressions.specs.Reads.{Answered}
use Rattle.reader.specs.Declarations.{Natural, natural_at, NumberDid, NamesDid}
use Rattle.expressions.proofs.Nodes.{both_same}
use Rattle.expressions.proofs.Tokens.{Next, next_of, name_here, number_class, name_class, key_comma}
use Rattle.expressions.proofs.Moves.{class_moves}
use Rattle.expressions.proofs.Reached.{further}
use Rattle.statements.proofs.Runs.{made_bad, made_good}
use Rattle.reader.proofs.Answers.{taken_none, taken_some, sees_class, again, refuse, leafed}

-- ---- a number

number_is : (t : List ℕ) (ts : List Token) (w : Word) → Next t ts w → R.a_number (R.next ts) ≡ cond (eqb w.class 2) (some w.value) none
number_is t ts w N = ap R.a_number N.next ∙ number_class w.class w.value (folded t w.at w.end)

pub number_bad : {t old : List ℕ} {at n : ℕ} {w : Word} → IsWord t at w → (w.class ≡ 2 → ⊥) → NumberDid t old old at n (Err (refusal BadShape w.at))
number_bad {t} {old} {at} {n} {w} i h =
    refuse i
    (λ ts f l N.
    ap (λ a. a >>= λ x. ok (record { place = R.here ts; value = x.it }) x.rest)
    (taken_none R.a_number ts (number_is t ts w N ∙ ap (λ b. cond b (some w.value) none) (ne_eqb _ _ h))))

pub number_good : {t old new : List ℕ} {at n : ℕ} {w : Word} → IsWord t at w → w.class ≡ 2
    → 4 * (n + 1) + 4 ≤ length old → new ≡ written old (n + 1) 1 (w.value % 65536) (w.value / 65536) w.at
    → NumberDid t old new at n (Ok (record { at = w.end; count = n + 1; root = n + 1 }))
number_good {t} {old} {new} {at} {n} {w} i h fits en =
    leafed i (class_moves t at w i 2 h refl refl) (rw h refl) (rw en (written_same old (n + 1) 1 (w.value % 65536) (w.value / 65536) w.at n (omega arith)))
    (λ ts f l g N.
    let v : w.value % 65536 + 65536 * (w.value / 65536) ≡ w.value = omega arith in
    let node : natural_at new (n + 1) ≡ record { place = R.here ts; value = w.value } =
    rw en
    (ap₂ (λ p x. record { place = p; value = x })
    (put_place old (n + 1) 1 (w.value % 65536) (w.value / 65536) w.at fits ∙ sym N.here)
    (put_wide old (n + 1) (w.value % 65536) (w.value / 65536) w.at (omega arith) fits 1 ∙ v)) in
    ap (λ a. a >>= λ x. ok (record { place = R.here ts; value = x.it }) x.rest)
    (taken_some R.a_number ts w.value (number_is t ts w N ∙ ap (λ b. cond b (some w.value) none) (eq-eqb _ _ h)))
    ∙ ap (λ x. ok x (R.behind ts)) (sym node))

-- ---- names

names_none : (f : ℕ) (ts : List Token) → R.a_name (R.next ts) ≡ none → R.names (suc f) ts ≡ refused BadShape (R.here ts)
unfolding R.names
names_none f ts h = rw (taken_none R.a_name ts h)

module _ (f : ℕ) (ts : List Token) (s : Name) (h : R.a_name (R.next ts) ≡ some s) where
  names_one : R.sees "," (R.behind ts) ≡ false → R.names (suc f) ts ≡ ok (record { place = R.here ts; name = s } ∷ []) (R.behind ts)
  unfolding R.names
  names_one g = rw (taken_some R.a_name ts s h, g, ◌>>=◌)

  names_two : R.sees "," (R.behind ts) ≡ true
      → R.names (suc f) ts ≡ (R.names f (R.behind (R.behind ts)) >>= λ r. ok (record { place = R.here ts; name = s } ∷ r.it) r.rest)
  unfolding R.names
  names_two g = rw (taken_some R.a_name ts s h, g, ◌>>=◌)

pub names_bad : {t old : List ℕ} {at n : ℕ} {w : Word} (before : ℕ) → IsWord t at w → (w.class ≡ 1 → ⊥) → NamesDid t old old at n before (Err (refusal BadShape w.at))
names_bad {t} {old} {at} {n} {w} before i h = refuse i go
  where
    go : (ts : List Token) (f : ℕ) → 16 * length ts + 0 < f → Next t ts w
        → (R.names f ts >>= λ x. ok (names_at t old before ++ x.it) x.rest) ≡ refused BadShape (R.here ts)
    go ts zero l N = absurd (omega arith)
    go ts (suc f) l N =
        ap (λ a. a >>= λ x. ok (names_at t old before ++ x.it) x.rest)
        (names_none f ts
        (ap R.a_name N.next ∙ name_class w.class w.value (folded t w.at w.end) ∙ ap (λ b. cond b (some (folded t w.at w.end)) none) (ne_eqb w.class 1 h)))

module _ (old : List ℕ) {t new : List ℕ} {at n before : ℕ} {w c : Word} (i : IsWord t at w) (h : w.class ≡ 1) (low : before ≤ n) (fits : 4 * (n + 1) + 4 ≤ length old)
    (en : new ≡ written old (n + 1) 33 before 0 w.at) (j : IsWord t w.end c) where
  abbrev here : Named
  here = record { place = w.at; name = name_at t w.at }

  name_is : (ts : List Token) → words_at t at ≡ given ts → R.a_name (R.next ts) ≡ some (name_at t w.at)
  name_is ts g = ap R.a_name (name_here t at ts w i g h)

  named : names_at t new (n + 1) ≡ names_at t old before ++ here ∷ []
  named = rw en (put_names t old (n + 1) before 0 w.at (omega arith) fits (omega arith))

  kept : Same n old new
  kept = rw en (written_same old (n + 1) 33 before 0 w.at n (omega arith))

  comma : (ts : List Token) → Next t ts w → R.sees "," (R.behind ts) ≡ eqb c.class 61
  comma ts N = sees_class "," 61 key_comma t (R.behind ts) c (next_of t w.end (R.behind ts) c j (N.behind (rw h refl)))

  pub names_last : (c.class ≡ 61 → ⊥) → NamesDid t old new at n before (Ok (record { at = w.end; count = n + 1; root = n + 1 }))
  names_last z = leafed i (class_moves t at w i 1 h refl refl) (rw h refl) kept go
    where
      go : (ts : List Token) (f : ℕ) → 16 * length ts + 0 < f → words_at t at ≡ given ts → Next t ts w
          → (R.names f ts >>= λ x. ok (names_at t old before ++ x.it) x.rest) ≡ ok (names_at t new (n + 1)) (R.behind ts)
      go ts zero l g N = absurd (omega arith)
      go ts (suc f) l g N =
          ap (λ a. a >>= λ x. ok (names_at t old before ++ x.it) x.rest) (names_one f ts (name_at t w.at) (name_is ts g) (comma ts N ∙ ne_eqb _ _ z))
          ∙ ap (λ p. ok (names_at t old before ++ record { place = p; name = name_at t w.at } ∷ []) (R.behind ts)) N.here
          ∙ ap (λ x. ok x (R.behind ts)) (sym named)

  pub names_more : {end : List ℕ} {r : Result Parsed Refusal} → c.class ≡ 61 → NamesDid t new end c.end (n + 1) (n + 1) r → NamesDid t old end at n before r
  names_more {end} {r} z E =
      let moves = class_moves t at w i 1 h refl refl in
      record {
        within = further _ _ _ (record { at = c.end; count = n + 1; root = n + 1 }) (omega (arith, i.from, moves, j.from, j.on, j.to)) r E.within;
        same = both_same n (n + 1) old new end kept (omega arith) E.same;
        runs = go;
      }
    where
      go : (ts : List Token) → words_at t at ≡ given ts → (f : ℕ) → 16 * length ts + 0 < f
          → Answered (names_at t end) t 1 (length ts) (R.names f ts >>= λ x. ok (names_at t old before ++ x.it) x.rest) r
      go ts g zero l = absurd (omega arith)
      go ts g (suc f) l =
          let N = next_of t at ts w i g in
          let M = next_of t w.end (R.behind ts) c j (N.behind (rw h refl)) in
          let less = N.less (rw h refl) in
          let less2 = M.less (rw z refl) in
          let us = R.behind (R.behind ts) in
          rw (names_two f ts (name_at t w.at) (name_is ts g) (comma ts N ∙ eq-eqb _ _ z), N.here)
          (again (names_at t end) t 1 (length ts) 1 (length us) (λ b. names_at t new (n + 1) ++ b) (λ b. here ∷ b) (λ b. names_at t old before ++ b)
          (R.names f us) r (E.runs us (M.behind (rw z refl)) f (omega arith))
          (λ b. ap (λ a. a ++ b) named ∙ append_assoc (names_at t old before) (here ∷ []) b) (omega arith))

-- ---- a number in the midst

abbrev as_read : List Token → ℕ → Natural
as_read us v = record { place = R.here us; value = v }

module _ {t old new : List ℕ} {at n : ℕ} {A : Type 0} (D : ℕ → A) (e N : ℕ) (k : Natural → List Token → Answer (Read A)) (us : List Token) (h : words_at t at ≡ given us) where
  pub number_then_bad : {y : Refusal} → NumberDid t old new at n (Err y) → Answered D t e N (R.taken R.a_number us >>= λ b. k (record { place = R.here us; value = b.it }) b.rest) (Err y)
  number_then_bad {y} L =
      made_bad D t e N (natural_at new) 1 (length us) (R.taken R.a_number us) (as_read us) (λ b. k (as_read us b.it) b.rest) y
      (L.runs us h (16 * length us + 1) (omega arith))

  pub number_then_good : {q : Parsed} → NumberDid t old new at n (Ok q) → (r : Result Parsed Refusal)
      → ((vs : List Token) → words_at t q.at ≡ given vs → length vs + 1 ≤ length us → Answered D t e N (k (natural_at new q.root) vs) r)
      → Answered D t e N (R.taken R.a_number us >>= λ b. k (record { place = R.here us; value = b.it }) b.rest) r
  number_then_good {q} L r g =
      made_good D t e N (natural_at new) 1 (length us) (R.taken R.a_number us) (as_read us) (λ b. k (as_read us b.it) b.rest) q r
      (L.runs us h (16 * length us + 1) (omega arith))
      (λ b vs x w l. subst (λ y. Answered D t e N (k y vs) r) x (g vs w l))
