-- Keys of names: their bytes counted from the last on, and what they tell of the names in the table.
use mathlib.Core.Path.{◌≡◌, refl, sym, ap, ◌∙◌}
use mathlib.Core.Bool.{Bool, true, false, true≢false, false≢true}
use mathlib.Core.List.{List, [], ◌∷◌, map}
use Prim.Native.Nat.{ℕ, ◌+◌, ◌*◌, ◌%◌, ◌≤◌, ◌<◌}
use native.Mathlib.Numerals.{add-one}
use native.Mathlib.Omega.{arith}
use borrow.Author.Tests.{eqb-true, eqb-false, eq-eqb, ne_eqb}
use lib.Dec.{eqb}
use lib.ListN.{length, get_or, take, drop}
use lib.Seq.{drop-cons, drop-length}
use Rattle.paper.specs.Words.{in_run, run_of, capital, same_bytes}
use Rattle.paper.specs.Source.{Name}
use Rattle.words.specs.Denoted.{name_at}
use Rattle.words.proofs.Truths.{both}
use Rattle.words.proofs.Keys.{same_letter}
use Rattle.words.proofs.Spellings.{same_run}
use Rattle.tree.specs.Nodes.{word_of}
use Rattle.variables.specs.Table.{key_of, name_in}

-- ---- keys

-- of the bytes of a name from a place on
module _ (s : List ℕ) where
  abbrev pub key_from : ℕ → ℕ
  key_from i = key_of (map capital (drop i s))

  pub key_none : 0 ≡ key_from (length s)
  unfolding key_of
  key_none = rw drop-length

  -- the byte before those counted
  pub key_before : (j i : ℕ) → i ≡ j + 1 → i ≤ length s → key_from j ≡ (get_or s j 0 % 32 + 31 * key_from i) % 65536
  unfolding key_of
  key_before j i q h =
      let l : j < length s = omega arith in
      rw (drop-cons s j 0 l, q, add-one j, same_letter (get_or s j 0))

-- ---- names in the table

same_bytes_lem : (s r : List ℕ) → same_bytes s r ≡ true → s ≡ r
unfolding same_bytes
same_bytes_lem [] [] q = refl
same_bytes_lem [] (d ∷ r) q = absurd (false≢true q)
same_bytes_lem (c ∷ s) [] q = absurd (false≢true q)
same_bytes_lem (c ∷ s) (d ∷ r) q = let f = both (eqb c d) _ q in rw (eqb-true c d f.0, same_bytes_lem s r f.1)

-- no name is `?`
no_name : (t : List ℕ) (p : ℕ) → same_bytes (name_at t p) (63 ∷ []) ≡ false
unfolding same_bytes run_of
no_name t p = go (drop p t)
  where
    first : (c : ℕ) (s : List ℕ) (b : Bool) → in_run c ≡ b
        → same_bytes (map capital (take 24 (elim b [ true ↦ c ∷ run_of s | false ↦ [] ]))) (63 ∷ []) ≡ false
    first c s true h = rw (ne_eqb (capital c) 63 (λ q. true≢false (sym h ∙ same_run c 63 (eq-eqb (capital c) 63 q))))
    first c s false h = refl

    go : (s : List ℕ) → same_bytes (map capital (take 24 (run_of s))) (63 ∷ []) ≡ false
    go [] = refl
    go (c ∷ s) = first c s (in_run c) refl

module _ (t tab : List ℕ) (k : ℕ) where
  abbrev s : Name
  s = name_at t (word_of tab k 0)

  -- where the key is its own
  pub named : (place : ℕ) → word_of tab k 0 ≡ place → word_of tab k 3 ≡ key_of (name_at t place) → name_in t tab k ≡ name_at t place
  unfolding name_in
  named place q e = rw (q, eq-eqb (word_of tab k 3) (key_of (name_at t place)) e)

  pub unnamed : (word_of tab k 3 ≡ key_of s → ⊥) → name_in t tab k ≡ 63 ∷ []
  unfolding name_in
  unnamed h = rw (ne_eqb (word_of tab k 3) (key_of s) h)

  module _ (place : ℕ) where
    -- a name with the key of the entry and the bytes at its place is the entry's
    pub key_found : word_of tab k 3 ≡ key_of (name_at t place) → same_bytes (name_at t place) s ≡ true
        → same_bytes (name_at t place) (name_in t tab k) ≡ true
    key_found e h =
        let q = same_bytes_lem (name_at t place) s h in
        rw (named (word_of tab k 0) refl (e ∙ ap key_of q)) h

    -- any other is not
    pub key_apart : (word_of tab k 3 ≡ key_of (name_at t place) → same_bytes (name_at t place) s ≡ false)
        → same_bytes (name_at t place) (name_in t tab k) ≡ false
    key_apart h = go (eqb (word_of tab k 3) (key_of s)) refl (same_bytes (name_at t place) s) refl
      where
        go : (b : Bool) → eqb (word_of tab k 3) (key_of s) ≡ b → (d : Bool) → same_bytes (name_at t place) s ≡ d
            → same_bytes (name_at t place) (name_in t tab k) ≡ false
        go true e true q =
            let w = eqb-true (word_of tab k 3) (key_of s) e in
            absurd (true≢false (sym q ∙ h (w ∙ ap key_of (sym (same_bytes_lem (name_at t place) s q)))))
        go true e false q = rw (named (word_of tab k 0) refl (eqb-true (word_of tab k 3) (key_of s) e)) q
        go false e d q = rw (unnamed (eqb-false (word_of tab k 3) (key_of s) e)) (no_name t place)

-- a name rests on two words of its entry
pub name_kept : (t old new : List ℕ) (k : ℕ) → word_of new k 0 ≡ word_of old k 0 → word_of new k 3 ≡ word_of old k 3
    → name_in t new k ≡ name_in t old k
unfolding name_in
name_kept t old new k p q = rw (p, q)
