-- The keys of runs: a reserved word's is no other run's, and a run without such a key is a name.
use mathlib.Core.Path.{◌≡◌, refl, sym, ap, subst, ◌∙◌}
use mathlib.Core.Bool.{Bool, true, false, cond, ◌||◌, true≢false, false≢true}
use mathlib.Core.List.{List, [], ◌∷◌, map, reverse}
use mathlib.Core.Logic.{◌⊎◌, inl, inr}
use Prim.Native.Nat.{ℕ, zero, suc, ◌+◌, ◌-◌, ◌*◌, ◌%◌, ◌≤◌, ◌<◌}
use native.Mathlib.Omega.{arith}
use borrow.Author.Tests.{ltb-true, leb-true, eqb-true, ne_eqb}
use lib.Dec.{eqb, ltb, leb}
use native.Mathlib.Numerals.{add-one}
use lib.ListN.{length, get_or, drop, get_or-map, length-map, length-drop}
use lib.Seq.{drop-cons, drop-length}
use Rattle.std.specs.Prelude.{Some, None}
use Rattle.std.proofs.lemmas.Grind.{get_or_default_zero}
use Rattle.std.proofs.lemmas.List.{get_or-reverse}
use Rattle.std.proofs.Math.ListN.{length-reverse}
use Rattle.paper.specs.Words.{Word, Spelled, name, bytes, between, is_underscore, capital, same_bytes, reserved, type_name, conversion_name, look_up}
use Rattle.words.specs.Keys.{key_digit, key_of, keys, keyword_keys, operand_keys, singly, Numbered, form_of, forms, Excludes}
use Rattle.words.specs.Denoted.{denoted, IsRunClass}
use Rattle.words.proofs.Truths.{both, all, all_at, among, none_among}
use Rattle.words.proofs.Parts.{in_range}
use Rattle.words.proofs.Spellings.{no_entry, reserved_length, reserved_entry, class_word}

-- ---- digits

-- the byte of a digit, if it isn't 28
abbrev byte_of : ℕ → ℕ
byte_of k = cond (eqb k 27) 95 (k + 64)

record Digit (c k : ℕ) : Type 0 where
  low : 0 < k
  high : k < 29
  back : k < 28 → byte_of k ≡ c

a_digit : (c : ℕ) → Digit c (key_digit c)
a_digit c = go (between 65 90 c) refl (is_underscore c) refl
  where
    go : (b : Bool) → between 65 90 c ≡ b → (u : Bool) → is_underscore c ≡ u → Digit c (cond b (c - 64) (cond u 27 28))
    go true q u r =
        let f = both (leb 65 c) (leb c 90) q in
        let l : 65 ≤ c = leb-true 65 c f.0 in
        let h : c ≤ 90 = leb-true c 90 f.1 in
        record { low = omega arith; high = omega arith; back = λ k. rw (ne_eqb (c - 64) 27 (λ z. omega arith)) (omega arith) }
    go false q true r = record { low = omega arith; high = omega arith; back = λ k. sym (eqb-true c 95 r) }
    go false q false r = record { low = omega arith; high = omega arith; back = λ k. absurd (omega arith) }

pub digit_small : (c : ℕ) → key_digit c < 29
digit_small c = (a_digit c).high

-- ---- keys

-- every byte has a digit of its own
abbrev plain : List ℕ → Bool
plain s = all (λ c. ltb (key_digit c) 28) s

key_same : (s t : List ℕ) → plain t ≡ true → key_of s ≡ key_of t → s ≡ t
unfolding key_of
key_same [] [] p q = refl
key_same [] (d ∷ t) p q = absurd (omega (arith, (a_digit d).low))
key_same (c ∷ s) [] p q = absurd (omega (arith, (a_digit c).low))
key_same (c ∷ s) (d ∷ t) p q =
    let C = a_digit c in
    let D = a_digit d in
    let f = both (ltb (key_digit d) 28) (plain t) p in
    let l : key_digit d < 28 = ltb-true (key_digit d) 28 f.0 in
    let e : key_digit c ≡ key_digit d = omega (arith, C.high, D.high) in
    let k : key_of s ≡ key_of t = omega (arith, C.high, D.high) in
    rw (sym (C.back (omega arith)) ∙ ap byte_of e ∙ D.back l, key_same s t f.1 k)

-- the keys of n bytes lie below this
abbrev power : ℕ → ℕ
power zero = 1
power (suc n) = 29 * power n

key_below : (n : ℕ) (s : List ℕ) → length s ≤ n → key_of s < power n
unfolding key_of
key_below zero [] h = omega arith
key_below zero (c ∷ s) h = absurd (omega arith)
key_below (suc n) [] h = omega (arith, key_below n [] (omega arith))
key_below (suc n) (c ∷ s) h = omega (arith, (a_digit c).high, key_below n s (omega arith))

-- of the bytes of a run from a place on
module _ (s : List ℕ) where
  abbrev pub key_from : ℕ → ℕ
  key_from i = key_of (map capital (drop i s))

  pub key_none : 0 ≡ key_from (length s)
  unfolding key_of
  key_none = rw drop-length

  -- one byte more can be counted, where twelve are
  pub key_fits : (i : ℕ) → length s - i ≤ 12 → key_from i < 353814783205469041
  key_fits i h = key_below 12 (map capital (drop i s)) (simp (length-map, length-drop) h)

  -- the byte before them
  pub key_before : (j i : ℕ) → i ≡ j + 1 → i ≤ length s → key_from j ≡ key_from i * 29 + key_digit (capital (get_or s j 0))
  unfolding key_of
  key_before j i q h =
      let l : j < length s = omega arith in
      rw (drop-cons s j 0 l, q, add-one j) (omega arith)

  -- the byte that comes next from the back
  pub from_back : (n x : ℕ) → (n < length (reverse s)) × (x ≡ get_or (reverse s) n x) → (n < length s) × (x ≡ get_or s (length s - (n + 1)) 0)
  from_back n x h =
      let l : n < length s = omega (arith, length-reverse s) in
      let k : length s - 1 - n ≡ length s - (n + 1) = omega arith in
      (l, h.1 ∙ get_or-reverse s n x l ∙ rw k (get_or_default_zero s (length s - (n + 1)) x (omega arith)))

-- ---- the list of reserved words

abbrev keyed : Spelled → ℕ
keyed e = key_of e.spelling

reserved_keys : map keyed reserved ≡ keys
unfolding key_of reserved bytes type_name conversion_name
reserved_keys = refl

reserved_plain : all (λ (e : Spelled). plain e.spelling) reserved ≡ true
unfolding reserved bytes type_name conversion_name
reserved_plain = refl

reserved_lengths : all (λ (e : Spelled). between 2 13 (length e.spelling)) reserved ≡ true
unfolding reserved bytes type_name conversion_name
reserved_lengths = refl

-- no two entries are spelled the same
reserved_found : (w : Word) → map (λ (e : Spelled). look_up reserved e.spelling w) reserved ≡ map (λ (e : Spelled). e.word) reserved
unfolding reserved bytes type_name conversion_name look_up same_bytes
reserved_found w = refl

-- two maps that are the same on a list are on each entry
same_at : {A B : Type 0} (f g : A → B) (xs : List A) (i : ℕ) (d : A) → map f xs ≡ map g xs → i < length xs → f (get_or xs i d) ≡ g (get_or xs i d)
same_at f g [] i d q h = absurd (omega arith)
same_at f g (x ∷ xs) zero d q h = cc
same_at f g (x ∷ xs) (suc i) d q h = same_at f g xs i d (cc) (omega arith)

-- ---- classes

same_bytes_lem : (s t : List ℕ) → same_bytes s t ≡ true → s ≡ t
unfolding same_bytes
same_bytes_lem [] [] q = refl
same_bytes_lem [] (d ∷ t) q = absurd (false≢true q)
same_bytes_lem (c ∷ s) [] q = absurd (false≢true q)
same_bytes_lem (c ∷ s) (d ∷ t) q = let f = both (eqb c d) _ q in rw (eqb-true c d f.0, same_bytes_lem s t f.1)

-- a spelling that fails a test that all entries pass
unfound : (p : List ℕ → Bool) (es : List Spelled) (s : List ℕ) (w : Word) → all (λ (e : Spelled). p e.spelling) es ≡ true → p s ≡ false → look_up es s w ≡ w
unfolding look_up
unfound p [] s w a q = refl
unfound p (e ∷ es) s w a q = let f = both (p e.spelling) _ a in go (same_bytes e.spelling s) refl f.0 (unfound p es s w f.1 q)
  where
    go : (b : Bool) → same_bytes e.spelling s ≡ b → p e.spelling ≡ true → look_up es s w ≡ w → elim b [ true ↦ e.word | false ↦ look_up es s w ] ≡ w
    go true r h next = absurd (true≢false (sym h ∙ ap p (same_bytes_lem e.spelling s r) ∙ q))
    go false r h next = next

is_name_lem : (p : List ℕ → Bool) (s : List ℕ) → all (λ (e : Spelled). p e.spelling) reserved ≡ true → p s ≡ false → IsRunClass s 1
unfolding denoted
is_name_lem p s a q = record { low = omega arith; high = omega arith; word = sym (unfound p reserved s (name s) a q) }

-- a run shorter or longer than all reserved words
pub other_length : (s : List ℕ) → between 2 13 (length s) ≡ false → IsRunClass s 1
other_length s h = is_name_lem (λ t. between 2 13 (length t)) s reserved_lengths h

reserved_forms : all (λ (e : Spelled). among forms (form_of e.spelling)) reserved ≡ true
unfolding reserved bytes type_name conversion_name
reserved_forms = refl

-- the case of a letter doesn't count
pub same_letter : (c : ℕ) → capital c % 32 ≡ c % 32
same_letter c = go (between 97 122 c) refl
  where
    go : (b : Bool) → between 97 122 c ≡ b → cond b (c - 32) c % 32 ≡ c % 32
    go true h = omega (arith, in_range 97 122 c h)
    go false h = refl

-- a run with the length and the first letter of none
pub other_form : (s : List ℕ) → 0 < length s → (b : Bool) → Excludes forms (length s * 32 + get_or s 0 0 % 32) b → b ≡ false → IsRunClass (map capital s) 1
other_form [] h b n q = absurd (omega arith)
other_form (c ∷ s) h b n q =
    let form : form_of (map capital (c ∷ s)) ≡ suc (length s) * 32 + c % 32 = rw (length-map, same_letter c) in
    is_name_lem (λ r. among forms (form_of r)) _ reserved_forms (rw form (none_among forms _ (Unit {0}) (subst (Excludes forms _) q n)))

abbrev some_key : List ℕ → Bool
some_key s = among (singly keyword_keys) (key_of s) || among (singly operand_keys) (key_of s)

reserved_some : all (λ (e : Spelled). some_key e.spelling) reserved ≡ true
unfolding key_of reserved bytes type_name conversion_name
reserved_some = refl

-- a run with none of the keys
pub other_name : (s : List ℕ) {key : ℕ} → key ≡ key_of s → Numbered keyword_keys key None → Numbered operand_keys key None → IsRunClass s 1
other_name s {key} q m n =
    is_name_lem some_key s reserved_some (rw (← q, none_among (singly keyword_keys) key (Unit {0}) m, none_among (singly operand_keys) key (Unit {0}) n))

-- a run with the key number i
pub reserved_word : (ks s : List ℕ) {key : ℕ} (i : ℕ) → key ≡ key_of s → Numbered ks key (Some i) → IsRunClass s (3 + i)
unfolding key_of
reserved_word ks s i q n =
    let h = n.0 in
    let l : i < length reserved = omega (arith, reserved_length) in
    let e = get_or reserved i no_entry in
    let k : key_of s ≡ keyed e = sym q ∙ n.1 ∙ sym (ap (λ m. get_or m i 0) reserved_keys) ∙ get_or-map keyed reserved i no_entry in
    let p : s ≡ e.spelling = key_same s e.spelling (all_at (λ (x : Spelled). plain x.spelling) reserved i no_entry reserved_plain l) k in
    let f : look_up reserved e.spelling (name s) ≡ e.word = same_at _ _ reserved i no_entry (reserved_found (name s)) l in
    record {
      low = omega arith;
      high = omega arith;
      word = class_word i 0 s ∙ ap (λ (x : Spelled). x.word) (reserved_entry i h) ∙ sym (ap (λ t. look_up reserved t (name s)) p ∙ f);
    }

-- ---- some class

-- what is looked up is found at an entry or not at all
looked_up : (es : List Spelled) (s : List ℕ) (w : Word) → (look_up es s w ≡ w) ⊎ ((i : ℕ) × (i < length es) × (look_up es s w ≡ (get_or es i no_entry).word))
unfolding look_up
looked_up [] s w = inl refl
looked_up (e ∷ es) s w = go (same_bytes e.spelling s) (looked_up es s w)
  where
    go : (b : Bool) → (look_up es s w ≡ w) ⊎ ((i : ℕ) × (i < length es) × (look_up es s w ≡ (get_or es i no_entry).word))
        → (elim b [ true ↦ e.word | false ↦ look_up es s w ] ≡ w)
        ⊎ ((i : ℕ) × (i < suc (length es)) × (elim b [ true ↦ e.word | false ↦ look_up es s w ] ≡ (get_or (e ∷ es) i no_entry).word))
    go true n = inr (0, omega arith, refl)
    go false (inl q) = inl q
    go false (inr (i, l, q)) = inr (suc i, omega arith, q)

pub some_class : (s : List ℕ) → (c : ℕ) × IsRunClass s c
unfolding denoted
some_class s = go (looked_up reserved s (name s))
  where
    go : (look_up reserved s (name s) ≡ name s) ⊎ ((i : ℕ) × (i < length reserved) × (look_up reserved s (name s) ≡ (get_or reserved i no_entry).word)) → (c : ℕ) × IsRunClass s c
    go (inl q) = (1, record { low = omega arith; high = omega arith; word = sym q })
    go (inr (i, l, q)) =
        let h : i < 51 = omega (arith, reserved_length) in
        (3 + i, record { low = omega arith; high = omega arith; word = class_word i 0 s ∙ ap (λ (x : Spelled). x.word) (reserved_entry i h) ∙ sym q })
