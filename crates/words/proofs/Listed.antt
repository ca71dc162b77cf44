-- The signs: their lengths, which bytes are one, and which are none.
use mathlib.Core.Path.{◌≡◌, refl, sym, ap, ◌∙◌}
use mathlib.Core.Bool.{Bool, true, false, not, cond, ◌&&◌, false≢true}
use mathlib.Core.List.{List, [], ◌∷◌, ◌++◌, map}
use Prim.Native.Nat.{ℕ, ◌+◌, ◌-◌, ◌≤◌, ◌<◌}
use native.Mathlib.Omega.{arith}
use borrow.Author.Tests.{ne_eqb, ltb-true, ltb-false, not-true}
use lib.Dec.{eqb, ltb}
use lib.ListN.{length, get_or, replicate, get_or-replicate, get_or-append, get_or-map, get_or-eq_default}
use lib.Seq.{get_or-append-add}
use Rattle.paper.specs.Words as W
use Rattle.paper.specs.Words.{Spelled, bytes, reserved, signs, begins, sign_piece}
use Rattle.words.specs.Denoted.{entries, entry, sign_of, IsSign}
use Rattle.words.specs.Keys.{NoneOf}
use Rattle.words.proofs.Truths.{both, all, all_at, among, none_among}
use Rattle.words.proofs.Spellings.{no_entry, reserved_length}

-- ---- the list of signs

signs_length : length signs ≡ 20
unfolding signs
signs_length = refl

sign_entry : (c : ℕ) → 53 < c → entry (c - 3) ≡ get_or signs (c - 54) no_entry
unfolding entries
sign_entry c h =
    let k : c - 3 ≡ length reserved + (c - 54) = omega (arith, reserved_length) in
    rw k (get_or-append-add reserved signs (c - 54) no_entry)

-- the first five have two bytes, the others one
lengths : map (λ e. length e.spelling) signs ≡ replicate 5 2 ++ replicate 15 1
unfolding signs bytes
lengths = refl

sign_length : (c i : ℕ) → c ≡ 54 + i → length (entry (c - 3)).spelling ≡ get_or (replicate 5 2 ++ replicate 15 1) i 0
sign_length c i q =
    let n : c - 54 ≡ i = omega arith in
    rw (sign_entry c (omega arith), n)
    (sym (get_or-map (λ e. length e.spelling) signs i no_entry) ∙ ap (λ l. get_or l i 0) lengths)

pub two_bytes : (c : ℕ) → 53 < c → c < 59 → length (entry (c - 3)).spelling ≡ 2
two_bytes c h k = rw (sign_length c (c - 54) (omega arith)) (get_or-append (replicate 5 2) (replicate 15 1) 0 (c - 54) (omega arith) ∙ get_or-replicate 5 (c - 54) 2 0 (omega arith))

pub one_byte : (c : ℕ) → 58 < c → c < 74 → length (entry (c - 3)).spelling ≡ 1
one_byte c h k = rw (sign_length c (5 + (c - 59)) (omega arith)) (get_or-append-add (replicate 5 2) (replicate 15 1) (c - 59) 0 ∙ get_or-replicate 15 (c - 59) 1 0 (omega arith))

-- ---- what all signs have in common

-- one byte, or two of which the second is no zero
abbrev short : List ℕ → Bool
short [] = false
short (a ∷ []) = true
short (a ∷ b ∷ []) = not (eqb b 0)
short (a ∷ b ∷ c ∷ w) = false

abbrev is_ending : W.Word → Bool
is_ending (W.name s) = false
is_ending (W.number n) = false
is_ending (W.truth b) = false
is_ending (W.type t) = false
is_ending (W.conversion t u) = false
is_ending (W.operator o) = false
is_ending (W.key s) = false
is_ending W.ending = true

abbrev fair : Spelled → Bool
fair e = short e.spelling && not (is_ending e.word)

pub signs_fair : all fair signs ≡ true
unfolding signs bytes
signs_fair = refl

fair_short : (e : Spelled) → fair e ≡ true → short e.spelling ≡ true
fair_short e f = (both (short e.spelling) _ f).0

short_some : (w : List ℕ) → short w ≡ true → 0 < length w
short_some [] q = absurd (false≢true q)
short_some (a ∷ w) q = omega arith

fair_some : (e : Spelled) → fair e ≡ true → 0 < length e.spelling
fair_some e f = short_some e.spelling (fair_short e f)

-- a sign has a byte
pub sign_some : (c : ℕ) → 53 < c → c < 74 → 0 < length (entry (c - 3)).spelling
sign_some c h k = rw (sign_entry c h) (fair_some (get_or signs (c - 54) no_entry) (all_at fair signs (c - 54) no_entry signs_fair (omega (arith, signs_length))))

-- ---- bytes that are a sign

-- the sign of two bytes: x and y are numbers where the code knows them
pub is_sign : (x y : ℕ) {a b c : ℕ} → a ≡ x → b ≡ y → 53 < c → sign_piece signs (x ∷ y ∷ []) ≡ sign_of c → IsSign a b c
is_sign x y ea eb h p = record { high = h; sign = rw (ea, eb) p }

sign_step : (e : Spelled) (es : List Spelled) (s : List ℕ) (b : Bool) → begins e.spelling s ≡ b
    → sign_piece (e ∷ es) s ≡ cond b (W.word (length e.spelling - 1) e.word) (sign_piece es s)
unfolding sign_piece
sign_step e es s true h = rw (h, sign_piece)
sign_step e es s false h = rw (h, sign_piece)

begins_short : (w : List ℕ) (c : ℕ) (s : List ℕ) → short w ≡ true → begins w (c ∷ s) ≡ begins w (c ∷ get_or s 0 0 ∷ [])
unfolding begins
begins_short [] c s q = refl
begins_short (a ∷ []) c s q = refl
begins_short (a ∷ b ∷ []) c [] q = rw (not-true (eqb b 0) q)
begins_short (a ∷ b ∷ []) c (d ∷ s) q = refl
begins_short (a ∷ b ∷ x ∷ w) c s q = absurd (false≢true q)

-- two bytes say which sign it is
pub sign_short : (es : List Spelled) (c : ℕ) (s : List ℕ) → all fair es ≡ true → sign_piece es (c ∷ s) ≡ sign_piece es (c ∷ get_or s 0 0 ∷ [])
unfolding sign_piece
sign_short [] c s f = refl
sign_short (e ∷ es) c s f =
    let f = both (fair e) _ f in
    sign_step e es (c ∷ s) _ refl
    ∙ rw (begins_short e.spelling c s (fair_short e f.0), sign_short es c s f.1) (sym (sign_step e es (c ∷ get_or s 0 0 ∷ []) _ refl))

begins_length : (w s : List ℕ) → begins w s ≡ true → length w ≤ length s
unfolding begins
begins_length [] s q = omega arith
begins_length (a ∷ w) [] q = absurd (false≢true q)
begins_length (a ∷ w) (c ∷ s) q = let k = begins_length w s (both (eqb a c) _ q).1 in omega arith

-- a sign lies in the bytes, and is no end of them
pub sign_inside : (es : List Spelled) (s : List ℕ) (n : ℕ) (w : W.Word) → all fair es ≡ true → sign_piece es s ≡ W.word n w → (n < length s) × (is_ending w ≡ false)
unfolding sign_piece
sign_inside [] s n w f q = absurd (let z : ◌≡◌ {A = ℕ} 0 1 = cc in omega arith)
sign_inside (e ∷ es) s n w f q = go (begins e.spelling s) refl (sign_inside es s n w (both (fair e) _ f).1)
  where
    go : (b : Bool) → begins e.spelling s ≡ b → (sign_piece es s ≡ W.word n w → (n < length s) × (is_ending w ≡ false)) → (n < length s) × (is_ending w ≡ false)
    go true b next =
        let p : W.word (length e.spelling - 1) e.word ≡ W.word n w = sym (sign_step e es s true b) ∙ q in
        let k : length e.spelling - 1 ≡ n = cc in
        let x : e.word ≡ w = cc in
        let g : fair e ≡ true = (both (fair e) _ f).0 in
        (omega (arith, begins_length e.spelling s b, fair_some e g), rw (← x) (not-true _ (both (short e.spelling) _ g).1))
    go false b next = next (sym (sign_step e es s false b) ∙ q)

-- a class that stands for a sign is in the list
pub sign_listed : (s : List ℕ) (c : ℕ) → 53 < c → sign_piece signs s ≡ W.word (length (entry (c - 3)).spelling - 1) (entry (c - 3)).word → c < 74
sign_listed s c h q = go (ltb c 74) refl
  where
    go : (b : Bool) → ltb c 74 ≡ b → c < 74
    go true p = ltb-true c 74 p
    go false p =
        let k : 74 ≤ c = ltb-false c 74 p in
        let e : entry (c - 3) ≡ no_entry = sign_entry c h ∙ get_or-eq_default signs no_entry (omega (arith, signs_length)) in
        absurd (false≢true (sym (sign_inside signs s _ _ signs_fair (rw e at q)).1))

-- ---- bytes that are none

-- the spelling begins with one of the keys
abbrev keyed : List (List ℕ) → List ℕ → Bool
keyed ks [] = false
keyed ks (c ∷ w) = among ks c

not_begun : (ks : List (List ℕ)) (w : List ℕ) (a : ℕ) (s : List ℕ) → NoneOf ks a (Unit {0}) → keyed ks w ≡ true → begins w (a ∷ s) ≡ false
unfolding begins
not_begun ks [] a s n t = absurd (false≢true t)
not_begun ks (c ∷ w) a s n t =
    rw (ne_eqb c a (λ q. false≢true (sym (none_among ks a (Unit {0}) n) ∙ ap (among ks) (sym q) ∙ t)))

abbrev all_keyed : List (List ℕ) → List Spelled → Bool
all_keyed ks es = all (λ (e : Spelled). keyed ks e.spelling) es

pub no_sign : (ks : List (List ℕ)) (es : List Spelled) (a : ℕ) (s : List ℕ) → all_keyed ks es ≡ true → NoneOf ks a (Unit {0}) → sign_piece es (a ∷ s) ≡ W.bad
unfolding sign_piece
no_sign ks [] a s t n = refl
no_sign ks (e ∷ es) a s t n =
    let f = both (keyed ks e.spelling) (all_keyed ks es) t in
    sign_step e es (a ∷ s) false (not_begun ks e.spelling a s n f.0) ∙ no_sign ks es a s f.1 n
