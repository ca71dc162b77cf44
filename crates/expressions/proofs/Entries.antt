-- A function of words, known at every class from one test that antt computes over the list of all words.
use mathlib.Core.Path.{◌≡◌, refl, sym, ap, ◌∙◌}
use mathlib.Core.Bool.{Bool, true, false, cond, ◌&&◌}
use mathlib.Core.List.{List, [], ◌∷◌, map}
use Prim.Native.Nat.{ℕ, zero, suc, ◌+◌, ◌<◌, ◌≤◌}
use Prim.Native.String.{String}
use native.Mathlib.Omega.{arith}
use borrow.Author.Tests.{ltb-true, ltb-false, ne_eqb}
use lib.Dec.{eqb, ltb}
use lib.ListN.{get_or, get_or-map}
use Rattle.paper.specs.Words as W
use Rattle.paper.specs.Words.{Spelled, bytes}
use Rattle.paper.specs.Reading.{is_key}
use Rattle.words.specs.Denoted.{entries, denoted}
use Rattle.words.proofs.Truths.{both}
use Rattle.words.proofs.Spellings.{class_word}
use Rattle.expressions.specs.Reads.{KeyIs}

-- ---- every word by its class

-- what g says of k numbers from a on
unfoldable pub said : {A : Type 0} → (ℕ → A) → ℕ → ℕ → List A
said g a zero = []
said g a (suc k) = g a ∷ said g (suc a) k

said_at : {A : Type 0} (g : ℕ → A) (a k i : ℕ) (d : A) → i < k → get_or (said g a k) i d ≡ g (a + i)
unfolding said
said_at g a zero i d h = absurd (omega arith)
said_at g a (suc k) zero d h = ap g (omega arith)
said_at g a (suc k) (suc i) d h = said_at g (suc a) k i d (omega arith) ∙ ap g (omega arith)

said_beyond : {A : Type 0} (g : ℕ → A) (a k i : ℕ) (d : A) → k ≤ i → get_or (said g a k) i d ≡ d
unfolding said
said_beyond g a zero i d h = refl
said_beyond g a (suc k) zero d h = absurd (omega arith)
said_beyond g a (suc k) (suc i) d h = said_beyond g (suc a) k i d (omega arith)

-- the words in the order of their classes
unfoldable pub words : List ℕ → ℕ → List W.Word
words s n = W.ending ∷ W.name s ∷ W.number n ∷ map (λ (e : Spelled). e.word) entries

denoted_at : (c : ℕ) (s : List ℕ) (n : ℕ) → denoted c s n ≡ get_or (words s n) c W.ending
unfolding denoted words
denoted_at zero s n = refl
denoted_at (suc zero) s n = refl
denoted_at (suc (suc zero)) s n = refl
denoted_at (suc (suc (suc i))) s n =
    let k : suc (suc (suc i)) ≡ 3 + i = omega arith in
    ap (λ c. denoted c s n) k ∙ class_word i n s ∙ sym (get_or-map (λ (e : Spelled). e.word) entries i (record { spelling = []; word = W.ending }))

-- f of the word of a class is g of the class, if that is so of the classes up to 73, and of the ending for those beyond
pub by_class : {A : Type 0} (f : W.Word → A) (g : ℕ → A) (s : List ℕ) (n : ℕ)
    → map f (words s n) ≡ said g 0 74 → ((c : ℕ) → 73 < c → f W.ending ≡ g c) → (c : ℕ) → f (denoted c s n) ≡ g c
by_class {A} f g s n t b c =
    ap f (denoted_at c s n) ∙ sym (get_or-map f (words s n) c W.ending) ∙ ap (λ (l : List A). get_or l c (f W.ending)) t ∙ go (ltb c 74) refl
  where
    go : (l : Bool) → ltb c 74 ≡ l → get_or (said g 0 74) c (f W.ending) ≡ g c
    go true h = said_at g 0 74 c (f W.ending) (ltb-true c 74 h) ∙ ap g (omega arith)
    go false h = said_beyond g 0 74 c (f W.ending) (ltb-false c 74 h) ∙ b c (omega (arith, ltb-false c 74 h))

-- ---- keys

pub key_class : (k : String) (c : ℕ) → c < 74 → ((w : List ℕ) (n : ℕ) → map (is_key (bytes k)) (words w n) ≡ said (λ d. eqb d c) 0 74) → KeyIs k c
key_class k c h t d w n = by_class (is_key (bytes k)) (λ d. eqb d c) w n (t w n) (λ d l. sym (ne_eqb d c (λ q. omega arith))) d

-- ---- the arms of a `match` on a class

-- what the arms say of c, each a class and its value, and d if there is none for it
abbrev pub chosen : {A : Type 0} → List (ℕ × A) → A → ℕ → A
chosen [] d c = d
chosen (p ∷ ps) d c = cond (eqb c p.0) p.1 (chosen ps d c)

abbrev pub listed : {A : Type 0} → List (ℕ × A) → Bool
listed [] = true
listed (p ∷ ps) = ltb p.0 74 && listed ps

-- c has none of the arms, as the last arm knows it: here they go from the last to the first
abbrev pub NoArm : {A : Type 0} → List (ℕ × A) → ℕ → Type 0
NoArm [] c = Unit {0}
NoArm (p ∷ ps) c = NoArm ps c × (c ≡ p.0 → ⊥)

pub no_arm : {A : Type 0} (ps : List (ℕ × A)) (d : A) (c : ℕ) → NoArm ps c → chosen ps d c ≡ d
no_arm [] d c h = refl
no_arm (p ∷ ps) d c h = rw (ne_eqb c p.0 h.1) (no_arm ps d c h.0)

beyond : {A : Type 0} (ps : List (ℕ × A)) (c : ℕ) → listed ps ≡ true → 73 < c → NoArm ps c
beyond [] c t h = tt
beyond (p ∷ ps) c t h =
    let b = both (ltb p.0 74) (listed ps) t in
    (beyond ps c b.1 h, λ q. omega (arith, ltb-true p.0 74 b.0))

pub by_arms : {A : Type 0} (f : W.Word → A) (ps : List (ℕ × A)) (s : List ℕ) (n : ℕ)
    → map f (words s n) ≡ said (chosen ps (f W.ending)) 0 74 → listed ps ≡ true → (c : ℕ) → f (denoted c s n) ≡ chosen ps (f W.ending) c
by_arms f ps s n t l = by_class f (chosen ps (f W.ending)) s n t (λ c h. sym (no_arm ps (f W.ending) c (beyond ps c l h)))
