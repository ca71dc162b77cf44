-- The next word of a text and the next word of its list of words: what a class says.
use mathlib.Core.Path.{◌≡◌, refl, sym, ap, ◌∙◌}
use mathlib.Core.Bool.{Bool, true, false, cond, ◌||◌, or-true, true≢false}
use mathlib.Core.Option.{none, some}
use mathlib.Core.List.{List, [], ◌∷◌}
use Prim.Native.Nat.{ℕ, suc, ◌-◌, ◌<◌}
use native.Mathlib.Omega.{arith}
use borrow.Author.Tests.{ltb-true, lt-ltb}
use lib.Dec.{eqb, ltb}
use lib.ListN.{length}
use lib.Seq.{drop-cons}
use Rattle.paper.specs.declared.Why.TheVariants.{NoWord}
use Rattle.paper.specs.Refusals.{refused, given, ◌>>=◌}
use Rattle.paper.specs.Words as W
use Rattle.paper.specs.Words.{Token, bytes, same_bytes, reserved, signs}
use Rattle.paper.specs.Reading as R
use Rattle.words.specs.declared.Word.{Word}
use Rattle.words.specs.Denoted.{words_at, denoted, folded, entries, IsWord}
use Rattle.tree.specs.Trees.{name_at}
use Rattle.expressions.specs.Reads.{KeyIs}
use Rattle.expressions.proofs.Entries.{words, said, by_class, key_class, by_arms}
use Rattle.expressions.proofs.Names.{in_front, first_name}

-- the word that the code reads, w, is the next of the words ts
pub record Next (t : List ℕ) (ts : List Token) (w : Word) : Type 0 where
  pub here : R.here ts ≡ w.at
  pub next : R.next ts ≡ denoted w.class (folded t w.at w.end) w.value
  -- behind a word, what is left begins at its end, and is one word less
  pub behind : eqb w.class 0 ≡ false → words_at t w.end ≡ given (R.behind ts)
  pub less : eqb w.class 0 ≡ false → length ts ≡ suc (length (R.behind ts))
  pub some_left : 0 < length ts

-- the token of a word, and that of the ending
abbrev token : List ℕ → Word → Token
token t w = record { word = denoted w.class (folded t w.at w.end) w.value; place = w.at }

abbrev last : List ℕ → Token
last t = record { word = W.ending; place = length t }

pub next_of : (t : List ℕ) (at : ℕ) (ts : List Token) (w : Word) → IsWord t at w → words_at t at ≡ given ts → Next t ts w
unfolding denoted
next_of t at ts w i h = go (eqb w.class 255) refl (eqb w.class 0) refl (sym i.words ∙ h)
  where
    ending_word : eqb w.class 0 ≡ true → (token t w).word ≡ W.ending
    ending_word q = rw (q, denoted)

    go : (b : Bool) → eqb w.class 255 ≡ b → (z : Bool) → eqb w.class 0 ≡ z
        → elim b [
          | true ↦ refused NoWord w.at
          | false ↦ elim z [ true ↦ given (last t ∷ []) | false ↦ (words_at t w.end >>= λ us. given (token t w ∷ us)) ]
        ] ≡ given ts
        → Next t ts w
    go true p z q e = absurd (let z : ◌≡◌ {A = ℕ} 0 1 = cc in omega arith)
    go false p true q e =
        let l : ts ≡ last t ∷ [] = cc in
        rw l (record {
          here = sym (i.last q);
          next = sym (ending_word q);
          behind = λ n. absurd (true≢false (sym q ∙ n));
          less = λ n. absurd (true≢false (sym q ∙ n));
          some_left = omega arith;
        })
    go false p false q e =
        let f = in_front (words_at t w.end) (token t w) ts e in
        rw f.2 (record { here = refl; next = refl; behind = λ _. f.1; less = λ _. refl; some_left = omega arith })

-- words by their first
by_first : (ts : List Token) (v : W.Word) (p : ℕ) → 0 < length ts → R.next ts ≡ v → R.here ts ≡ p → ts ≡ record { word = v; place = p } ∷ R.behind ts
by_first [] v p h q r = absurd (omega arith)
by_first (t ∷ ts) v p h q r = rw (← q, ← r)

-- a name is the run at its place, in capitals
pub name_here : (t : List ℕ) (at : ℕ) (ts : List Token) (w : Word) → IsWord t at w → words_at t at ≡ given ts → w.class ≡ 1
    → R.next ts ≡ W.name (name_at t w.at)
unfolding denoted
name_here t at ts w i h c =
    let n = next_of t at ts w i h in
    let z : eqb w.class 0 ≡ false = rw c in
    let e : words_at t w.at ≡ given ts = i.again (rw c) ∙ sym i.words ∙ h in
    let l : w.at < length t = omega (arith, i.moves (rw c) z, i.to) in
    let k = folded t w.at w.end in
    let x : R.next ts ≡ W.name k = n.next ∙ rw c in
    let f : words_at t w.at ≡ given (record { word = W.name k; place = w.at } ∷ R.behind ts) = e ∙ ap given (by_first ts _ _ n.some_left x n.here) in
    x ∙ ap W.name (rw (drop-cons t w.at 0 l) (first_name w.at _ _ _ (R.behind ts) (rw (drop-cons t w.at 0 l) at f)))

-- ---- keys: the class of each that reading asks for

pub key_program : KeyIs "PROGRAM" 3
unfolding bytes same_bytes reserved signs entries words said
key_program = key_class "PROGRAM" 3 (omega arith) (λ w n. refl)

pub key_end_program : KeyIs "END_PROGRAM" 4
unfolding bytes same_bytes reserved signs entries words said
key_end_program = key_class "END_PROGRAM" 4 (omega arith) (λ w n. refl)

pub key_var_input : KeyIs "VAR_INPUT" 5
unfolding bytes same_bytes reserved signs entries words said
key_var_input = key_class "VAR_INPUT" 5 (omega arith) (λ w n. refl)

pub key_var_output : KeyIs "VAR_OUTPUT" 6
unfolding bytes same_bytes reserved signs entries words said
key_var_output = key_class "VAR_OUTPUT" 6 (omega arith) (λ w n. refl)

pub key_var : KeyIs "VAR" 7
unfolding bytes same_bytes reserved signs entries words said
key_var = key_class "VAR" 7 (omega arith) (λ w n. refl)

pub key_end_var : KeyIs "END_VAR" 8
unfolding bytes same_bytes reserved signs entries words said
key_end_var = key_class "END_VAR" 8 (omega arith) (λ w n. refl)

pub key_array : KeyIs "ARRAY" 9
unfolding bytes same_bytes reserved signs entries words said
key_array = key_class "ARRAY" 9 (omega arith) (λ w n. refl)

pub key_of_lem : KeyIs "OF" 10
unfolding bytes same_bytes reserved signs entries words said
key_of_lem = key_class "OF" 10 (omega arith) (λ w n. refl)

pub key_if : KeyIs "IF" 11
unfolding bytes same_bytes reserved signs entries words said
key_if = key_class "IF" 11 (omega arith) (λ w n. refl)

pub key_then : KeyIs "THEN" 12
unfolding bytes same_bytes reserved signs entries words said
key_then = key_class "THEN" 12 (omega arith) (λ w n. refl)

pub key_elsif : KeyIs "ELSIF" 13
unfolding bytes same_bytes reserved signs entries words said
key_elsif = key_class "ELSIF" 13 (omega arith) (λ w n. refl)

pub key_else : KeyIs "ELSE" 14
unfolding bytes same_bytes reserved signs entries words said
key_else = key_class "ELSE" 14 (omega arith) (λ w n. refl)

pub key_end_if : KeyIs "END_IF" 15
unfolding bytes same_bytes reserved signs entries words said
key_end_if = key_class "END_IF" 15 (omega arith) (λ w n. refl)

pub key_case : KeyIs "CASE" 16
unfolding bytes same_bytes reserved signs entries words said
key_case = key_class "CASE" 16 (omega arith) (λ w n. refl)

pub key_end_case : KeyIs "END_CASE" 17
unfolding bytes same_bytes reserved signs entries words said
key_end_case = key_class "END_CASE" 17 (omega arith) (λ w n. refl)

pub key_for : KeyIs "FOR" 18
unfolding bytes same_bytes reserved signs entries words said
key_for = key_class "FOR" 18 (omega arith) (λ w n. refl)

pub key_to : KeyIs "TO" 19
unfolding bytes same_bytes reserved signs entries words said
key_to = key_class "TO" 19 (omega arith) (λ w n. refl)

pub key_by : KeyIs "BY" 20
unfolding bytes same_bytes reserved signs entries words said
key_by = key_class "BY" 20 (omega arith) (λ w n. refl)

pub key_do : KeyIs "DO" 21
unfolding bytes same_bytes reserved signs entries words said
key_do = key_class "DO" 21 (omega arith) (λ w n. refl)

pub key_end_for : KeyIs "END_FOR" 22
unfolding bytes same_bytes reserved signs entries words said
key_end_for = key_class "END_FOR" 22 (omega arith) (λ w n. refl)

pub key_not : KeyIs "NOT" 28
unfolding bytes same_bytes reserved signs entries words said
key_not = key_class "NOT" 28 (omega arith) (λ w n. refl)

pub key_becomes : KeyIs ":=" 54
unfolding bytes same_bytes reserved signs entries words said
key_becomes = key_class ":=" 54 (omega arith) (λ w n. refl)

pub key_range : KeyIs ".." 55
unfolding bytes same_bytes reserved signs entries words said
key_range = key_class ".." 55 (omega arith) (λ w n. refl)

pub key_colon : KeyIs ":" 59
unfolding bytes same_bytes reserved signs entries words said
key_colon = key_class ":" 59 (omega arith) (λ w n. refl)

pub key_semicolon : KeyIs ";" 60
unfolding bytes same_bytes reserved signs entries words said
key_semicolon = key_class ";" 60 (omega arith) (λ w n. refl)

pub key_comma : KeyIs "," 61
unfolding bytes same_bytes reserved signs entries words said
key_comma = key_class "," 61 (omega arith) (λ w n. refl)

pub key_round : KeyIs "(" 62
unfolding bytes same_bytes reserved signs entries words said
key_round = key_class "(" 62 (omega arith) (λ w n. refl)

pub key_round_end : KeyIs ")" 63
unfolding bytes same_bytes reserved signs entries words said
key_round_end = key_class ")" 63 (omega arith) (λ w n. refl)

pub key_square : KeyIs "[" 64
unfolding bytes same_bytes reserved signs entries words said
key_square = key_class "[" 64 (omega arith) (λ w n. refl)

pub key_square_end : KeyIs "]" 65
unfolding bytes same_bytes reserved signs entries words said
key_square_end = key_class "]" 65 (omega arith) (λ w n. refl)

pub key_minus : KeyIs "-" 69
unfolding bytes same_bytes reserved signs entries words said
key_minus = key_class "-" 69 (omega arith) (λ w n. refl)

-- ---- other words

pub number_class : (c n : ℕ) (s : List ℕ) → R.a_number (denoted c s n) ≡ cond (eqb c 2) (some n) none
unfolding reserved signs entries words said
number_class c n s = by_arms R.a_number ((2, some n) ∷ []) s n refl refl c

pub name_class : (c n : ℕ) (s : List ℕ) → R.a_name (denoted c s n) ≡ cond (eqb c 1) (some s) none
unfolding reserved signs entries words said
name_class c n s = by_arms R.a_name ((1, some s) ∷ []) s n refl refl c

pub truth_class : (c n : ℕ) (s : List ℕ) → R.a_truth (denoted c s n) ≡ cond (eqb c 33) (some true) (cond (eqb c 34) (some false) none)
unfolding reserved signs entries words said
truth_class c n s = by_arms R.a_truth ((33, some true) ∷ (34, some false) ∷ []) s n refl refl c

-- only 0 and the numbers beyond the list stand for the ending
ended : (c n : ℕ) (s : List ℕ) → R.is_ending (denoted c s n) ≡ eqb c 0 || ltb 73 c
unfolding reserved signs entries words said
ended c n s = by_class R.is_ending (λ d. eqb d 0 || ltb 73 d) s n refl (λ d l. rw (lt-ltb 73 d l) (sym (or-true (eqb d 0)))) c

pub ending_class : (c n : ℕ) (s : List ℕ) → R.is_ending (denoted c s n) ≡ true → eqb c 0 ≡ false → 70 < c - 3
ending_class c n s h k = omega (arith, ltb-true 73 c (rw k at (sym (ended c n s) ∙ h)))
