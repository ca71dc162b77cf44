-- How the words of a text go on behind a piece.
use mathlib.Core.Path.{◌≡◌, refl, sym, ap, ◌∙◌}
use mathlib.Core.Bool.{Bool, true, false, true≢false, false≢true}
use mathlib.Core.List.{List, [], ◌∷◌, ◌++◌, append_assoc}
use Prim.Native.Nat.{ℕ, suc, ◌+◌, ◌-◌, ◌≤◌, ◌<◌}
use native.Mathlib.Omega.{arith}
use borrow.Author.Tests.{ne_eqb, eqb-true}
use lib.Dec.{eqb}
use lib.ListN.{length, get_or, drop, drop_of_length-le}
use Rattle.paper.specs.declared.Why.TheVariants.{NoWord}
use Rattle.paper.specs.Refusals.{Answer, refused, given, ◌>>=◌}
use Rattle.std.specs.Prelude.{Ok, Err}
use Rattle.paper.specs.Words as W
use Rattle.paper.specs.Words.{Token, piece_of, words_from, words_of}
use Rattle.words.specs.declared.Word.{Word}
use Rattle.words.specs.Denoted.{folded, denoted, words_at, Skips, IsPiece, IsWordAt, answered, classed, IsWord, IsTold}
use Rattle.words.proofs.Gaps.{words_word, words_bad}
use Rattle.words.proofs.Keys.{some_class}
use Rattle.words.proofs.Pieces.{bad_at}

-- ---- the words from a place on

-- where the first is r, by its class
module _ (t : List ℕ) (r : Word) where
  answered_bad : eqb r.class 255 ≡ true → answered t r ≡ refused NoWord r.at
  answered_bad b = rw (b, answered)

  answered_ending : eqb r.class 255 ≡ false → eqb r.class 0 ≡ true → answered t r ≡ given (record { word = W.ending; place = length t } ∷ [])
  answered_ending b z = rw (b, z, answered)

  abbrev token : Token
  token = record { word = denoted r.class (folded t r.at r.end) r.value; place = r.at }

  answered_word : eqb r.class 255 ≡ false → eqb r.class 0 ≡ false → answered t r ≡ (words_at t r.end >>= λ ts. given (token ∷ ts))
  answered_word b z = rw (b, z, answered)

-- by the piece there
words_cut : (t : List ℕ) (at : ℕ) (r : Word) → at < length t → IsPiece t at (piece_of (get_or t at 0) (drop (suc at) t)) r → words_at t at ≡ answered t r
words_cut t at r h q = go (eqb r.class 255) refl
  where
    go : (b : Bool) → eqb r.class 255 ≡ b → words_at t at ≡ answered t r
    go true b = words_bad t at h (q.piece ∙ rw b) ∙ rw (answered_bad t r b, q.here)
    go false b =
        let z : eqb r.class 0 ≡ false = ne_eqb r.class 0 (λ z. omega (arith, q.some_word)) in
        let m : at < r.end = q.moves b in
        let k : at + suc (r.end - suc r.at) ≡ r.end = omega (arith, q.here) in
        words_word t at h (r.end - suc r.at) (token t r).word (omega (arith, q.to)) (q.piece ∙ rw b)
        ∙ rw (answered_word t r b z, k, q.here)

-- ---- the next word, by what blanks and comments leave

module _ (t : List ℕ) (at i : ℕ) where
  pub word_next : Skips t at (Ok i) → i < length t → (r : Word) → IsWordAt t i r → IsWord t at r
  word_next s h r w =
      let p = w (s.there.1 h).0 (s.there.1 h).1 in
      record {
        from = omega (arith, s.from, p.here);
        on = omega (arith, p.from, p.here);
        to = p.to;
        moves = λ q _. omega (arith, p.moves q, p.here);
        words = s.there.0 ∙ words_cut t i r h p;
        again = λ _. ap (words_at t) p.here ∙ words_cut t i r h p;
        last = λ q. absurd (omega (arith, p.some_word, eqb-true r.class 0 q));
        known = p.known;
      }

  pub ending_next : Skips t at (Ok i) → length t ≤ i → IsWord t at (record { class = 0; at = i; end = i; value = 0 })
  unfolding words_from
  ending_next s h =
      let e : i ≡ length t = omega (arith, s.to) in
      record {
        from = s.from;
        on = omega arith;
        to = s.to;
        moves = λ _ q. absurd (true≢false q);
        words = s.there.0 ∙ rw (drop_of_length-le t h, e);
        again = λ _. rw (drop_of_length-le t h, e);
        last = λ _. e;
        known = λ _. omega arith;
      }

-- where reserved words aren't told, the word has some class, that of a bad word or the ending if it says so
abbrev pub Found : List ℕ → ℕ → Word → Type 0
Found t at r = (c : ℕ) × (eqb c 255 ≡ eqb r.class 255) × (eqb c 0 ≡ eqb r.class 0) × IsWord t at (classed r c)

pub some_word : (t : List ℕ) (at : ℕ) (r : Word) → IsTold false t at r → Found t at r
some_word t at r w = go (eqb r.class 1) refl
  where
    go : (b : Bool) → eqb r.class 1 ≡ b → Found t at r
    go true q =
        let k = some_class (folded t r.at r.end) in
        let e : r.class ≡ 1 = eqb-true r.class 1 q in (
          k.0,
          ne_eqb k.0 255 (λ z. omega (arith, k.1.high)) ∙ sym (ne_eqb r.class 255 (λ z. omega arith)),
          ne_eqb k.0 0 (λ z. omega (arith, k.1.low)) ∙ sym (ne_eqb r.class 0 (λ z. omega arith)),
          w k.0 (rw q k.1),
        )
    go false q = (r.class, refl, refl, w r.class (rw q))

-- ---- the words so far

-- some words stand before a place, and those of the text are these and what stands from there on
pub record Passed (t : List ℕ) (at : ℕ) : Type 0 where
  pub inside : at ≤ length t
  pub before : List Token
  pub words : words_of t ≡ (words_at t at >>= λ ts. given (before ++ ts))

given_all : (x : Answer (List Token)) → x ≡ (x >>= λ ts. given ([] ++ ts))
given_all (refused w p) = refl
given_all (given ts) = refl

given_more : (x : Answer (List Token)) (us : List Token) (k : Token)
    → (x >>= (λ ts. given (k ∷ ts)) >>= λ ts. given (us ++ ts)) ≡ (x >>= λ ts. given ((us ++ k ∷ []) ++ ts))
given_more (refused w p) us k = refl
given_more (given ts) us k = rw (append_assoc us (k ∷ []) ts)

pub none_passed : (t : List ℕ) → Passed t 0
unfolding words_of
none_passed t = record { inside = omega arith; before = []; words = given_all (words_from 0 0 t) }

module _ (t : List ℕ) (at : ℕ) (r : Word) (p : Passed t at) (w : IsWord t at r) where
  pub bad_passed : eqb r.class 255 ≡ true → words_of t ≡ refused NoWord r.at
  bad_passed b = p.words ∙ rw (w.words, answered_bad t r b)

  pub ending_passed : eqb r.class 255 ≡ false → eqb r.class 0 ≡ true → (ts : List Token) × (words_of t ≡ given ts)
  ending_passed b z = (p.before ++ record { word = W.ending; place = length t } ∷ [], p.words ∙ rw (w.words, answered_ending t r b z))

  pub word_passed : eqb r.class 255 ≡ false → eqb r.class 0 ≡ false → Passed t r.end
  word_passed b z =
      record {
        inside = w.to;
        before = p.before ++ token t r ∷ [];
        words = p.words ∙ rw (w.words, answered_word t r b z) (given_more (words_at t r.end) p.before (token t r));
      }
