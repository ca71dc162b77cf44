-- What holds of every place of a text, and of the one behind it, holds of its words' places and of a refusal's.
use mathlib.Core.List.{List, [], ◌∷◌}
use mathlib.Core.Path.{refl}
use Prim.Native.Nat.{ℕ, zero, suc, ◌+◌, ◌≤◌}
use native.Mathlib.Omega.{arith}
use lib.ListN.{length}
use Rattle.paper.specs.declared.Why.TheVariants.{NoWord}
use Rattle.paper.specs.Refusals.{refused, given, ◌>>=◌}
use Rattle.paper.specs.Words as W
use Rattle.paper.specs.Words.{Piece, piece_of, words_from, words_of}
use Rattle.demands.proofs.ShortWords.{ShortPiece, piece_short}
use Rattle.demands.proofs.Placed.{Words, over, word, Answers, stopped, gave, then}

module _ (P : ℕ → Type 0) where
  -- s is what is left of the text at p
  from_at : (k p : ℕ) (s : List ℕ) → ((q : ℕ) → q ≤ p + length s → P q) → Answers P (Words P) (words_from k p s)
  unfolding words_from
  from_at k p [] h = gave (word (h p (omega arith)) refl (over (h 0 (omega arith))))
  from_at (suc k) p (c ∷ s) h = from_at k (suc p) s (λ q i. h q (omega arith))
  from_at zero p (c ∷ s) h =
      go (h p (omega arith)) (piece_of c s) (piece_short c s) (λ k. from_at k (suc p) s (λ q i. h q (omega arith)))
    where
      go : P p → (x : Piece) → ShortPiece x → ((k : ℕ) → Answers P (Words P) (words_from k (suc p) s))
          → Answers P (Words P)
          (elim x [
            | W.gap k ↦ words_from k (suc p) s
            | W.word k w ↦ (words_from k (suc p) s >>= λ ts. given (record { word = w; place = p } ∷ ts))
            | W.bad ↦ refused NoWord p
          ])
      go here (W.gap k) short again = again k
      go here (W.word k w) short again = then (again k) λ ts hs. gave (word here short hs)
      go here W.bad short again = stopped here

  pub words_at_lem : (text : List ℕ) → ((q : ℕ) → q ≤ length text → P q) → Answers P (Words P) (words_of text)
  unfolding words_of
  words_at_lem text h = from_at 0 0 text (λ q i. h q (omega arith))
