-- What it means that bytes begin with a word.
use mathlib.Core.Path.{◌≡◌, refl, ap}
use mathlib.Core.Bool.{Bool, true, false, ◌&&◌, and-eq-true_iff, false≢true}
use mathlib.Core.List.{List, [], ◌∷◌, ◌++◌}
use Prim.Native.Nat.{ℕ}
use borrow.Author.Tests.{eqb-true, eq-eqb}
use lib.Dec.{eqb}
use lib.ListN.{length, drop}
use Rattle.paper.specs.Words.{begins}

-- two tests that hold together hold
pub both : (x y : Bool) → (x && y) ≡ true → (x ≡ true) × (y ≡ true)
both x y h = (and-eq-true_iff x y).0 h

-- what they begin with is the word
pub split : (w s : List ℕ) → begins w s ≡ true → s ≡ w ++ drop (length w) s
unfolding begins
split [] s h = refl
split (c ∷ w) [] h = absurd (false≢true h)
split (c ∷ w) (d ∷ s) h =
    let b = both (eqb c d) (begins w s) h in
    rw (← eqb-true c d b.0) (ap (λ (r : List ℕ). c ∷ r) (split w s b.1))

-- a word and more begin with the word
pub begun : (w rest : List ℕ) → begins w (w ++ rest) ≡ true
unfolding begins
begun [] rest = refl
begun (c ∷ w) rest = rw (eq-eqb c c refl, begun w rest)

-- and nothing else does
pub not_begun : (w s : List ℕ) → ((rest : List ℕ) → s ≡ w ++ rest → ⊥) → begins w s ≡ false
not_begun w s f = go (begins w s) (λ e. f (drop (length w) s) (split w s e))
  where
    go : (b : Bool) → (b ≡ true → ⊥) → b ≡ false
    go true g = absurd (g refl)
    go false g = refl
