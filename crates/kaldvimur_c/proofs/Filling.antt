-- Numbers stored one after another are written over the front of a buffer.
use mathlib.Core.List.{List, [], ◌∷◌, ◌++◌}
use mathlib.Core.Path.{◌≡◌, refl, ap}
use Prim.Native.Nat.{ℕ, ◌<◌}
use native.Mathlib.Omega.{arith}
use lib.ListN.{length, set}
use Rattle.paper.specs.Judge.{over}

pub one_more : (new : List ℕ) (n : ℕ) (old : List ℕ) → length new < length old → set (over new old) (length new) n ≡ over (new ++ n ∷ []) old
one_more [] n [] h = absurd (omega arith)
one_more [] n (x ∷ old) h = refl
one_more (x ∷ new) n [] h = absurd (omega arith)
one_more (x ∷ new) n (y ∷ old) h = ap (λ (l : List ℕ). x ∷ l) (one_more new n old (omega arith))
