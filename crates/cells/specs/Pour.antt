-- A list written over another, as far as there is room.
use Rattle.std.specs.Prelude.{◌≡◌, List, [], ◌∷◌, ◌++◌, ℕ, ◌+◌, min, length, take, drop, replicate}

-- over its front
unfoldable pub pour : {A : Type 0} → List A → List A → List A
pour [] c = c
pour (x ∷ xs) [] = []
pour (x ∷ xs) (y ∷ c) = x ∷ pour xs c

-- the same, and the place behind
pub record Poured {A : Type 0} (xs old new : List A) (r : ℕ) : Type 0 where
  pub poured : new ≡ pour xs old
  pub behind : r ≡ min (length xs) (length old)

-- n times x from a place on, and the place behind
pub record Filled {A : Type 0} (at n : ℕ) (x : A) (old new : List A) (r : ℕ) : Type 0 where
  pub poured : new ≡ take at old ++ pour (replicate n x) (drop at old)
  pub behind : r ≡ min (at + n) (length old)
