-- Values that lie in their types.
use Rattle.std.specs.Prelude.{◌≡◌, true, List, [], ◌∷◌, ℕ, ◌^◌, ◌<◌}
use Rattle.paper.specs.Types.{width}
use Rattle.paper.specs.Names.{Info}
use Rattle.paper.specs.Plain.{State}

-- a residue of the cell's type
abbrev pub InType : Info → ℕ → Type 0
InType i v = v < 2 ^ width i.ty

-- one value a cell, each in its cell's type
abbrev pub InTypes : List Info → State → Type 0
InTypes [] [] = Unit {0}
InTypes [] (v ∷ s) = ⊥
InTypes (i ∷ is) [] = ⊥
InTypes (i ∷ is) (v ∷ s) = InType i v × InTypes is s

-- one place a cell, and those of input cells lie in their types
abbrev pub ReadingsIn : List Info → State → Type 0
ReadingsIn [] xs = Unit {0}
ReadingsIn (i ∷ is) [] = ⊥
ReadingsIn (i ∷ is) (x ∷ xs) = (i.is_input ≡ true → InType i x) × ReadingsIn is xs

-- every element of a list
abbrev pub All : {A : Type 0} → (A → Type 0) → List A → Type 0
All P [] = Unit {0}
All P (x ∷ xs) = P x × All P xs
