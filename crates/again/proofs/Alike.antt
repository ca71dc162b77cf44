-- Declarations that differ in places only, and in a value that was left out.
use mathlib.Core.Path.{◌≡◌}
use mathlib.Core.Bool.{Bool, true, false}
use mathlib.Core.List.{List, [], ◌∷◌, ◌++◌}
use Prim.Native.Nat.{ℕ}
use lib.IntN.{ℤ, pos}
use Rattle.paper.specs.declared.Ty.{Ty}
use Rattle.paper.specs.declared.Ty.TheVariants.{Bool as BOOL}
use Rattle.paper.specs.declared.Kind.{Kind}
use Rattle.paper.specs.declared.Kind.TheVariants.{Input, Output, Other}
use Rattle.paper.specs.Types.{is_integer}
use Rattle.paper.specs.Source.{Bounds, single, array, Initial, nothing, value, flag, Declared}

pub data SameBounds : Bounds → Bounds → Type 0 where
  single_again : SameBounds single single
  array_again : {a b p q lo hi : ℕ} → SameBounds (array a lo b hi) (array p lo q hi)

-- the second is the first as printed and read
pub data SameInitial (t : Ty) : Initial → Initial → Type 0 where
  nothing_again : SameInitial t nothing nothing
  zero_read : {q p : ℕ} → is_integer t ≡ true → SameInitial t nothing (value q p (pos 0))
  false_read : {q : ℕ} → BOOL ≡ t → SameInitial t nothing (flag q false)
  value_again : {a b p q : ℕ} {z : ℤ} → SameInitial t (value a b z) (value p q z)
  flag_again : {a p : ℕ} {b : Bool} → SameInitial t (flag a b) (flag p b)

pub record Alike (d e : Declared) : Type 0 where
  pub name : e.name ≡ d.name
  pub kind : e.kind ≡ d.kind
  pub ty : e.ty ≡ d.ty
  pub bounds : SameBounds d.bounds e.bounds
  pub initial : SameInitial d.ty d.initial e.initial

pub data Alikes : List Declared → List Declared → Type 0 where
  none_left : Alikes [] []
  next : {d e : Declared} {ds es : List Declared} → Alike d e → Alikes ds es → Alikes (d ∷ ds) (e ∷ es)

pub both_alike : {ds es ds' es' : List Declared} → Alikes ds es → Alikes ds' es' → Alikes (ds ++ ds') (es ++ es')
both_alike none_left k = k
both_alike (next h hs) k = next h (both_alike hs k)

-- what a declaration may have: an array stands among the others, a value with no input and no array
abbrev pub Shaped : Kind → Bounds → Initial → Type 0
Shaped Input single nothing = Unit {0}
Shaped Input single (value q p z) = ⊥
Shaped Input single (flag q b) = ⊥
Shaped Input (array p lo q hi) v = ⊥
Shaped Output single v = Unit {0}
Shaped Output (array p lo q hi) v = ⊥
Shaped Other single v = Unit {0}
Shaped Other (array p lo q hi) nothing = Unit {0}
Shaped Other (array p lo q hi) (value a b z) = ⊥
Shaped Other (array p lo q hi) (flag a b) = ⊥

abbrev pub ShapedDeclared : Declared → Type 0
ShapedDeclared d = Shaped d.kind d.bounds d.initial
