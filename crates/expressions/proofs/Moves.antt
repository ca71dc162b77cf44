-- Words that move on: what a class says of the place behind a word, and how high an operator's level is.
use mathlib.Core.Path.{◌≡◌, refl, sym, ap, ◌∙◌}
use mathlib.Core.Bool.{false}
use mathlib.Core.Option.{Option, none, some}
use mathlib.Core.List.{List, []}
use Prim.Native.Nat.{ℕ, ◌≤◌, ◌<◌}
use native.Mathlib.Omega.{arith}
use lib.Dec.{eqb}
use lib.ListN.{get_or}
use denote.Enum.Declared.{tag_of}
use borrow.Author.Tests.{ne_eqb}
use Rattle.std.specs.Prelude.{Some}
use Rattle.std.proofs.lemmas.Option.{none-some}
use Rattle.paper.specs.declared.Ty.{Ty}
use Rattle.paper.specs.declared.Op.{Op}
use Rattle.paper.specs.declared.Op.TheVariants.{Mul, Div, Mod, Add, Sub, Lt, Gt, Le, Ge, Eq, Ne, And, Xor, Or}
use Rattle.paper.specs.Words as W
use Rattle.paper.specs.Reading as R
use Rattle.paper.specs.contracts.Op.{the_type}
use Rattle.words.specs.declared.Word.{Word}
use Rattle.words.specs.Denoted.{IsWord, denoted, entries}
use Rattle.tree.specs.Trees.{operators}
use Rattle.expressions.specs.Reads.{IsOperator, IsType, IsConversion, as_conversion}

pub class_moves : (t : List ℕ) (at : ℕ) (w : Word) → IsWord t at w → (c : ℕ) → w.class ≡ c → eqb c 255 ≡ false → eqb c 0 ≡ false → w.at < w.end
class_moves t at w i c e x y = i.moves (rw e x) (rw e y)

-- a class that is neither the ending's nor a bad word's, since its word is not the ending
ending_0 : denoted 0 [] 0 ≡ W.ending
unfolding denoted
ending_0 = refl

ending_255 : denoted 255 [] 0 ≡ W.ending
unfolding denoted entries W.reserved W.signs
ending_255 = refl

word_class : {A : Type 0} (f : W.Word → A) (c : ℕ) → (f (denoted c [] 0) ≡ f W.ending → ⊥) → (eqb c 255 ≡ false) × (eqb c 0 ≡ false)
word_class f c h = (
  ne_eqb _ _ (λ e. h (ap f (ap (λ d. denoted d [] 0) e ∙ ending_255))),
  ne_eqb _ _ (λ e. h (ap f (ap (λ d. denoted d [] 0) e ∙ ending_0))),
)

-- such is a class whose word is something that the ending is not: an operator, a type, a conversion
pub some_class : {A : Type 0} (f : W.Word → Option A) (c : ℕ) (x : A) → f (denoted c [] 0) ≡ some x → f W.ending ≡ none → (eqb c 255 ≡ false) × (eqb c 0 ≡ false)
some_class f c x h e = word_class f c (λ z. no_one (sym h ∙ z ∙ e))
  where
    no_one : some x ≡ none → ⊥
    no_one g = let b : ◌≡◌ {A = ℕ} 0 1 = cc in omega arith

pub operator_class : (c : ℕ) (o : Op) → IsOperator c (Some o) → (eqb c 255 ≡ false) × (eqb c 0 ≡ false)
operator_class c o k = some_class R.an_operator c o (k [] 0) refl

pub type_class : (c : ℕ) (u : Ty) → IsType c (Some u) → (eqb c 255 ≡ false) × (eqb c 0 ≡ false)
type_class c u k = some_class R.a_type c u (k [] 0) refl

pub conversion_class : (c r : ℕ) → IsConversion c (Some r) → (eqb c 255 ≡ false) × (eqb c 0 ≡ false)
conversion_class c r k = word_class as_conversion c (λ z. none-some r (sym (k [] 0 ∙ z)))

pub level_small : (o : Op) → R.level o ≤ 7
level_small Mul = omega arith
level_small Div = omega arith
level_small Mod = omega arith
level_small Add = omega arith
level_small Sub = omega arith
level_small Lt = omega arith
level_small Gt = omega arith
level_small Le = omega arith
level_small Ge = omega arith
level_small Eq = omega arith
level_small Ne = omega arith
level_small And = omega arith
level_small Xor = omega arith
level_small Or = omega arith

-- an operator's place among them
pub operator_number : (o : Op) → (get_or operators (tag_of the_type o) Or ≡ o) × (tag_of the_type o < 14)
operator_number Mul = (refl, omega arith)
operator_number Div = (refl, omega arith)
operator_number Mod = (refl, omega arith)
operator_number Add = (refl, omega arith)
operator_number Sub = (refl, omega arith)
operator_number Lt = (refl, omega arith)
operator_number Gt = (refl, omega arith)
operator_number Le = (refl, omega arith)
operator_number Ge = (refl, omega arith)
operator_number Eq = (refl, omega arith)
operator_number Ne = (refl, omega arith)
operator_number And = (refl, omega arith)
operator_number Xor = (refl, omega arith)
operator_number Or = (refl, omega arith)
