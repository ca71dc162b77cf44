-- Sections take the declarations of each kind, so that the printed order is as good as that of the text.
use mathlib.Core.Path.{◌≡◌, refl, sym, ap, ◌∙◌}
use mathlib.Core.Bool.{Bool, true, false, cond}
use mathlib.Core.List.{List, [], ◌∷◌, ◌++◌, append-nil}
use Prim.Native.Nat.{ℕ}
use borrow.Author.Tests.{eqb-true}
use lib.Dec.{eqb}
use Rattle.paper.specs.declared.Kind.{Kind}
use Rattle.paper.specs.declared.Kind.TheVariants.{Input, Output, Other}
use Rattle.paper.specs.Source.{Declared}
use Rattle.paper.specs.Names.{kind_tag, same_kind, of_kind, printed}
use Rattle.paper.specs.Printing as P

of_append : (x : Kind) (cs ds : List Declared) → of_kind x (cs ++ ds) ≡ of_kind x cs ++ of_kind x ds
unfolding of_kind
of_append x [] ds = refl
of_append x (c ∷ cs) ds = go (same_kind x c.kind) (of_append x cs ds)
  where
    go : (b : Bool) → of_kind x (cs ++ ds) ≡ of_kind x cs ++ of_kind x ds
        → cond b (c ∷ of_kind x (cs ++ ds)) (of_kind x (cs ++ ds)) ≡ cond b (c ∷ of_kind x cs) (of_kind x cs) ++ of_kind x ds
    go true e = ap (λ (l : List Declared). c ∷ l) e
    go false e = e

-- a kind of itself is all of it, and of another nothing
of_same : (x : Kind) (ds : List Declared) → of_kind x (of_kind x ds) ≡ of_kind x ds
unfolding of_kind
of_same x [] = refl
of_same x (d ∷ ds) = go (same_kind x d.kind) refl (of_same x ds)
  where
    go : (b : Bool) → same_kind x d.kind ≡ b → of_kind x (of_kind x ds) ≡ of_kind x ds
        → of_kind x (cond b (d ∷ of_kind x ds) (of_kind x ds)) ≡ cond b (d ∷ of_kind x ds) (of_kind x ds)
    go true h e = rw h (ap (λ (l : List Declared). d ∷ l) e)
    go false h e = e

of_other : (x y : Kind) → same_kind x y ≡ false → (ds : List Declared) → of_kind x (of_kind y ds) ≡ []
unfolding of_kind
of_other x y h [] = refl
of_other x y h (d ∷ ds) = go (same_kind y d.kind) refl (of_other x y h ds)
  where
    go : (b : Bool) → same_kind y d.kind ≡ b → of_kind x (of_kind y ds) ≡ [] → of_kind x (cond b (d ∷ of_kind y ds) (of_kind y ds)) ≡ []
    go true s e =
        let no : same_kind x d.kind ≡ false = ap (λ (n : ℕ). eqb (kind_tag x) n) (sym (eqb-true (kind_tag y) (kind_tag d.kind) s)) ∙ h in
        rw no e
    go false s e = e

of_printed : (x : Kind) (ds : List Declared) → of_kind x (printed ds) ≡ of_kind x ds
unfolding printed
of_printed Input ds = simp (of_append, of_same Input, of_other Input Output refl, of_other Input Other refl, append-nil)
of_printed Output ds = simp (of_append, of_same Output, of_other Output Input refl, of_other Output Other refl, append-nil)
of_printed Other ds = simp (of_append, of_same Other, of_other Other Input refl, of_other Other Output refl)

pub sections_printed : (ds : List Declared) (k : List ℕ) → P.sections (printed ds) k ≡ P.sections ds k
unfolding P.sections
sections_printed ds k = rw (of_printed Input ds, of_printed Output ds, of_printed Other ds)
