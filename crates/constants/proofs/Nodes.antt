-- The kind of a node.
use mathlib.Core.Path.{◌≡◌, refl, sym, ap, subst}
use mathlib.Core.Bool.{Bool, true, false, cond}
use mathlib.Core.List.{List}
use Prim.Native.Nat.{ℕ, ◌<◌}
use native.Mathlib.Omega.{arith}
use borrow.Author.Tests.{eqb-true, eqb-false, ne_eqb}
use lib.Dec.{eqb}
use Rattle.tree.specs.Nodes.{word_of, kind_of}

-- the first word, but for nil
pub kind_word : (p : List ℕ) (i : ℕ) → 0 < i → word_of p i 0 ≡ kind_of p i
kind_word p i l = sym (ap (λ b. cond b 0 (word_of p i 0)) (ne_eqb i 0 (λ e. omega arith)))

-- what holds of two kinds holds of one that can be no other
pub of_two : (P : ℕ → Type 0) (a b w : ℕ) → P a → P b → ((w ≡ a → ⊥) → w ≡ b) → P w
of_two P a b w x y h = go (eqb w a) refl
  where
    go : (f : Bool) → eqb w a ≡ f → P w
    go true e = subst P (sym (eqb-true w a e)) x
    go false e = subst P (sym (h (eqb-false w a e))) y
