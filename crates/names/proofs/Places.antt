-- Names by their places, through changes of the list of places.
use mathlib.Core.Path.{◌≡◌, refl, ap, ap₂, ◌∙◌}
use mathlib.Core.List.{List, ◌∷◌}
use Prim.Native.Nat.{ℕ, zero, suc, ◌+◌, ◌≤◌, ◌<◌}
use native.Mathlib.Numerals.{add-one}
use native.Mathlib.Omega.{arith}
use lib.ListN.{length, take, set}
use lib.Seq.{length-take-le, get_or-take, get_or-set_same, get_or-set_other}
use Rattle.tree.specs.Trees.{name_at}
use Rattle.variables.specs.Table.{names_to}
use Rattle.names.specs.Walks.{Kept}

pub kept_less : (d e : ℕ) (old new : List ℕ) → d ≤ e → Kept e old new → Kept d old new
kept_less d e old new m h k l = h k (omega arith)

pub kept_set : (d : ℕ) (ls : List ℕ) (q : ℕ) → Kept d ls (set ls d q)
kept_set d ls q k l = get_or-set_other ls d k q 0 (omega arith)

module _ (t : List ℕ) where
  pub names_kept : (d : ℕ) (old new : List ℕ) → Kept d old new → names_to t new d ≡ names_to t old d
  unfolding names_to
  names_kept zero old new h = refl
  names_kept (suc d) old new h =
      ap₂ (λ q ns. name_at t q ∷ ns) (h d (omega arith)) (names_kept d old new (kept_less d (suc d) old new (omega arith) h))

  -- the places of a part
  pub names_take : (d : ℕ) (ls : List ℕ) → d ≤ length ls → names_to t (take d ls) (length (take d ls)) ≡ names_to t ls d
  names_take d ls l =
      ap (names_to t (take d ls)) (length-take-le d ls l) ∙ names_kept d ls (take d ls) (λ k s. get_or-take d ls k 0 s)

  -- one place more
  pub names_set : (d : ℕ) (ls : List ℕ) (q : ℕ) → d < length ls → names_to t (set ls d q) (d + 1) ≡ name_at t q ∷ names_to t ls d
  unfolding names_to
  names_set d ls q l =
      ap (names_to t (set ls d q)) (add-one d)
      ∙ ap₂ (λ q ns. name_at t q ∷ ns) (get_or-set_same ls d q 0 l) (names_kept d ls (set ls d q) (kept_set d ls q))
