-- The figure of a node's list, 65535 standing for more, from those of the lists below it.
use mathlib.Core.Path.{◌≡◌}
use mathlib.Core.List.{List}
use Prim.Native.Nat.{ℕ, ◌+◌, min, max}
use native.Mathlib.Omega.{arith}
use Rattle.paper.specs.Plain.{Stmts, figure}
use Rattle.plain.specs.Flat.{list_at}
use Rattle.plain.specs.Kinds.{sublist, IsStatement}
use Rattle.plain.specs.declared.kinds.Statement.TheVariants.{Nothing, Assignment, Choice, List as Both}
use Rattle.plain.proofs.Lists.{figure_join}

abbrev pub short : Stmts → ℕ
short k = min 65535 (figure k)

module _ (p : List ℕ) (i : ℕ) where
  pub nothing_figure : IsStatement p i Nothing → 0 ≡ short (list_at p i)
  unfolding figure
  nothing_figure v = rw v.list (omega arith)

  pub assign_figure : IsStatement p i Assignment → 1 ≡ short (list_at p i)
  unfolding figure
  assign_figure v = rw v.list (omega arith)

  pub choice_figure : IsStatement p i Choice → (a b r : ℕ) → a ≡ short (sublist p i 2) → b ≡ short (sublist p i 3) → r ≡ min 65535 (max a b + 1)
      → r ≡ short (list_at p i)
  unfolding figure
  choice_figure v a b r x y z = rw v.list (omega arith)

  pub list_figure : IsStatement p i Both → (a b r : ℕ) → a ≡ short (sublist p i 1) → b ≡ short (sublist p i 2) → r ≡ min 65535 (a + b)
      → r ≡ short (list_at p i)
  list_figure v a b r x y z = rw (v.list, figure_join) (omega arith)
