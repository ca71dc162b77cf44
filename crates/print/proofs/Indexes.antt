-- The index of cells, entry by entry.
use mathlib.Core.Path.{◌≡◌, refl, ◌∙◌}
use mathlib.Core.Bool.{Bool, true, false, cond, ◌&&◌}
use mathlib.Core.List.{List}
use Prim.Native.Nat.{ℕ, ◌+◌, ◌/◌, ◌≤◌, ◌<◌}
use native.Mathlib.Omega.{arith}
use borrow.Author.Tests.{ltb-true, ltb-false, lt-ltb, le-ltb}
use lib.Dec.{ltb, leb}
use lib.ListN.{length, get_or}
use Rattle.paper.specs.Names.{size_of}
use Rattle.paper.specs.Printing.{cell, cell_of_variable}
use Rattle.tree.specs.Nodes.{word_of}
use Rattle.variables.specs.Table.{bounds_in, node_in}
use Rattle.print.specs.Parts.{variable_at, Holds, holds}
use Rattle.print.proofs.Cells.{holds_from, rest, passed, found, missing}

-- ---- one variable: the entries from `first` up to the cell c are v, the others as they were

abbrev pub EnteredTo : ℕ → ℕ → List ℕ → ℕ → List ℕ → Type 0
EnteredTo first v old c is = (i : ℕ) → i < 64 → get_or is i 0 ≡ cond (leb first i && ltb i c) v (get_or old i 0)

same_below : (i c e : ℕ) → c ≤ e → (i < e → i < c) → ltb i c ≡ ltb i e
same_below i c e l h = go (ltb i e) refl
  where
    go : (b : Bool) → ltb i e ≡ b → ltb i c ≡ b
    go true q = lt-ltb i c (h (ltb-true i e q))
    go false q = let m : e ≤ i = ltb-false i e q in le-ltb i c (omega arith)

pub all_entered : (p tab : List ℕ) (first v : ℕ) (old : List ℕ) (c : ℕ) (is : List ℕ) (j n : ℕ) → first ≡ word_of tab v 2
    → j ≡ node_in p (word_of tab v 1) → n ≡ size_of (bounds_in p j) → c ≤ first + n → ((i : ℕ) → i < 64 → i < first + n → i < c)
    → EnteredTo first v old c is → (i : ℕ) → i < 64 → get_or is i 0 ≡ cond (holds p tab i v) v (get_or old i 0)
all_entered p tab first v old c is j n x y z l m h i k =
    rw (← x, ← y, ← z, ← same_below i c (first + n) l (m i k)) (h i k)

-- ---- all variables: the first from v on that has the cell c, or how many there are

pub record HoldsFrom (p tab : List ℕ) (v c r : ℕ) : Type 0 where
  pub most : r ≤ length tab / 4
  pub from : r < length tab / 4 → word_of tab r 2 ≤ c
  pub found : r < length tab / 4 → (t k : List ℕ) → cell (rest t p tab v) c k ≡ cell_of_variable (variable_at t p tab r) c k
  pub missing : length tab / 4 ≤ r → (t k : List ℕ) → cell (rest t p tab v) c k ≡ k

module _ (p tab : List ℕ) (c : ℕ) where
  pub from_none : HoldsFrom p tab (length tab / 4) c (length tab / 4)
  from_none =
      record {
        most = omega arith;
        from = λ l. absurd (omega arith);
        found = λ l. absurd (omega arith);
        missing = λ l t k. missing t p tab c k;
      }

  pub from_one : (v w r : ℕ) → w ≡ v + 1 → v < length tab / 4 → HoldsFrom p tab w c r → HoldsFrom p tab v c (cond (holds p tab c v) v r)
  from_one v w r x s h = go (holds p tab c v) refl (rw x at h)
    where
      go : (b : Bool) → holds p tab c v ≡ b → HoldsFrom p tab (v + 1) c r → HoldsFrom p tab v c (cond b v r)
      go true e m =
          record {
            most = omega arith;
            from = λ l. holds_from p tab c v e;
            found = λ l t k. found t p tab c k v s e;
            missing = λ l. absurd (omega arith);
          }
      go false e m =
          record {
            most = m.most;
            from = m.from;
            found = λ l t k. passed t p tab c k v s e ∙ m.found l t k;
            missing = λ l t k. passed t p tab c k v s e ∙ m.missing l t k;
          }

  pub from_all : (r : ℕ) → HoldsFrom p tab 0 c r → Holds p tab c r
  from_all r h = record { most = h.most; from = h.from; found = h.found; missing = h.missing }
