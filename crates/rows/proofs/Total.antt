-- A table that keeps rule 11 is what the total reading says, and that reading is what runs.
use mathlib.Core.Bool.{Bool, true, false, cond, ◌&&◌}
use mathlib.Core.List.{List, [], ◌∷◌, map}
use mathlib.Core.Option.{Option, none, some}
use mathlib.Core.Path.{◌≡◌, refl, sym, ap, ap₂, ◌∙◌}
use Prim.Native.Nat.{ℕ, zero, suc, ◌≤◌}
use lib.Dec.{leb}
use lib.ListN.{length, take}
use lib.Seq.{length-take-le, take-length}
use Rattle.paper.specs.Meaning.{◌>>=◌}
use Rattle.paper.specs.Names.{Info}
use Rattle.paper.specs.Plain.{State}
use Rattle.paper.specs.Tables.{Line, Table, Lent, line_of, lines_of, lines_in, lines_keep, cells_keep, infos_of, next_of, table_in, total_in, values, run_table}
use Rattle.rows.specs.Lent.{is_known, lent, IsNext}
use Rattle.rows.proofs.There.{no_answer, certain}
use Rattle.rows.proofs.Tested.{line, lined}

-- a list that was read, by its first line and the rest
parts : (l : Option Line) (ks : Option (List Line)) (ls : List Line)
    → (l >>= λ x. ks >>= λ xs. some (x ∷ xs)) ≡ some ls
    → (x : Line) × (xs : List Line) × (l ≡ some x) × (ks ≡ some xs) × (x ∷ xs ≡ ls)
parts none ks ls e = absurd (no_answer e)
parts (some x) none ls e = absurd (no_answer e)
parts (some x) (some xs) ls e = (x, xs, refl, refl, cc)

lines_are : (n : ℕ) (rs : List ℕ) (ls : List Line) → lines_of n rs ≡ some ls → lines_in n rs ≡ ls
unfolding lines_of lines_in
lines_are zero rs ls e = cc
lines_are (suc n) [] ls e = absurd (no_answer e)
lines_are (suc n) (o ∷ []) ls e = absurd (no_answer e)
lines_are (suc n) (o ∷ a ∷ []) ls e = absurd (no_answer e)
lines_are (suc n) (o ∷ a ∷ b ∷ []) ls e = absurd (no_answer e)
lines_are (suc n) (o ∷ a ∷ b ∷ c ∷ rs) ls e =
    let p = parts (line_of o a b c) (lines_of n rs) ls e in
    rw (certain (is_known o) (line o a b c) p.2, lines_are n rs p.1 p.3) p.4

module _ (rs : List ℕ) (n : ℕ) (xs : List ℕ) (is : List Info) (u : Table) where
  kept : lined rs n xs is ≡ some u → some (record { cells = is; rows = lines_in n rs; next = map next_of xs }) ≡ some u
  kept e = go (lines_of n rs) refl e
    where
      chosen : (b : Bool) (r : Table) → cond b (some r) none ≡ some u → some r ≡ some u
      chosen true r e = e
      chosen false r e = absurd (no_answer e)

      go : (ks : Option (List Line))
          → lines_of n rs ≡ ks
          → (ks >>= λ ls. cond (lines_keep is [] ls && cells_keep ls is xs) (some (record { cells = is; rows = ls; next = map next_of xs })) none) ≡ some u
          → some (record { cells = is; rows = lines_in n rs; next = map next_of xs }) ≡ some u
      go none q e = absurd (no_answer e)
      go (some ls) q e = rw (lines_are n rs ls q) (chosen (lines_keep is [] ls && cells_keep ls is xs) _ e)

pub total : (t : Lent) (u : Table) → table_in t ≡ some u → total_in t ≡ some u
unfolding table_in total_in
total t u e = go (leb t.cell_count 64 && leb t.row_count 3064) (infos_of xs) e
  where
    xs : List ℕ
    xs = take t.cell_count t.cells

    go : (b : Bool) (is : Option (List Info))
        → elim b [ false ↦ none | true ↦ is >>= lined t.rows t.row_count xs ] ≡ some u
        → elim b [ false ↦ none | true ↦ is >>= λ is. some (record { cells = is; rows = lines_in t.row_count t.rows; next = map next_of xs }) ] ≡ some u
    go false is e = e
    go true none e = e
    go true (some is) e = kept t.rows t.row_count xs is u e

-- ---- more cells lent than counted

module _ (rs cs : List ℕ) (n k : ℕ) (h : k ≤ length cs) where
  abbrev more : Lent
  more = record { rows = rs; cells = cs; row_count = n; cell_count = k }

  counted : k ≡ length (take k cs)
  counted = sym (length-take-le k cs h)

  front : take k cs ≡ take (length (take k cs)) (take k cs)
  front = sym (take-length (take k cs))

  pub table_front : table_in more ≡ table_in (lent rs (take k cs) n)
  unfolding table_in
  table_front =
      ap₂
      (λ (m : ℕ) (xs : List ℕ). elim (leb m 64 && leb n 3064) as (λ b. Option Table) [ false ↦ none | true ↦ infos_of xs >>= lined rs n xs ])
      counted
      front

  pub total_front : total_in more ≡ total_in (lent rs (take k cs) n)
  unfolding total_in
  total_front =
      ap₂
      (λ (m : ℕ) (xs : List ℕ).
      elim (leb m 64 && leb n 3064) as (λ b. Option Table) [
        | false ↦ none
        | true ↦ infos_of xs >>= λ is. some (record { cells = is; rows = lines_in n rs; next = map next_of xs })
      ])
      counted
      front

-- ---- the run

-- what the rows and the cells give together is the table's run
pub ran : (rs cs : List ℕ) (n : ℕ) (u : Table) (s r : State)
    → total_in (lent rs cs n) ≡ some u
    → IsNext cs (values s [] (lines_in n rs)) s r
    → r ≡ run_table u s
unfolding total_in run_table
ran rs cs n u s r e h = go (leb (length cs) 64 && leb n 3064) (take (length cs) cs) (infos_of (take (length cs) cs)) (take-length cs) refl e
  where
    go : (b : Bool) (xs : List ℕ) (o : Option (List Info))
        → xs ≡ cs
        → infos_of xs ≡ o
        → elim b [ false ↦ none | true ↦ o >>= λ is. some (record { cells = is; rows = lines_in n rs; next = map next_of xs }) ] ≡ some u
        → r ≡ run_table u s
    go false xs o p q e = absurd (no_answer e)
    go true xs none p q e = absurd (no_answer e)
    go true xs (some is) p q e =
        let k : record { cells = is; rows = lines_in n rs; next = map next_of xs } ≡ u = cc in
        h is (rw p at q) ∙ rw (← p) (ap (λ (t : Table). run_table t s) k)
