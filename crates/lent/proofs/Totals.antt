-- The total reading of a lent table: the counts and the cells' types say whether there is one.
use mathlib.Core.Bool.{Bool, true, false, ◌&&◌}
use mathlib.Core.List.{List, map}
use mathlib.Core.Option.{Option, none, some}
use mathlib.Core.Path.{◌≡◌, refl, sym, ap, ap₂, ◌∙◌}
use Prim.Native.Nat.{ℕ, ◌≤◌, ◌<◌}
use borrow.Author.Tests.{leb-true, le-leb, lt-leb}
use lib.Dec.{leb}
use lib.ListN.{length}
use lib.Seq.{take-length}
use Rattle.paper.specs.Names.{Info}
use Rattle.paper.specs.Meaning.{◌>>=◌}
use Rattle.paper.specs.Tables.{Table, lines_in, infos_of, next_of, total_in}
use Rattle.demands.proofs.Answers.{none_some}
use Rattle.rows.specs.Lent.{lent, Answers}
use Rattle.lent.specs.Totals.{Readable}

module _ (rs cs : List ℕ) (n : ℕ) where
  abbrev table_with : List Info → Table
  table_with is = record { cells = is; rows = lines_in n rs; next = map next_of cs }

  -- by the test of the counts and by the cells' types
  abbrev reading : Bool → Option (List Info) → Option Table
  reading b o = elim b [ false ↦ none | true ↦ o >>= λ is. some (table_with is) ]

  total_is : total_in (lent rs cs n) ≡ reading (leb (length cs) 64 && leb n 3064) (infos_of cs)
  unfolding total_in
  total_is =
      ap
      (λ (xs : List ℕ).
      elim (leb (length cs) 64 && leb n 3064) as (λ b. Option Table) [
        | false ↦ none
        | true ↦ infos_of xs >>= λ is. some (record { cells = is; rows = lines_in n rs; next = map next_of xs })
      ])
      (take-length cs)

  module _ (u : Table) (e : total_in (lent rs cs n) ≡ some u) where
    pub few : (length cs ≤ 64) × (n ≤ 3064)
    few = go (leb (length cs) 64) (leb n 3064) refl refl (sym total_is ∙ e)
      where
        go : (a b : Bool) → leb (length cs) 64 ≡ a → leb n 3064 ≡ b → reading (a && b) (infos_of cs) ≡ some u → (length cs ≤ 64) × (n ≤ 3064)
        go true true p q e = (leb-true (length cs) 64 p, leb-true n 3064 q)
        go true false p q e = none_some e
        go false b p q e = none_some e

    -- the cells of the table that is read
    pub known : infos_of cs ≡ some u.cells
    known = go (leb (length cs) 64 && leb n 3064) (infos_of cs) (sym total_is ∙ e)
      where
        go : (b : Bool) (o : Option (List Info)) → reading b o ≡ some u → o ≡ some u.cells
        go false o e = none_some e
        go true none e = none_some e
        go true (some is) e = let k : table_with is ≡ u = cc in ap (λ (t : Table). some t.cells) k

-- ---- whether there is one

module _ (cs : List ℕ) (n : ℕ) where
  pub many_cells : 64 < length cs → Readable cs n false
  many_cells h rs = total_is rs cs n ∙ ap (λ (b : Bool). reading rs cs n (b && leb n 3064) (infos_of cs)) (lt-leb (length cs) 64 h)

  counted : length cs ≤ 64 → (b : Bool) → leb n 3064 ≡ b → (o : Option (List Info)) → infos_of cs ≡ o
      → (rs : List ℕ) → total_in (lent rs cs n) ≡ reading rs cs n b o
  counted h b e o q rs =
      total_is rs cs n
      ∙ ap (λ (a : Bool). reading rs cs n (a && leb n 3064) (infos_of cs)) (le-leb (length cs) 64 h)
      ∙ ap₂ (λ (b : Bool) (o : Option (List Info)). reading rs cs n b o) e q

  pub many_rows : length cs ≤ 64 → 3064 < n → Readable cs n false
  many_rows h g rs = counted h false (lt-leb n 3064 g) (infos_of cs) refl rs

  pub by_types : length cs ≤ 64 → n ≤ 3064 → (b : Bool) → Answers (infos_of cs) b → Readable cs n b
  by_types h g false a rs = counted h true (le-leb n 3064 g) none a rs
  by_types h g true (is, a) rs = (table_with rs cs n is, counted h true (le-leb n 3064 g) (some is) a rs)
