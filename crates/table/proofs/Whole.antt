-- The whole table: the cells' values at the scan's start, the list, the cells' next rows.
use mathlib.Core.Path.{refl, ap, ◌∙◌}
use mathlib.Core.List.{List, []}
use Prim.Native.Nat.{ℕ}
use Rattle.paper.specs.Tables.{records, cell_records, statement_rows, reads, rows_from, table_of}
use Rattle.paper.specs.Judge.{over}
use Rattle.plain.specs.Flat.{list_at}
use Rattle.table.specs.Growth.{Holds}
use Rattle.table.specs.Walks.{Stands, Binds, Starts, Ends, Tabled}
use Rattle.table.proofs.Growing.{room_less}
use Rattle.table.proofs.Binding.{statement_grows}

-- no rows at first
empty : (base : List ℕ) → Holds base base 0 []
unfolding records
empty base = record { count = refl; rows = refl }

pub whole_table : (p : List ℕ) (i : ℕ) (infos env first last old mid new cells cells' : List ℕ) (a b : ℕ)
    → Starts 0 infos env first old mid 0 a → Binds infos (list_at p i) first last mid new a b → Ends 0 infos last cells cells'
    → Tabled p i infos old new cells cells' b
unfolding table_of
whole_table p i infos env first last old mid new cells cells' a b starts binds ends is read room =
    let s = starts.starts is read old [] (empty old) refl (room_less old _ _ (statement_grows is (list_at p i) (rows_from 0 is) (reads 0 is)) room) in
    let m : Stands old new b last (statement_rows is (list_at p i) (rows_from 0 is) (reads 0 is)) = rw s.1 at (binds is read old (reads 0 is) s.0) in
    let r = m room in
    (r.0.count, r.0.rows, ends.ends is read ∙ ap (λ es. over (cell_records is es) cells) r.1)
