-- A run of scans by `scan` and one by `table` and `scan_table`: the states after each scan, as the functions left them.
use Rattle.std.specs.Prelude.{◌≡◌, List, [], ◌∷◌, ℕ, ℤ, Ok}
use Rattle.paper.specs.Tables.{Lent}
use Rattle.paper.specs.Judge.{scan_lent, scan_checked}
use Rattle.lent.specs.Outcomes.{Outcome}
use Rattle.lent.specs.Tables as Table
use Rattle.lent.specs.Tables.{lent_with}
use Rattle.kaldvimur.specs.Scans as Text
use Rattle.kaldvimur.specs.Tables.{sized, TableDid}

-- each scan from the state that the one before left; a scan that is refused leaves it as it was
pub data Runs (D : List ℤ → List ℤ → List ℤ → Outcome → Type 0) : List (List ℤ) → List ℤ → List (List ℤ) → Type 0 where
  ended : {s : List ℤ} → Runs D [] s []
  goes : {x : List ℤ} {xs : List (List ℤ)} {s n : List ℤ} {ns : List (List ℤ)} (r : Outcome) → D x s n r → Runs D xs n ns → Runs D (x ∷ xs) s (n ∷ ns)

abbrev pub RunsByText : List ℕ → List (List ℤ) → List ℤ → List (List ℤ) → Type 0
RunsByText t = Runs (Text.ScanDid t)

abbrev pub RunsByTable : Lent → List (List ℤ) → List ℤ → List (List ℤ) → Type 0
RunsByTable t = Runs (Table.ScanDid scan_lent t)

abbrev pub RunsChecked : Lent → List (List ℤ) → List ℤ → List (List ℤ) → Type 0
RunsChecked t = Runs (Table.ScanDid scan_checked t)

-- for every text of which `table` made a table, whatever the buffers held, every state and every run of inputs:
-- the states after every scan are the same by the text, by the table, and by the table without rule 11 looked at again
pub record Agree (t rows cells : List ℕ) (n k : ℕ) (xs : List (List ℤ)) (s : List ℤ) : Type 0 where
  pub by_table : (ps qs : List (List ℤ)) → RunsByText t xs s ps → RunsByTable (lent_with rows cells n k) xs s qs → ps ≡ qs
  pub checked : (ps qs : List (List ℤ)) → RunsByText t xs s ps → RunsChecked (lent_with rows cells n k) xs s qs → ps ≡ qs

abbrev pub AgreeForAll : Type 0
AgreeForAll =
    (t oldRows oldCells rows cells : List ℕ) (n k : ℕ) → TableDid t oldRows oldCells rows cells (Ok (sized n k))
    → (xs : List (List ℤ)) (s : List ℤ) → Agree t rows cells n k xs s
