-- Rule 11 for the whole table: what `table_in` answers, by the tests that the code makes.
use mathlib.Core.Bool.{Bool, true, false, cond, ◌&&◌}
use mathlib.Core.List.{List, [], ◌∷◌, map}
use mathlib.Core.Option.{Option, none, some}
use mathlib.Core.Path.{◌≡◌, refl, ◌∙◌}
use Prim.Native.Nat.{ℕ, zero, suc, ◌*◌, ◌/◌, ◌%◌, ◌≤◌}
use native.Mathlib.Omega.{arith}
use lib.Dec.{ltb, leb}
use lib.ListN.{length, get_or, take}
use lib.Seq.{take-length}
use Rattle.paper.specs.Meaning.{◌>>=◌}
use Rattle.paper.specs.Names.{Info}
use Rattle.paper.specs.Tables as Tables
use Rattle.paper.specs.Tables.{Table, forms, number, line_in, line_of, lines_of, lines_in, lines_keep, cells_keep, infos_of, next_of, table_in}
use Rattle.rows.specs.Lent.{type_in, is_type, is_known, rows_known, rows_keep, info_in, cells_known, lent, Answers}
use Rattle.rows.proofs.Infos.{infos}
use Rattle.rows.proofs.There.{found, answered, both, then, joined}

-- ---- the lines, where all are known

pub line : (o a b c : ℕ) → line_of o a b c ≡ cond (is_known o) (some (line_in o a b c)) none
unfolding forms
line o a b c =
    rw (found forms (o / 8) (λ t a b c. number t 0), found Tables.types (o % 8) (type_in 0))
    (joined (ltb (o / 8) 23) (is_type o) (get_or forms (o / 8) (λ t a b c. number t 0)) (type_in (o % 8)) (λ f t. f t a b c))

lines : (n : ℕ) (rs : List ℕ) → 4 * n ≤ length rs → lines_of n rs ≡ cond (rows_known n rs) (some (lines_in n rs)) none
unfolding lines_of lines_in rows_known
lines zero rs h = refl
lines (suc n) [] h = absurd (omega arith)
lines (suc n) (o ∷ []) h = absurd (omega arith)
lines (suc n) (o ∷ a ∷ []) h = absurd (omega arith)
lines (suc n) (o ∷ a ∷ b ∷ []) h = absurd (omega arith)
lines (suc n) (o ∷ a ∷ b ∷ c ∷ rs) h =
    rw (line o a b c, lines n rs (omega arith))
    (joined (is_known o) (rows_known n rs) (line_in o a b c) (lines_in n rs) (λ l ls. l ∷ ls))

-- ---- the table

-- the table of the cells `xs` with the types `is`, where the rows are known and all keep the rule
abbrev pub lined : List ℕ → ℕ → List ℕ → List Info → Option Table
lined rs n xs is =
    lines_of n rs >>= λ ls.
    cond (lines_keep is [] ls && cells_keep ls is xs) (some (record { cells = is; rows = ls; next = map next_of xs })) none

module _ (rs cs : List ℕ) (n : ℕ) where
  abbrev pub rule : Bool
  rule = rows_keep (map info_in cs) rs n && cells_keep (lines_in n rs) (map info_in cs) cs

  abbrev pub said : Table
  said = record { cells = map info_in cs; rows = lines_in n rs; next = map next_of cs }

  ruled : 4 * n ≤ length rs → lined rs n cs (map info_in cs) ≡ cond rule (some said) none
  unfolding rows_keep
  ruled h =
      rw (lines n rs h)
      (then (rows_known n rs) (lines_in n rs)
      (λ ls. cond (lines_keep (map info_in cs) [] ls && cells_keep ls (map info_in cs) cs) (some (record { cells = map info_in cs; rows = ls; next = map next_of cs })) none)
      ∙ go (rows_known n rs) (lines_keep (map info_in cs) [] (lines_in n rs)) (cells_keep (lines_in n rs) (map info_in cs) cs))
    where
      go : (p q r : Bool) → cond p (cond (q && r) (some said) none) none ≡ cond ((p && q) && r) (some said) none
      go true q r = refl
      go false q r = refl

  known : 4 * n ≤ length rs → (infos_of cs >>= lined rs n cs) ≡ cond (cells_known cs && rule) (some said) none
  known h =
      rw (infos cs, then (cells_known cs) (map info_in cs) (lined rs n cs), ruled h) (both (cells_known cs) rule said)

  tested : 4 * n ≤ length rs
      → table_in (lent rs cs n) ≡ cond ((leb (length cs) 64 && leb n 3064) && (cells_known cs && rule)) (some said) none
  unfolding table_in
  tested h = go (leb (length cs) 64 && leb n 3064) (take (length cs) cs) (take-length cs)
    where
      go : (b : Bool) (xs : List ℕ)
          → xs ≡ cs
          → elim b [ false ↦ none | true ↦ infos_of xs >>= lined rs n xs ] ≡ cond (b && (cells_known cs && rule)) (some said) none
      go true xs e = rw e (known h)
      go false xs e = refl

  pub verdict : 4 * n ≤ length rs
      → (b : Bool)
      → ((leb (length cs) 64 && leb n 3064) && (cells_known cs && rule)) ≡ b
      → Answers (table_in (lent rs cs n)) b
  verdict room b e = answered b said (tested room ∙ rw e)
