-- A text run for some scans in four ways, for results that are proved by computation.
use mathlib.Core.Path.{◌≡◌}
use mathlib.Core.Option.{none, some}
use mathlib.Core.List.{List, [], ◌∷◌}
use Prim.Native.Nat.{ℕ}
use Prim.Native.String.{String}
use lib.IntN.{ℤ}
use lib.ListN.{replicate}
use Rattle.paper.specs.Types
use Rattle.paper.specs.Words
use Rattle.paper.specs.Reading
use Rattle.paper.specs.Names
use Rattle.paper.specs.Typing
use Rattle.paper.specs.Heights
use Rattle.paper.specs.Plain
use Rattle.paper.specs.Meaning
use Rattle.paper.specs.Unwinding
use Rattle.paper.specs.Printing
use Rattle.paper.specs.Tables
use Rattle.paper.specs.Judge
use Rattle.paper.specs.Refusals.{refused, given}
use Rattle.paper.specs.Judge.{Scanned}

-- with this unfolded the definitions compute
unfoldable pub all : ℕ
unfolding Types.fits Types.encode Types.decode Types.apply Words.bytes Words.same_bytes Words.type_name Words.conversion_name Words.reserved Words.signs Words.begins Words.closed Words.run_of Words.parted Words.all_digits Words.value_from Words.look_up Words.number_piece Words.name_piece Words.sign_piece Words.piece_of Words.words_from Words.words_of Reading.operand Reading.labels Reading.list Reading.names Reading.declare Reading.declaration Reading.section Reading.sections Reading.program Reading.program_of Names.of_kind Names.printed Names.placed Names.variables_of Names.cells_of Names.find Names.is_among Names.declaration_faults Names.is_known Names.is_input Names.can_loop Names.unknown Names.assigned Names.statement_faults Names.name_faults Typing.number_faults Typing.is_constant Typing.labels_faults Typing.type_of_name Typing.of_name Typing.of_element Typing.judged Typing.settled Typing.type_of Typing.type_in Typing.operand_type Typing.statement_faults Typing.declaration_faults Typing.type_faults Heights.height Heights.first_word Heights.subscripts Heights.measured Heights.joined_height Heights.statement_faults Heights.height_faults Plain.value_of Plain.run Plain.figure Plain.parts Plain.assigns Plain.count Plain.cells_within Plain.◌⨾◌ Meaning.turns Meaning.looped Meaning.matches_any Meaning.value Meaning.whole_value Meaning.cell_of Meaning.run Unwinding.or_tests Unwinding.tests_of Unwinding.turns Unwinding.pass_of Unwinding.looped Unwinding.cell_in Unwinding.plain_of Unwinding.unwind Unwinding.unwound_program Printing.digits Printing.cell Printing.expression Printing.statements Printing.declarations Printing.sections Printing.print Tables.values Tables.next_state Tables.run_table Tables.expression_rows Tables.merge Tables.statement_rows Tables.reads Tables.rows_from Tables.table_of Tables.lines_keep Tables.forms Tables.lines_of Tables.cell_records Tables.infos_of Tables.cells_keep Tables.records Tables.lent_of Tables.table_in Judge.smallest Judge.judge Judge.print_of Judge.verdict Judge.print_into Judge.start_of Judge.start_into Judge.held Judge.lent Judge.all_fit Judge.put_readings Judge.scan_direct Judge.scan_plain Judge.scan_table Judge.scan_from Judge.table_of_sound Judge.table_into Judge.scan_lent Judge.run_direct Judge.run_plain Judge.run_by_table
all = 0

-- what each scan leaves
abbrev pub Scans : Type 0
Scans = List Scanned

-- as lent values
unfoldable pub shown : List Names.Info → List Plain.Ran → Scans
shown is [] = []
shown is (r ∷ rs) = record { state = Judge.lent is r.state; steps = r.steps } ∷ shown is rs

unfoldable pub held_all : List Names.Info → List (List ℤ) → List Plain.State
held_all is [] = []
held_all is (x ∷ xs) = Judge.held is x ∷ held_all is xs

-- by the statements as written
unfoldable pub written : List ℕ → List ℤ → List (List ℤ) → Scans
written text s xs =
    elim (Judge.judge text) [
      | refused w p ↦ []
      | given a ↦ elim (Judge.run_direct a (held_all a.cells xs) (Judge.held a.cells s)) [
        | none ↦ []
        | some rs ↦ shown a.cells rs
      ]
    ]

-- by ST0, with lent values
unfoldable pub unwound : List ℕ → List ℤ → List (List ℤ) → Scans
unwound text s [] = []
unwound text s (x ∷ xs) = elim (Judge.scan_from text s x) [ refused w p ↦ [] | given r ↦ r ∷ unwound text r.state xs ]

-- by a lent table
unfoldable pub scanned : Tables.Lent → List ℤ → List (List ℤ) → List (List ℤ)
scanned t s [] = []
scanned t s (x ∷ xs) = elim (Judge.scan_lent t s x) [ refused w p ↦ [] | given z ↦ z ∷ scanned t z xs ]

unfoldable pub tabled : List ℕ → List ℤ → List (List ℤ) → List (List ℤ)
tabled text s xs =
    elim (Judge.table_into text (replicate 400 0) (replicate 8 0)) [ refused w p ↦ [] | given t ↦ scanned t s xs ]

unfoldable pub states : Scans → List (List ℤ)
states [] = []
states (r ∷ rs) = r.state ∷ states rs

-- the text, run from s with the readings xs, leaves rs after its scans: as written, unwound and by its table
pub record Runs (text : String) (s : List ℤ) (xs : List (List ℤ)) (rs : Scans) : Type 0 where
  pub as_written : written (Words.bytes text) s xs ≡ rs
  pub as_unwound : unwound (Words.bytes text) s xs ≡ rs
  pub by_table : tabled (Words.bytes text) s xs ≡ states rs

-- state and steps after a scan
abbrev pub after : List ℤ → ℕ → Scanned
after zs n = record { state = zs; steps = n }
