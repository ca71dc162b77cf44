-- The whole order of refusals, the starting state, a scan, and runs of scans.
use Rattle.std.specs.Prelude.{Bool, true, cond, ◌&&◌, List, [], ◌∷◌, ◌++◌, ℕ, ◌+◌, ◌*◌, min, leb, ℤ, pos, length, drop, replicate, Result, Ok, Err}
use Rattle.std.proofs.Math.Option.{Option, none, some}
use Rattle.paper.specs.declared.Why.{Why}
use Rattle.paper.specs.declared.Why.TheVariants.{TooLong, BadName, BadType, TooHigh, NoRoom, BadTable, BadValue}
use Rattle.paper.specs.declared.Refusal.{Refusal}
use Rattle.paper.specs.declared.Accepted.{Accepted}
use Rattle.paper.specs.Refusals.{Answer, refused, given, refusal, ◌>>=◌}
use Rattle.paper.specs.Types.{fits, encode, decode, bit}
use Rattle.paper.specs.Words.{words_of}
use Rattle.paper.specs.Source.{Program, Initial, nothing, value, flag}
use Rattle.paper.specs.Reading.{program_of}
use Rattle.paper.specs.Names.{Variable, Info, variables_of, cells_of, size_of, name_faults}
use Rattle.paper.specs.Typing.{type_faults}
use Rattle.paper.specs.Heights.{height_faults}
use Rattle.paper.specs.Plain as P
use Rattle.paper.specs.Plain.{Stmts, State, Ran, figure}
use Rattle.paper.specs.Meaning as M
use Rattle.paper.specs.Unwinding.{unwound_program}
use Rattle.paper.specs.Printing.{print}
use Rattle.paper.specs.Tables.{Table, table_of, run_table, Lent, lent_of, table_in, total_in}

-- ---- a text: 1 to 9

-- Order, 'first place': of all faults of one number the smallest place
unfoldable pub smallest : List ℕ → Option ℕ
smallest [] = none
smallest (p ∷ ps) = elim (smallest ps) [ none ↦ some p | some q ↦ some (min p q) ]

-- refused at the smallest of these places, if there is one
abbrev pub faultless : Why → List ℕ → Answer (Unit {0})
faultless w ps = elim (smallest ps) [ none ↦ given tt | some p ↦ refused w p ]

-- an accepted program
pub record Sound : Type 0 where
  pub program : Program
  pub variables : List Variable
  pub cells : List Info
  pub plain : Stmts
  pub weight : ℕ

abbrev pub short_enough : List ℕ → Answer (Unit {0})
short_enough text = cond (leb (length text) 8192) (given tt) (refused TooLong 0)

unfoldable pub judge : List ℕ → Answer Sound
judge text = do
  short ← short_enough text
  words ← words_of text
  pr ← program_of words
  named ← faultless BadName (name_faults pr)
  typed ← faultless BadType (type_faults pr)
  low ← faultless TooHigh (height_faults pr)
  u ← unwound_program pr
  let vs = variables_of pr.declared
  given (record { program = pr; variables = vs; cells = cells_of vs; plain = u.plain; weight = u.weight })

-- ---- the print

unfoldable pub print_of : Sound → List ℕ
print_of a = print a.program.name a.program.declared a.variables a.plain

-- the four numbers of acceptance
abbrev pub accepted : Sound → Accepted
accepted a = record { cells = length a.cells; weight = a.weight; figure = figure a.plain; length = length (print_of a) }

-- or the refusal
abbrev pub verdict_on : Answer Sound → Result Accepted Refusal
verdict_on (refused w p) = Err (refusal w p)
verdict_on (given a) = Ok (accepted a)

unfoldable pub verdict : List ℕ → Result Accepted Refusal
verdict text = verdict_on (judge text)

-- 10: n places are needed in a lent buffer
abbrev pub room : {A : Type 0} → ℕ → List A → Answer (Unit {0})
room n buffer = cond (leb n (length buffer)) (given tt) (refused NoRoom 0)

-- new content in front of what a buffer holds further on
abbrev pub over : {A : Type 0} → List A → List A → List A
over new buffer = new ++ drop (length new) buffer

-- a lent buffer after printing into it
unfoldable pub print_into : List ℕ → List ℕ → Answer (List ℕ)
print_into text out = do
  a ← judge text
  let bytes = print_of a
  fits ← room (length bytes) out
  given (over bytes out)

-- ---- the starting state

abbrev pub initial_value : Initial → ℤ
initial_value nothing = pos 0
initial_value (value q p z) = z
initial_value (flag q b) = pos (bit b)

unfoldable pub start_of : List Variable → List ℤ
start_of [] = []
start_of (v ∷ vs) = replicate (size_of v.declared.bounds) (initial_value v.declared.initial) ++ start_of vs

unfoldable pub start_into : List ℕ → List ℤ → Answer (List ℤ)
start_into text state = do
  a ← judge text
  fits ← room (length a.cells) state
  given (over (start_of a.variables) state)

-- ---- values as lent and as held

unfoldable pub held : List Info → List ℤ → State
held [] zs = []
held (i ∷ is) [] = []
held (i ∷ is) (z ∷ zs) = encode i.ty z ∷ held is zs

unfoldable pub lent : List Info → State → List ℤ
lent [] s = []
lent (i ∷ is) [] = []
lent (i ∷ is) (v ∷ s) = decode i.ty v ∷ lent is s

-- refusal 12: the state's value must fit, and an input's reading too
abbrev pub cell_fits : Info → ℤ → ℤ → Bool
cell_fits i z x = fits i.ty z && cond i.is_input (fits i.ty x) true

unfoldable pub all_fit : List Info → List ℤ → List ℤ → Bool
all_fit [] zs xs = true
all_fit (i ∷ is) [] xs = true
all_fit (i ∷ is) (z ∷ zs) [] = true
all_fit (i ∷ is) (z ∷ zs) (x ∷ xs) = cell_fits i z x && all_fit is zs xs

abbrev pub valued : List Info → List ℤ → List ℤ → Answer (Unit {0})
valued is state inputs = cond (all_fit is state inputs) (given tt) (refused BadValue 0)

-- Meaning, 'readings': an input cell takes its reading, any other keeps its value
unfoldable pub put_readings : List Info → State → State → State
put_readings [] xs s = []
put_readings (i ∷ is) [] s = []
put_readings (i ∷ is) (x ∷ xs) [] = []
put_readings (i ∷ is) (x ∷ xs) (v ∷ s) = cond i.is_input x v ∷ put_readings is xs s

-- ---- a scan

abbrev pub started : Sound → State → State → Ran
started a readings s = record { state = put_readings a.cells readings s; steps = 0 }

-- by the statements as written; none is a fault
unfoldable pub scan_direct : Sound → State → State → Option Ran
scan_direct a readings s = M.run a.variables a.program.body (pos 0) (started a readings s)

-- by ST0
unfoldable pub scan_plain : Sound → State → State → Ran
scan_plain a readings s = P.run a.plain (started a readings s)

-- by the table
unfoldable pub scan_table : Table → State → State → State
scan_table t readings s = run_table t (put_readings t.cells readings s)

-- what a scan leaves: the lent state and the steps
pub record Scanned : Type 0 where
  pub state : List ℤ
  pub steps : ℕ

unfoldable pub scan_from : List ℕ → List ℤ → List ℤ → Answer Scanned
scan_from text state inputs = do
  a ← judge text
  some₁ ← room (length a.cells) state
  some₂ ← room (length a.cells) inputs
  good ← valued a.cells state inputs
  let r = scan_plain a (held a.cells inputs) (held a.cells state)
  given (record { state = over (lent a.cells r.state) state; steps = r.steps })

-- ---- the table, lent

unfoldable pub table_of_sound : Sound → Table
table_of_sound a = table_of a.cells a.plain

-- the buffers for rows and cells after a table has been written into them, and its counts
unfoldable pub table_into : List ℕ → List ℕ → List ℕ → Answer Lent
table_into text rows cells = do
  a ← judge text
  some₁ ← room (4 * (a.weight + length a.cells)) rows
  some₂ ← room (length a.cells) cells
  let t = lent_of (table_of_sound a)
  given (record { rows = over t.rows rows; cells = over t.cells cells; row_count = t.row_count; cell_count = t.cell_count })

abbrev pub ruled : Lent → Answer Table
ruled t = elim (table_in t) [ none ↦ refused BadTable 0 | some u ↦ given u ]

-- 10, where a buffer of the table, the state or the inputs is too short
abbrev pub room_for : Lent → List ℤ → List ℤ → Answer (Unit {0})
room_for t state inputs = do
  some₁ ← room (4 * t.row_count) t.rows
  some₂ ← room t.cell_count t.cells
  some₃ ← room t.cell_count state
  room t.cell_count inputs

-- 12, and the lent state after a scan from the table u
abbrev pub scan_by : Table → List ℤ → List ℤ → Answer (List ℤ)
scan_by u state inputs = do
  good ← valued u.cells state inputs
  given (over (lent u.cells (scan_table u (held u.cells inputs) (held u.cells state))) state)

unfoldable pub scan_lent : Lent → List ℤ → List ℤ → Answer (List ℤ)
scan_lent t state inputs = room_for t state inputs >>= λ fit. ruled t >>= λ u. scan_by u state inputs

-- rule 11 looked at once, before any scan
unfoldable pub check_lent : Lent → Answer (Unit {0})
check_lent t = do
  some₁ ← room (4 * t.row_count) t.rows
  some₂ ← room t.cell_count t.cells
  u ← ruled t
  given tt

-- and then not again: the total reading is run
unfoldable pub scan_checked : Lent → List ℤ → List ℤ → Answer (List ℤ)
scan_checked t state inputs =
    room_for t state inputs >>= λ fit.
    elim (total_in t) [ none ↦ refused BadTable 0 | some u ↦ scan_by u state inputs ]

-- ---- runs of scans: the states after each, by the three ways

unfoldable pub run_direct : Sound → List State → State → Option (List Ran)
run_direct a [] s = some []
run_direct a (x ∷ xs) s = M.◌>>=◌ (scan_direct a x s) λ r. M.◌>>=◌ (run_direct a xs r.state) λ rs. some (r ∷ rs)

unfoldable pub run_plain : Sound → List State → State → List Ran
run_plain a [] s = []
run_plain a (x ∷ xs) s = let r = scan_plain a x s in r ∷ run_plain a xs r.state

unfoldable pub run_by_table : Table → List State → State → List State
run_by_table t [] s = []
run_by_table t (x ∷ xs) s = let r = scan_table t x s in r ∷ run_by_table t xs r
