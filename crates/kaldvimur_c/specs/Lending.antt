-- What C finds in a lent buffer beside the answer: the numbers of acceptance, the steps, the counts of a table.
use Rattle.std.specs.Prelude.{List, [], ◌∷◌, ℕ, ℤ, Result, Ok, Err}
use Rattle.paper.specs.declared.Why.TheVariants.{NoRoom}
use Rattle.paper.specs.declared.Accepted.{Accepted}
use Rattle.paper.specs.declared.Refusal.{Refusal}
use Rattle.paper.specs.Refusals.{Answer, refused, given, ◌>>=◌}
use Rattle.paper.specs.Judge.{judge, verdict, room, over, scan_from, table_into}

-- n numbers need a place each: 10 for these goes behind the text's own refusals, and before what else may be refused
abbrev pub counting : {A : Type 0} → List ℕ → ℕ → List ℕ → Answer A → Answer A
counting text n counts o = judge text >>= λ a. room n counts >>= λ fits. o

-- the answer where they have none
abbrev pub too_short : List ℕ → Answer (Unit {0})
too_short text = judge text >>= λ a. refused NoRoom 0

-- ---- what is lent, after each

abbrev pub numbers_of : Result Accepted Refusal → List ℕ
numbers_of (Err e) = []
numbers_of (Ok a) = a.cells ∷ a.weight ∷ a.figure ∷ a.length ∷ []

unfoldable pub accept_into : List ℕ → List ℕ → Answer (List ℕ)
accept_into text four = counting text 4 four (given (over (numbers_of (verdict text)) four))

unfoldable pub scan_into : List ℕ → List ℤ → List ℤ × List ℕ → Answer (List ℤ × List ℕ)
scan_into text inputs (state, steps) =
    counting text 1 steps
    (scan_from text state inputs >>= λ s. given (s.state, over (s.steps ∷ []) steps))

unfoldable pub table_with : List ℕ → List ℕ × List ℕ × List ℕ → Answer (List ℕ × List ℕ × List ℕ)
table_with text (rows, cells, two) =
    counting text 2 two
    (table_into text rows cells >>= λ t. given (t.rows, t.cells, over (t.row_count ∷ t.cell_count ∷ []) two))
