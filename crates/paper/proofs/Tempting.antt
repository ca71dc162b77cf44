-- 'Tempting and wrong': three programs on which each of these mistakes would show, run as written, unwound and by the table.
use mathlib.Core.Path.{refl}
use mathlib.Core.List.{[], ◌∷◌}
use Prim.Native.String.{String}
use lib.IntN.{pos, neg_ℤ}
use Rattle.paper.proofs.Runs.{all, Runs, after, shown, held_all, written, unwound, scanned, tabled, states}

-- trickle flow: SHOWN ends at 0, TOTAL has read it before
abbrev trickle : String
trickle = "PROGRAM P VAR SHOWN, TOTAL : INT; END_VAR SHOWN := 3; TOTAL := TOTAL + SHOWN; SHOWN := 0; END_PROGRAM"

-- B is assigned in ELSE only
abbrev else_only : String
else_only = "PROGRAM P VAR_INPUT C : BOOL; END_VAR VAR A, B : INT; END_VAR IF C THEN A := 1; ELSE B := 2; END_IF; END_PROGRAM"

-- the sum behind the last pass is outside INT
abbrev downward : String
downward = "PROGRAM P VAR V, S : INT; END_VAR FOR V := -32767 TO -32768 BY -1 DO S := S + 1; END_FOR; END_PROGRAM"

pub record Shut : Type 0 where
  -- reading a variable's final value in an earlier statement
  pub final_value : Runs trickle (pos 0 ∷ pos 0 ∷ []) ((pos 0 ∷ pos 0 ∷ []) ∷ []) (after (pos 0 ∷ pos 3 ∷ []) 3 ∷ [])
  -- merging only the cells assigned in THEN
  pub merge_then : Runs else_only
      (pos 0 ∷ pos 0 ∷ pos 0 ∷ [])
      ((pos 0 ∷ pos 0 ∷ pos 0 ∷ []) ∷ (pos 1 ∷ pos 0 ∷ pos 0 ∷ []) ∷ [])
      (after (pos 0 ∷ pos 0 ∷ pos 2 ∷ []) 2 ∷ after (pos 1 ∷ pos 1 ∷ pos 2 ∷ []) 2 ∷ [])
  -- ending a FOR by a sum that wraps
  pub wrapped_sum : Runs downward (pos 0 ∷ pos 0 ∷ []) ((pos 0 ∷ pos 0 ∷ []) ∷ []) (after (neg_ℤ (pos 32768) ∷ pos 2 ∷ []) 4 ∷ [])

pub shut : Shut
unfolding all shown held_all written unwound scanned tabled states
shut =
    record {
      final_value = record { as_written = refl; as_unwound = refl; by_table = refl };
      merge_then = record { as_written = refl; as_unwound = refl; by_table = refl };
      wrapped_sum = record { as_written = refl; as_unwound = refl; by_table = refl };
    }
