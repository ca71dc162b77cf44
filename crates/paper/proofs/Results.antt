-- The twelve results of document 01 as one table, each row named by its letter, and the example of 'ST0 in print'.
-- They follow by computation; a program goes in as its text.
use mathlib.Core.Path.{◌≡◌, refl}
use mathlib.Core.List.{[], ◌∷◌}
use Prim.Native.Nat.{ℕ}
use Prim.Native.String.{String}
use lib.IntN.{ℤ, pos, neg_ℤ}
use lib.ListN.{replicate}
use Rattle.paper.specs.declared.Ty.{Ty}
use Rattle.paper.specs.declared.Ty.TheVariants.{Int as INT, Uint as UINT, Dint as DINT}
use Rattle.paper.specs.declared.Op.{Op}
use Rattle.paper.specs.declared.Op.TheVariants.{Div, Mod, Add, Sub}
use Rattle.std.specs.Prelude.{Ok}
use Rattle.paper.specs.Refusals.{given}
use Rattle.paper.specs.Types.{encode, decode, apply, convert}
use Rattle.paper.specs.Words.{bytes}
use Rattle.paper.specs.Judge.{verdict, print_into, table_into}
use Rattle.paper.specs.Tables.{Lent}
use Rattle.paper.proofs.Runs.{all, Runs, after, shown, held_all, written, unwound, scanned, tabled, states}

-- an operator on values of a type
unfoldable pub on : Op → Ty → ℤ → ℤ → ℤ
on o t x y = decode t (apply o t (encode t x) (encode t y))

abbrev minus : ℕ → ℤ
minus n = neg_ℤ (pos n)

-- the program of 'ST0 in print' as it goes in, and what comes out
abbrev meter : String
meter = "program t\nvar_input\nq : int;\nend_var\nvar_output\nshown : int;\nend_var\nvar\ntotal : dint;\nend_var\nshown := q;\ntotal := (total + int_to_dint(shown));\nif (shown < 5) then\nshown := 0;\nend_if;\nend_program\n"

abbrev st0 : String
st0 = "PROGRAM T\nVAR_INPUT\nQ : INT;\nEND_VAR\nVAR_OUTPUT\nSHOWN : INT := 0;\nEND_VAR\nVAR\nTOTAL : DINT := 0;\nEND_VAR\nSHOWN := Q;\nTOTAL := (TOTAL + INT_TO_DINT(SHOWN));\nIF (SHOWN < 5) THEN\nSHOWN := 0;\nEND_IF;\nEND_PROGRAM\n"

abbrev swap : String
swap = "PROGRAM P VAR A, B : INT; END_VAR A := B; B := A; END_PROGRAM"

-- V is the loop variable, and S shows its passes digit by digit
abbrev by4 : String
by4 = "PROGRAM P VAR V, S : INT; END_VAR FOR V := 1 TO 10 BY 4 DO S := S * 10 + V; END_FOR; END_PROGRAM"

abbrev none : String
none = "PROGRAM P VAR V, S : INT; END_VAR FOR V := 5 TO 4 DO S := S * 10 + V; END_FOR; END_PROGRAM"

-- S counts the passes
abbrev last : String
last = "PROGRAM P VAR V, S : INT; END_VAR FOR V := 32766 TO 32767 DO S := S + 1; END_FOR; END_PROGRAM"

pub record Twelve : Type 0 where
  pub a : verdict (bytes meter) ≡ Ok (record { cells = 3; weight = 10; figure = 4; length = 208 })
  pub b : Runs meter
      (pos 0 ∷ pos 0 ∷ pos 0 ∷ [])
      ((pos 3 ∷ pos 0 ∷ pos 0 ∷ []) ∷ (pos 3 ∷ pos 0 ∷ pos 0 ∷ []) ∷ (pos 7 ∷ pos 0 ∷ pos 0 ∷ []) ∷ [])
      (after (pos 3 ∷ pos 0 ∷ pos 3 ∷ []) 4 ∷ after (pos 3 ∷ pos 0 ∷ pos 6 ∷ []) 4 ∷ after (pos 7 ∷ pos 7 ∷ pos 13 ∷ []) 3 ∷ [])
  pub c : on Add INT (pos 32767) (pos 1) ≡ minus 32768
  pub d : on Sub UINT (pos 0) (pos 1) ≡ pos 65535
  pub e : (on Div INT (minus 7) (pos 2) ≡ minus 3) × (on Mod INT (minus 7) (pos 2) ≡ minus 1)
  pub f : (on Div INT (pos 7) (minus 2) ≡ minus 3) × (on Mod INT (pos 7) (minus 2) ≡ pos 1)
  pub g : (on Div INT (minus 32768) (minus 1) ≡ minus 32768) × (on Mod INT (minus 32768) (minus 1) ≡ pos 0)
  pub h : decode INT (convert DINT INT (encode DINT (pos 40000))) ≡ minus 25536
  pub i : Runs swap (pos 1 ∷ pos 2 ∷ []) ((pos 0 ∷ pos 0 ∷ []) ∷ []) (after (pos 2 ∷ pos 2 ∷ []) 2 ∷ [])
  pub j : Runs by4 (pos 0 ∷ pos 0 ∷ []) ((pos 0 ∷ pos 0 ∷ []) ∷ []) (after (pos 9 ∷ pos 159 ∷ []) 6 ∷ [])
  pub k : Runs none (pos 0 ∷ pos 0 ∷ []) ((pos 0 ∷ pos 0 ∷ []) ∷ []) (after (pos 5 ∷ pos 0 ∷ []) 1 ∷ [])
  pub l : Runs last (pos 0 ∷ pos 0 ∷ []) ((pos 0 ∷ pos 0 ∷ []) ∷ []) (after (pos 32767 ∷ pos 2 ∷ []) 4 ∷ [])

pub twelve : Twelve
unfolding all on shown held_all written unwound scanned tabled states
twelve =
    record {
      a = refl;
      b = record { as_written = refl; as_unwound = refl; by_table = refl };
      c = refl;
      d = refl;
      e = (refl, refl);
      f = (refl, refl);
      g = (refl, refl);
      h = refl;
      i = record { as_written = refl; as_unwound = refl; by_table = refl };
      j = record { as_written = refl; as_unwound = refl; by_table = refl };
      k = record { as_written = refl; as_unwound = refl; by_table = refl };
      l = record { as_written = refl; as_unwound = refl; by_table = refl };
    }

-- the bytes in, the bytes out, in front of what the buffer held
pub in_print : print_into (bytes meter) (replicate 208 0) ≡ given (bytes st0)
unfolding all
in_print = refl

-- the worked example of docs/LAYOUT.md
abbrev adding : String
adding = "PROGRAM P VAR_INPUT Q : INT; END_VAR VAR T : DINT; END_VAR T := T + INT_TO_DINT(Q); END_PROGRAM"

-- its rows stand in front of what the buffer held
abbrev adding_table : Lent
adding_table =
    record {
      rows = 9 ∷ 0 ∷ 0 ∷ 0 ∷ 11 ∷ 1 ∷ 0 ∷ 0 ∷ 169 ∷ 0 ∷ 0 ∷ 0 ∷ 67 ∷ 1 ∷ 2 ∷ 0 ∷ replicate 8 7;
      cells = 9 ∷ 67 ∷ [];
      row_count = 4;
      cell_count = 2;
    }

pub in_layout : table_into (bytes adding) (replicate 24 7) (replicate 2 7) ≡ given adding_table
unfolding all
in_layout = refl
