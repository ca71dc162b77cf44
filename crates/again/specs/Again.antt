-- Demand 2, second sentence: ST0, printed and read again, is the same program.
use Rattle.std.specs.Prelude.{◌≡◌, List, ℕ, ◌≤◌, length}
use Rattle.paper.specs.Refusals.{given}
use Rattle.paper.specs.Judge.{Sound, judge, print_of, start_of, verdict}

-- b is the program a again: what it does, what it starts with, what it weighs, and what is printed of it
pub record Same (a b : Sound) : Type 0 where
  pub plain : b.plain ≡ a.plain
  pub cells : b.cells ≡ a.cells
  pub weight : b.weight ≡ a.weight
  pub start : start_of b.variables ≡ start_of a.variables
  pub name : b.program.name ≡ a.program.name
  pub print : print_of b ≡ print_of a

-- the print of a, itself a text, is accepted as the same program, with the same four numbers
pub record Again (text : List ℕ) (a : Sound) : Type 0 where
  pub program : Sound
  pub accepted : judge (print_of a) ≡ given program
  pub same : Same a program
  pub four_numbers : verdict (print_of a) ≡ verdict text

-- for every accepted text whose print fits the limit for a text
abbrev pub ReadAgain : Type 0
ReadAgain = (text : List ℕ) (a : Sound) → judge text ≡ given a → length (print_of a) ≤ 8192 → Again text a
