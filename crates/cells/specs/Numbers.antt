-- What a cell's number says, and what is made of cells by their numbers.
use Rattle.std.specs.Prelude.{◌≡◌, cond, List, map, ℕ, ◌+◌, ◌/◌, ◌%◌, ◌≤◌, eqb, ℤ, length, get_or, take}
use Rattle.std.proofs.Math.Option.{some}
use Rattle.paper.specs.declared.Ty.TheVariants.{Bool as BOOL}
use Rattle.paper.specs.declared.Kind.TheVariants.{Input}
use Rattle.paper.specs.Types.{tag, encode}
use Rattle.paper.specs.Names.{Info, Variable, same_kind, cells_of}
use Rattle.paper.specs.Tables.{types, infos_of}
use Rattle.paper.specs.Plain.{State}
use Rattle.paper.specs.Judge as Judge
use Rattle.paper.specs.Judge.{over, start_of}
use Rattle.variables.specs.Table.{type_at, section_at, listed_in}
use Rattle.cells.specs.Pour.{pour, Poured}

-- the cell of a number: its type, BOOL where it names none, and whether it is an input
abbrev pub info_of : ℕ → Info
info_of x = record { ty = get_or types (x % 8) BOOL; is_input = eqb (x / 8 % 2) 1 }

-- and the number of a cell, without a next row
abbrev pub number_of : Info → ℕ
number_of i = tag i.ty + cond i.is_input 8 0

-- what a cell holds as a scan starts
abbrev pub held_of : Info → ℤ → ℤ → ℕ
held_of i value reading = cond i.is_input (encode i.ty reading) (encode i.ty value)

-- what holds of the cells that the numbers say, where they say some
abbrev pub Says : List ℕ → (List Info → Type 0) → Type 0
Says xs P = (is : List Info) → infos_of xs ≡ some is → P is

-- the state with the readings put, as held
abbrev pub read_in : List Info → List ℤ → List ℤ → State
read_in is state inputs = Judge.put_readings is (Judge.held is inputs) (Judge.held is state)

-- the cell of a variable declared at a node of a pool
abbrev pub declared_info : List ℕ → ℕ → Info
declared_info p j = record { ty = type_at p j; is_input = same_kind Input (section_at p j) }

-- the numbers of cells, written to the front
pub record Numbered (is : List Info) (old new : List ℕ) (r : ℕ) : Type 0 where
  pub poured : Poured (map number_of is) old new r
  -- where there is room for all
  pub count : length is ≤ length old → r ≡ length is
  pub cells : length is ≤ length old → infos_of (take r new) ≡ some is
  pub front : length is ≤ length old → new ≡ over (map number_of is) old

-- the declared values, written to the front
pub record Started (vs : List Variable) (old new : List ℤ) : Type 0 where
  pub poured : new ≡ pour (start_of vs) old
  -- where there is room for all
  pub front : length (cells_of vs) ≤ length old → new ≡ over (start_of vs) old

-- the same of the variables of a table, whatever the text
abbrev pub CellsIn : List ℕ → List ℕ → List ℕ → List ℕ → ℕ → Type 0
CellsIn p tab old new r = (text : List ℕ) → Numbered (cells_of (listed_in text p tab)) old new r

abbrev pub StartIn : List ℕ → List ℕ → List ℤ → List ℤ → Type 0
StartIn p tab old new = (text : List ℕ) → Started (listed_in text p tab) old new
