-- A scan of the program that judging left in the lent buffers.
use Rattle.std.specs.Prelude.{◌≡◌, List, ℕ, min, ℤ}
use Rattle.paper.specs.Names.{Info}
use Rattle.paper.specs.Plain.{Stmts}
use Rattle.paper.specs.Judge.{lent, over}
use Rattle.cells.specs.Numbers.{read_in}
use Rattle.run.specs.Parts.{ran_from}
use Rattle.judge.specs.declared.Judged.{Judged}
use Rattle.lent.specs.Outcomes.{Outcome}
use Rattle.kaldvimur.specs.Prints.{Of}
use Rattle.kaldvimur.specs.Scans.{ScanDid}

-- the list k carried out on lent cells, the readings put; 65535 stands for more steps
pub record CarriedOut (is : List Info) (k : Stmts) (inputs old new : List ℤ) (r : ℕ) : Type 0 where
  pub state : new ≡ over (lent is (ran_from k (read_in is old inputs)).state) old
  pub steps : r ≡ min 65535 (ran_from k (read_in is old inputs)).steps

-- a scan of the accepted program that stands there, whatever the text
abbrev pub ScansIn : List ℕ → List ℕ → List ℕ → Judged → List ℤ → List ℤ → List ℤ → Outcome → Type 0
ScansIn p table q j inputs old new r = (t : List ℕ) → Of t p table q j (λ a. ScanDid t inputs old new r)
