-- A name of a program that was read has at most 24 bytes.
use mathlib.Core.Path.{◌≡◌}
use mathlib.Core.List.{List, [], ◌∷◌}
use Prim.Native.Nat.{ℕ}
use Rattle.paper.specs.Refusals.{given}
use Rattle.paper.specs.Words.{Token, words_of}
use Rattle.paper.specs.Source.{Declared, Program}
use Rattle.paper.specs.Reading.{program_of}
use Rattle.demands.specs.InTypes.{All}
use Rattle.demands.proofs.ShortWords.{Short}
use Rattle.demands.proofs.Placed.{Words, Declaration, Whole, Any, given_at}
use Rattle.demands.proofs.PlacedWords.{words_at_lem}
use Rattle.demands.proofs.PlacedPrograms.{program_at_lem}

abbrev pub ShortDeclared : List Declared → Type 0
ShortDeclared ds = All (λ d. Short d.name) ds

-- its own name, and those that it declares
pub record ShortNames (pr : Program) : Type 0 where
  pub own : Short pr.name
  pub declared : ShortDeclared pr.declared

declared_short : (ds : List Declared) → All (Declaration Any) ds → ShortDeclared ds
declared_short [] h = tt
declared_short (d ∷ ds) h = (h.0.short, declared_short ds h.1)

pub short_names : (t : List ℕ) (ts : List Token) (pr : Program) → words_of t ≡ given ts → program_of ts ≡ given pr → ShortNames pr
short_names t ts pr w e =
    let words : Words Any ts = given_at ts (rw w at (words_at_lem Any t (λ q h. tt))) in
    let whole : Whole Any pr = given_at pr (rw e at (program_at_lem Any words)) in
    record { own = whole.own; declared = declared_short pr.declared whole.declared }
