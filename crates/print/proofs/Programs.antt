-- A whole program.
use mathlib.Core.Path.{sym, ap, ◌∙◌}
use mathlib.Core.List.{List, [], ◌∷◌, ◌++◌}
use Prim.Native.Nat.{ℕ}
use Rattle.paper.specs.Source.{Name, Declared}
use Rattle.paper.specs.Names.{Variable}
use Rattle.paper.specs.Plain.{Stmts}
use Rattle.paper.specs.Printing as P
use Rattle.print.specs.Printed.{Printed}
use Rattle.print.specs.Parts.{whole}
use Rattle.print.proofs.Laws.{named}
use Rattle.print.proofs.Bodies.{whole_list}

-- a program in front of k
abbrev pub front : Name → List Declared → List Variable → Stmts → List ℕ → List ℕ
front n ds vs p k = P.put "PROGRAM " (n ++ 10 ∷ P.sections ds (whole vs p (P.line "END_PROGRAM" k)))

pub printed : {old new : List ℕ} {at r : ℕ} (n : Name) (ds : List Declared) (vs : List Variable) (p : Stmts)
    → Printed old new at (front n ds vs p) r → Printed old new at (λ k. P.print n ds vs p ++ k) r
unfolding P.print
printed n ds vs p d =
    named
    (λ k. ap (λ l. P.put "PROGRAM " (n ++ 10 ∷ P.sections ds l) ++ k) (whole_list vs p (P.line "END_PROGRAM" [])) ∙ sym (d.law k))
    d
