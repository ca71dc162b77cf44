-- The faults of a program, from those of its declarations and of its body.
use mathlib.Core.Path.{◌≡◌, ap}
use mathlib.Core.Option.{some}
use mathlib.Core.List.{List, [], ◌++◌}
use Prim.Native.Nat.{ℕ}
use Rattle.std.specs.Prelude.{Option, None}
use Rattle.paper.specs.declared.Ty.TheVariants.{Dint as DINT}
use Rattle.paper.specs.Names.{variables_of}
use Rattle.paper.specs.Typing as T
use Rattle.tree.specs.Nodes.{child_of}
use Rattle.tree.specs.Trees.{front_at, declared_at, program_at}
use Rattle.faults.specs.Soonest.{soonest}
use Rattle.variables.specs.Table.{variables_in, names_to}
use Rattle.types.specs.Statements.{Walks, IsDeclarations, faults_at}
use Rattle.types.proofs.Fronts.{and_then, puts_done}

pub program_is : (t p tab loops after : List ℕ) (root : ℕ) (x r : Option ℕ) → IsDeclarations p (child_of p root 1) None x
    → Walks t p tab loops after 0 (front_at t p (child_of p root 2)) x r → r ≡ soonest (faults_at t p tab root)
unfolding program_at names_to
program_is t p tab loops after root x r hx w =
    and_then None x r (T.declaration_faults (declared_at t p (child_of p root 1))) _ (hx t) (puts_done w.puts)

-- refusal 6, where the table holds the declared variables
pub type_faults_lem : (t p tab : List ℕ) (root : ℕ) → variables_in t p tab ≡ variables_of (program_at t p root).declared
    → faults_at t p tab root ≡ T.type_faults (program_at t p root)
unfolding T.type_faults
type_faults_lem t p tab root e =
    let pr = program_at t p root in
    ap (λ vs. T.declaration_faults pr.declared ++ T.statement_faults vs pr.body [] (some DINT)) e
