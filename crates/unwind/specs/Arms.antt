-- The arms of a CASE: their tests, and what their walk leaves.
use Rattle.std.specs.Prelude.{◌≡◌, List, ℕ, ◌+◌, ◌*◌, ◌≤◌, length, Result, IfOk}
use Rattle.paper.specs.declared.Ty.TheVariants.{Dint as DINT}
use Rattle.paper.specs.declared.Refusal.{Refusal}
use Rattle.paper.specs.Refusals.{Answer, given, Gives}
use Rattle.paper.specs.Source as S
use Rattle.paper.specs.Source.{Label}
use Rattle.paper.specs.Names.{Variable, cells_of}
use Rattle.paper.specs.Plain.{Expr, State, parts}
use Rattle.paper.specs.Unwinding.{heavier, Selector, tests_of, plain_of, unwind}
use Rattle.tree.specs.Nodes.{Same}
use Rattle.tree.specs.Trees as T
use Rattle.plain.specs.Flat.{expr_at}
use Rattle.unwind.specs.declared.lists.Walk.{Walk}
use Rattle.unwind.specs.declared.cases.Selector as Stand
use Rattle.unwind.specs.Parts.{Inside}
use Rattle.unwind.specs.Walks.{said, Goes}

-- the selector with its plain form
abbrev pub selecting : Stand.Selector → Expr → Selector
selecting s v = record { place = s.place; plain = v; ty = s.ty }

-- a test that has been weighed: its node is the root
abbrev pub Tested : List ℕ → Expr → Answer ℕ → Result Walk Refusal → Type 0
Tested new x = Gives (λ m r. (r.weight ≡ m) × (expr_at new r.root ≡ x))

-- the test of an arm with the labels ls, the selector being the expression e; two nodes are spared, for the IF and for what puts it behind a list
pub record ArmTestDid (vs : List Variable) (env : State) (old new : List ℕ) (s : Stand.Selector) (e : S.Expr) (ls : List Label) (n w : ℕ) (r : Result Walk Refusal) : Type 0 where
  pub long : length new ≡ length old
  pub same : Same n old new
  pub goes : IfOk r (λ r.
      (n ≤ r.count) × (r.root ≤ r.count) × (w ≤ r.weight) × (r.weight ≤ 3000) × (r.count + 2 + 4 * w ≤ n + 4 * r.weight))
  pub tested : Inside (length env) vs → (v : Expr) → plain_of vs env DINT e ≡ given v
      → Tested new (tests_of (selecting s v) ls) (heavier s.place (parts (tests_of (selecting s v) ls)) w) r

-- the arms at the node i, and the ELSE list behind them, the selector being the expression e
pub record ArmsDid (vs : List Variable) (t p : List ℕ) (env env' : State) (old new : List ℕ) (s : Stand.Selector) (e : S.Expr) (i n w : ℕ) (r : Result Walk Refusal) : Type 0 where
  pub kept : env' ≡ env
  pub long : length new ≡ length old
  pub same : Same n old new
  pub goes : IfOk r (Goes n w)
  pub is : Inside (length env) vs → length env ≡ length (cells_of vs)
      → (v : Expr) → plain_of vs env DINT e ≡ given v
      → said new r ≡ unwind vs (T.arms_at t p i) env (selecting s v) w
