-- What an expression's walk leaves: its plain form, one node a part, or 8 at a place.
use Rattle.std.specs.Prelude.{◌≡◌, List, ℕ, ◌+◌, ◌*◌, ◌≤◌, ◌<◌, min, length, Result, Ok, Err, IfOk, MatchResult}
use Rattle.std.proofs.Math.Option.{some}
use Rattle.paper.specs.declared.Ty.{Ty}
use Rattle.paper.specs.declared.Refusal.{Refusal}
use Rattle.paper.specs.declared.Why.TheVariants.{BadWalk}
use Rattle.paper.specs.Refusals.{Answer, refused, given, refusal, Gives, ◌>>=◌}
use Rattle.paper.specs.Source as S
use Rattle.paper.specs.Source.{Name}
use Rattle.paper.specs.Names.{Variable, size_of, find}
use Rattle.paper.specs.Typing.{type_in}
use Rattle.paper.specs.Plain as Plain
use Rattle.paper.specs.Plain.{Expr, State, read}
use Rattle.paper.specs.Unwinding.{bracket_of, cell_in, plain_of}
use Rattle.tree.specs.Nodes.{Same, written}
use Rattle.tree.specs.Trees as T
use Rattle.plain.specs.Flat.{expr_at}
use Rattle.constants.specs.declared.Celled.{Celled}
use Rattle.unwind.specs.declared.parts.Part.{Part}

-- the answer that a function's result stands for, f telling what it gives
abbrev pub answer : {T A : Type 0} → (T → A) → Result T Refusal → Answer A
answer f (Ok v) = given (f v)
answer f (Err e) = refused e.why e.place

-- the node n has its place in the pool
abbrev pub Holds : List ℕ → ℕ → Type 0
Holds p n = 4 * n + 4 ≤ length p

-- the same in a pool whose nodes have numbers of 16 bits
abbrev pub Room : List ℕ → ℕ → Type 0
Room p n = Holds p n × (length p ≤ 262144)

-- one node more, where there is room
pub record Emitted (old new : List ℕ) (n k a b c r : ℕ) : Type 0 where
  pub more : n ≤ r
  pub most : r ≤ n + 1
  pub holds : Holds new r
  pub long : length new ≡ length old
  pub same : Same n old new
  pub wrote : Holds old (n + 1) → (r ≡ n + 1) × (new ≡ written old (n + 1) k a b c)

-- every variable's cells are among the first n
abbrev pub Inside : ℕ → List Variable → Type 0
Inside n vs = (s : Name) (v : Variable) → find s vs ≡ some v → v.first + size_of v.declared.bounds ≤ n

-- the part r is x behind n nodes: where there is room for all, the last node is its own
pub record Ends (new : List ℕ) (n : ℕ) (x : Expr) (r : Part) : Type 0 where
  pub counted : r.parts ≡ min 3001 (Plain.parts x)
  pub ends : Holds new (n + Plain.parts x) → (r.count ≡ n + Plain.parts x) × (expr_at new r.count ≡ x)

abbrev pub Parted : List ℕ → ℕ → Answer Expr → Result Part Refusal → Type 0
Parted new n = Gives (Ends new n)

-- whatever the part r is, behind n nodes; u is the type
pub record Fits (new : List ℕ) (n : ℕ) (u : Ty) (r : Part) : Type 0 where
  pub more : n ≤ r.count
  pub holds : Holds new r.count
  pub small : r.parts ≤ 3001
  pub typed : r.ty ≡ u

-- a walk with an answer of its own, which is o where the variables' cells are among the first `size`
pub record PartDid (vs : List Variable) (size : ℕ) (old new : List ℕ) (n : ℕ) (o : Answer Expr) (u : Ty) (r : Result Part Refusal) : Type 0 where
  pub long : length new ≡ length old
  pub same : Same n old new
  pub part : IfOk r (Fits new n u)
  pub own : Answer Expr
  pub parted : Parted new n own r
  pub is : Inside size vs → own ≡ o

abbrev pub PlainDid : List Variable → List ℕ → List ℕ → State → Ty → ℕ → List ℕ → List ℕ → ℕ → Result Part Refusal → Type 0
PlainDid vs t p env u i old new n r =
    let e = T.expr_at t p i in
    PartDid vs (length env) old new n (plain_of vs env u e) (type_in vs u e) r

-- the cell of a name or element: one of the environment's, and of its type whatever is offered
pub record CellDid (vs : List Variable) (env : State) (e : S.Expr) (r : Result Celled Refusal) : Type 0 where
  pub cell : MatchResult r (λ c. (c.cell < length env) × ((u : Ty) → c.ty ≡ type_in vs u e)) (λ f. f ≡ refusal BadWalk (bracket_of e))
  pub is : Inside (length env) vs → answer (λ c. record { 0 = c.cell }) r ≡ cell_in vs env e

abbrev pub ReadDid : List Variable → List ℕ → List ℕ → State → ℕ → List ℕ → List ℕ → ℕ → Result Part Refusal → Type 0
ReadDid vs t p env i old new n r =
    let e = T.expr_at t p i in
    (u : Ty) → PartDid vs (length env) old new n (cell_in vs env e >>= λ c. given (read c)) (type_in vs u e) r

-- 8 at the place of `[`
abbrev pub NoCell : List ℕ → ℕ → Refusal → Type 0
NoCell p i r = (t : List ℕ) → r ≡ refusal BadWalk (bracket_of (T.expr_at t p i))
