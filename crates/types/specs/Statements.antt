-- The faults of statements and declarations, as the nodes of the pool hold them.
use Rattle.std.specs.Prelude.{◌≡◌, Bool, List, [], ◌++◌, ℕ, ◌<◌, get_or, Option, None, Some}
use Rattle.std.proofs.Math.Option as Math
use Rattle.std.proofs.Math.Option.{none, some}
use Rattle.paper.specs.declared.Ty.{Ty}
use Rattle.paper.specs.declared.Ty.TheVariants.{Bool as BOOL, Dint as DINT}
use Rattle.paper.specs.Source.{Name, Stmts, done, choice, select, loop, Initial, value}
use Rattle.paper.specs.Names.{Variable}
use Rattle.paper.specs.Typing as T
use Rattle.tree.specs.Nodes.{child_of}
use Rattle.tree.specs.Trees.{place_at, whole_at, name_at, expr_at, front_at, arms_at, declaration_at, declared_at, program_at}
use Rattle.faults.specs.Soonest.{soonest, sooner}
use Rattle.variables.specs.Table.{variables_in, names_to}
use Rattle.types.specs.declared.parts.Judged.{Judged}
use Rattle.types.specs.declared.parts.Settled.{Settled}
use Rattle.types.specs.declared.body.Limit.{Limit}
use Rattle.types.specs.Says.{Says, Settles, around}

-- ---- the own faults of a statement at a node, with the FORs ls around

-- from the judgements of both sides, the right one being the node b
abbrev pub AssignedAs : List ℕ → ℕ → ℕ → Judged → Judged → Option ℕ → Type 0
AssignedAs p q b x y r =
    (t : List ℕ) (j l : T.Judged) → Says x j → Says y l → r ≡ soonest (T.assign_faults q (expr_at t p b) j l)

abbrev pub Own : Type 0
Own = List Variable → List Name → List ℕ → List ℕ → ℕ → List ℕ

abbrev pub assign_at : Own
assign_at vs ls t p i =
    T.assign_faults (place_at p i) (expr_at t p (child_of p i 2))
    (T.judged vs ls (expr_at t p (child_of p i 1)))
    (T.judged vs ls (expr_at t p (child_of p i 2)))

abbrev pub condition_at : Own
condition_at vs ls t p i = T.demand_faults BOOL (place_at p i) (T.settled vs ls DINT (expr_at t p (child_of p i 1)))

abbrev pub selector_at : Own
selector_at vs ls t p i = T.selector_faults (place_at p i) (T.settled vs ls DINT (expr_at t p (child_of p i 1)))

abbrev pub head_at : Own
head_at vs ls t p i =
    let h = child_of p i 1 in
    let g = child_of p h 1 in
    T.loop_faults vs ls (place_at p i) (T.type_of_name vs (name_at t (place_at p h))) (expr_at t p (child_of p g 1)) (expr_at t p (child_of p g 2))
    (expr_at t p (child_of p h 2))

-- r is the soonest of these
abbrev pub FirstOf : Own → List Variable → List ℕ → List ℕ → List ℕ → ℕ → Option ℕ → Type 0
FirstOf own vs t loops p i r = r ≡ soonest (own vs (around t loops) t p i)

-- one of a, b and c of a FOR
pub record Limits (r : Limit) (s : T.Settled) (good : Bool) : Type 0 where
  pub first : r.first ≡ soonest s.faults
  pub sound : r.good ≡ good

abbrev pub LimitAt : List Variable → List ℕ → List ℕ → List ℕ → Ty → ℕ → Limit → Type 0
LimitAt vs t loops p u i r =
    let s = T.settled vs (around t loops) u (expr_at t p i) in
    Limits r s (T.is_bound (around t loops) u (expr_at t p i) s)

-- a selector of the type that its expression has, with the faults of its rule
abbrev pub SelectorAt : List Variable → List ℕ → List ℕ → List ℕ → ℕ → Settled → Type 0
SelectorAt vs t loops p i r =
    let s = T.settled vs (around t loops) DINT (expr_at t p (child_of p i 1)) in
    Settles r (record { faults = selector_at vs (around t loops) t p i; ty = s.ty })

-- what the labels hear of it: its type, where it has no fault
abbrev pub heard : Settled → Math.Option Ty
heard s = elim s.first [ None ↦ some s.ty | Some q ↦ none ]

-- ---- what a statement puts in front of a list

-- k starts with no arm, which alone hears the selector around
abbrev pub Deaf : List Variable → List Name → Stmts → Type 0
Deaf vs ls k =
    (sel : Math.Option Ty) → soonest (T.statement_faults vs k ls sel) ≡ soonest (T.statement_faults vs k ls (some DINT))

-- r is the sooner of `best` and of the faults of what f puts in front of a list
pub record Puts (vs : List Variable) (ls : List Name) (f : Stmts → Stmts) (best r : Option ℕ) : Type 0 where
  pub own : Option ℕ
  pub is : r ≡ sooner best own
  pub front : (k : Stmts) → Deaf vs ls k → (sel : Math.Option Ty)
      → soonest (T.statement_faults vs (f k) ls sel) ≡ sooner own (soonest (T.statement_faults vs k ls (some DINT)))

abbrev pub choice_front : List ℕ → List ℕ → ℕ → Stmts → Stmts
choice_front t p i k =
    let j = child_of p i 2 in
    choice (place_at p i) (place_at p j) (expr_at t p (child_of p i 1)) (front_at t p (child_of p j 1) done) (front_at t p (child_of p j 2) done) k

abbrev pub select_front : List ℕ → List ℕ → ℕ → Stmts → Stmts
select_front t p i k = select (place_at p i) (expr_at t p (child_of p i 1)) (arms_at t p (child_of p i 2)) k

abbrev pub loop_front : List ℕ → List ℕ → ℕ → Stmts → Stmts
loop_front t p i k =
    let h = child_of p i 1 in
    let g = child_of p h 1 in
    loop (place_at p i) (place_at p h) (name_at t (place_at p h)) (expr_at t p (child_of p g 1)) (expr_at t p (child_of p g 2)) (expr_at t p (child_of p h 2))
    (front_at t p (child_of p i 2) done) k

-- ---- the walk

-- the first n words stand as they were
abbrev pub Kept : ℕ → List ℕ → List ℕ → Type 0
Kept n old new = (k : ℕ) → k < n → get_or new k 0 ≡ get_or old k 0

-- what a walk of statements promises, `depth` FORs being around, whose places `loops` holds
pub record Walks (t p tab loops after : List ℕ) (depth : ℕ) (f : Stmts → Stmts) (best r : Option ℕ) : Type 0 where
  pub kept : Kept depth loops after
  pub puts : Puts (variables_in t p tab) (names_to t loops depth) f best r

-- the same of the arms of a CASE, the list k
pub record WalksArms (t p tab loops after : List ℕ) (depth : ℕ) (k : Stmts) (s : Settled) (best r : Option ℕ) : Type 0 where
  pub kept : Kept depth loops after
  pub is : r ≡ sooner best (soonest (T.statement_faults (variables_in t p tab) k (names_to t loops depth) (heard s)))

-- ---- declarations, of whatever text

-- a number as the declared value
abbrev pub value_at : List ℕ → ℕ → Initial
value_at p i = value (place_at p i) (place_at p (child_of p i 1)) (whole_at p (child_of p i 1))

abbrev pub IsDeclaration : List ℕ → ℕ → Option ℕ → Option ℕ → Type 0
IsDeclaration p j best r = (t : List ℕ) → r ≡ sooner best (soonest (T.declaration_faults (declaration_at t p j)))

abbrev pub IsDeclarations : List ℕ → ℕ → Option ℕ → Option ℕ → Type 0
IsDeclarations p d best r = (t : List ℕ) → r ≡ sooner best (soonest (T.declaration_faults (declared_at t p d)))

-- ---- a program, with the variables of the table

abbrev pub faults_at : List ℕ → List ℕ → List ℕ → ℕ → List ℕ
faults_at t p tab root =
    let pr = program_at t p root in
    T.declaration_faults pr.declared ++ T.statement_faults (variables_in t p tab) pr.body [] (some DINT)
