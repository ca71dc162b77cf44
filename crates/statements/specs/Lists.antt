-- What the answers of reading statements stand for. A list in the pool is read as what it puts in front of another.
use Rattle.std.specs.Prelude.{◌≡◌, Bool, true, false, List, ◌∷◌, ◌++◌, ℕ, suc, ◌+◌, ◌-◌, ◌≤◌, ◌<◌, ℤ, eqb, length, Result, IfOk}
use Rattle.std.proofs.Math.Option.{Option, none, some}
use Prim.Native.String.{String}
use Rattle.paper.specs.declared.Refusal.{Refusal}
use Rattle.paper.specs.Refusals.{Answer, ◌>>=◌}
use Rattle.paper.specs.Words.{Token}
use Rattle.paper.specs.Source.{Name, Expr, Stmts, done}
use Rattle.paper.specs.Reading as R
use Rattle.paper.specs.Reading.{Read, ok}
use Rattle.words.specs.Denoted.{denoted}
use Rattle.tree.specs.Nodes.{Same, word_of, child_of}
use Rattle.tree.specs.Trees.{expr_at, front_at, arms_at, label_at, labels_at, whole_at, place_at, name_at}
use Rattle.expressions.specs.declared.Parsed.{Parsed}
use Rattle.expressions.specs.Reads.{DidFrom, Did, KeyIs}

-- a class starts a statement: `started` finds one
abbrev pub is_some : {A : Type 0} → Option A → Bool
is_some none = false
is_some (some a) = true

abbrev pub StartsIs : ℕ → Bool → Type 0
StartsIs c r = (s : List ℕ) (n p : ℕ) (ts : List Token) → r ≡ is_some (R.start_of (record { word = denoted c s n; place = p } ∷ ts))

-- the whole list at a node
abbrev pub list_at : List ℕ → List ℕ → ℕ → Stmts
list_at t p i = front_at t p i done

-- ---- lists and statements

pub record LinkedDid (old new : List ℕ) (end n before s : ℕ) (r : Parsed) : Type 0 where
  pub at : r.at ≡ end
  pub more : n ≤ r.count
  pub few : r.count ≤ n + 1
  -- the first statement is the list
  pub first : r.count ≤ n + before
  pub rooted : r.root ≤ r.count
  pub same : Same n old new
  pub long : length new ≡ length old
  pub front : (t : List ℕ) (k : Stmts) → front_at t new r.root k ≡ front_at t old before (front_at t old s k)

-- a whole list, from nil on, leaves room for a node of what it stands in
abbrev pub ListDid : List ℕ → List ℕ → List ℕ → ℕ → ℕ → ℕ → ℕ → Result Parsed Refusal → Type 0
ListDid t old new at depth n before r =
    IfOk r (λ q. q.count + at < n + q.at + before)
    × Did (list_at t) t old new at n 1 14 (λ f ts. R.list f depth ts >>= λ x. ok (front_at t old before x.it) x.rest) r

abbrev pub StatementDid : List ℕ → List ℕ → List ℕ → ℕ → ℕ → ℕ → Result Parsed Refusal → Type 0
StatementDid t old new at depth n r = Did (front_at t) t old new at n 0 12 (λ f ts. R.statement f depth ts) r

abbrev pub AssignmentDid : List ℕ → List ℕ → List ℕ → ℕ → ℕ → Result Parsed Refusal → Type 0
AssignmentDid t old new at n r = Did (front_at t) t old new at n 1 10 (λ f ts. R.assignment f ts) r

abbrev pub BranchDid : List ℕ → List ℕ → List ℕ → ℕ → ℕ → ℕ → ℕ → ℕ → Result Parsed Refusal → Type 0
BranchDid t old new at depth n p q r = Did (front_at t) t old new at n 1 11 (λ f ts. R.branch f depth p q ts) r

-- the two lists of an IF, in a node of kind 45
pub record Two : Type 0 where
  pub first : Stmts
  pub second : Stmts

abbrev pub two_at : List ℕ → List ℕ → ℕ → Two
two_at t p i = record { first = list_at t p (child_of p i 1); second = list_at t p (child_of p i 2) }

abbrev pub BranchesDid : List ℕ → List ℕ → List ℕ → ℕ → ℕ → ℕ → ℕ → Result Parsed Refusal → Type 0
BranchesDid t old new at depth n q r =
    Did (two_at t) t old new at n 1 14
    (λ f ts. R.list f (suc depth) ts >>= λ a. R.otherwise f depth q a.rest >>= λ b. ok (record { first = a.it; second = b.it }) b.rest) r
    × IfOk r (λ x. place_at new x.root ≡ q)

abbrev pub OtherwiseDid : List ℕ → List ℕ → List ℕ → ℕ → ℕ → ℕ → ℕ → Result Parsed Refusal → Type 0
OtherwiseDid t old new at depth n q r = Did (list_at t) t old new at n 1 9 (λ f ts. R.otherwise f depth q ts) r

-- the closing word s has the class c, and leaves room for a node
abbrev pub ClosingDid : List ℕ → List ℕ → List ℕ → ℕ → ℕ → ℕ → ℕ → Result Parsed Refusal → Type 0
ClosingDid t old new at depth n c r =
    (eqb c 255 ≡ false → eqb c 0 ≡ false → IfOk r (λ q. q.count + at < n + q.at))
    × ((s : String) → KeyIs s c → Did (list_at t) t old new at n 1 8 (λ f ts. R.else_part f depth s ts) r)

-- ---- CASE

abbrev pub CasesDid : List ℕ → List ℕ → List ℕ → ℕ → ℕ → ℕ → ℕ → Result Parsed Refusal → Type 0
CasesDid t old new at depth n p r = Did (front_at t) t old new at n 1 11 (λ f ts. R.cases f depth p ts) r

abbrev pub ArmsDid : List ℕ → List ℕ → List ℕ → ℕ → ℕ → ℕ → Result Parsed Refusal → Type 0
ArmsDid t old new at depth n r = Did (arms_at t) t old new at n 1 9 (λ f ts. R.arms f depth ts) r

abbrev pub MoreArmsDid : List ℕ → List ℕ → List ℕ → ℕ → ℕ → ℕ → Result Parsed Refusal → Type 0
MoreArmsDid t old new at depth n r = Did (arms_at t) t old new at n 1 10 (λ f ts. R.more_arms f depth ts) r

-- labels and the colon behind them
abbrev pub LabelsDid : List ℕ → List ℕ → List ℕ → ℕ → ℕ → ℕ → Result Parsed Refusal → Type 0
LabelsDid t old new at n before r =
    Did labels_at t old new at n 1 0
    (λ f ts. R.labels f ts >>= λ ls. R.expect ":" ls.rest >>= λ us. ok (labels_at old before ++ ls.it) us) r

abbrev pub LabelDid : List ℕ → List ℕ → List ℕ → ℕ → ℕ → Result Parsed Refusal → Type 0
LabelDid t old new at n r = Did label_at t old new at n 1 0 (λ f ts. R.label ts) r

-- a number node: its place and its value
pub record Whole : Type 0 where
  pub place : ℕ
  pub value : ℤ

abbrev pub whole_node : List ℕ → ℕ → Whole
whole_node p i = record { place = place_at p i; value = whole_at p i }

-- the node is no pair of numbers
abbrev pub SignedNumberDid : List ℕ → List ℕ → List ℕ → ℕ → ℕ → Result Parsed Refusal → Type 0
SignedNumberDid t old new at n r =
    Did whole_node t old new at n 1 0
    (λ f ts. R.signed_number ts >>= λ z. ok (record { place = R.here ts; value = z.it }) z.rest) r
    × IfOk r (λ q. eqb (word_of new q.root 0) 31 ≡ false)

-- ---- FOR

abbrev pub RepeatDid : List ℕ → List ℕ → List ℕ → ℕ → ℕ → ℕ → ℕ → Result Parsed Refusal → Type 0
RepeatDid t old new at depth n p r = Did (front_at t) t old new at n 1 11 (λ f ts. R.repeat f depth p ts) r

pub record Head : Type 0 where
  pub place : ℕ
  pub name : Name
  pub from : Expr
  pub to : Expr
  pub by : Expr

abbrev pub head_at : List ℕ → List ℕ → ℕ → Head
head_at t p i =
    let g = child_of p i 1 in
    record { place = place_at p i; name = name_at t (place_at p i); from = expr_at t p (child_of p g 1); to = expr_at t p (child_of p g 2); by = expr_at t p (child_of p i 2) }

-- v := a TO b [BY c] DO
abbrev pub head_of : ℕ → ℕ → List Token → Answer (Read Head)
head_of f p ts = do
  v ← R.taken R.a_name ts
  becomes ← R.expect ":=" v.rest
  a ← R.expression f 0 1 becomes
  to ← R.expect "TO" a.rest
  b ← R.expression f 0 1 to
  c ← R.step f p b.rest
  do' ← R.expect "DO" c.rest
  ok (record { place = R.here ts; name = v.it; from = a.it; to = b.it; by = c.it }) do'

abbrev pub HeadDid : List ℕ → List ℕ → List ℕ → ℕ → ℕ → ℕ → Result Parsed Refusal → Type 0
HeadDid t old new at n p r = Did (head_at t) t old new at n 1 8 (λ f ts. head_of f p ts) r

pub record Pair : Type 0 where
  pub from : Expr
  pub to : Expr

abbrev pub pair_at : List ℕ → List ℕ → ℕ → Pair
pair_at t p i = record { from = expr_at t p (child_of p i 1); to = expr_at t p (child_of p i 2) }

abbrev pub BoundsDid : List ℕ → List ℕ → List ℕ → ℕ → ℕ → Result Parsed Refusal → Type 0
BoundsDid t old new at n r =
    Did (pair_at t) t old new at n 1 7
    (λ f ts.
    R.expect ":=" ts >>= λ us. R.expression f 0 1 us >>= λ a. R.expect "TO" a.rest >>= λ vs.
    R.expression f 0 1 vs >>= λ b. ok (record { from = a.it; to = b.it }) b.rest) r

-- its node may come from no word: the byte before has room for it
abbrev pub StepDid : List ℕ → List ℕ → List ℕ → ℕ → ℕ → ℕ → Result Parsed Refusal → Type 0
StepDid t old new at n p r = DidFrom (expr_at t) t old new (at - 1) at n 0 6 (λ f ts. R.step f p ts) r
