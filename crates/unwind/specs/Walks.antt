-- What the walk of statements leaves: their list in the flat pool and the weight so far, or 8 or 9 at a place.
use Rattle.std.specs.Prelude.{◌≡◌, cond, List, [], ◌∷◌, ℕ, ◌+◌, ◌*◌, ◌≤◌, min, eqb, ℤ, length, replicate, Result, IfOk}
use Rattle.paper.specs.declared.Ty.{Ty}
use Rattle.paper.specs.declared.Ty.TheVariants.{Dint as DINT}
use Rattle.paper.specs.declared.Op.{Op}
use Rattle.paper.specs.declared.Cell.{Cell}
use Rattle.paper.specs.declared.Refusal.{Refusal}
use Rattle.paper.specs.Refusals.{Answer, given, ◌>>=◌}
use Rattle.paper.specs.Source as S
use Rattle.paper.specs.Source.{Label, one, range}
use Rattle.paper.specs.Names.{Variable, cells_of}
use Rattle.paper.specs.Heights.{first_word}
use Rattle.paper.specs.Typing.{type_in}
use Rattle.paper.specs.Plain.{Expr, State, Stmts, number, binary, done, assign, choice, parts, cells_within, ◌⨾◌}
use Rattle.paper.specs.Unwinding.{Unwound, unwound, heavier, Selector, no_selector, tests_of, cell_in, plain_of, unwind}
use Rattle.tree.specs.Nodes.{word_of, child_of, Same}
use Rattle.tree.specs.Trees as T
use Rattle.variables.specs.Table.{listed_in}
use Rattle.plain.specs.Flat.{expr_at, list_at}
use Rattle.unwind.specs.declared.parts.Part.{Part}
use Rattle.unwind.specs.declared.lists.Walk.{Walk}
use Rattle.unwind.specs.declared.cases.Selector as Stand
use Rattle.unwind.specs.Parts.{answer, Holds, Inside, Ends}

-- the answer that a walk stands for
abbrev pub said : List ℕ → Result Walk Refusal → Answer Unwound
said new r = answer (λ w. record { plain = list_at new w.root; weight = w.weight }) r

-- ---- nodes and weight

-- n nodes stand, and w is the weight so far: there is room for whatever 3,000 allow
abbrev pub Ready : List ℕ → ℕ → ℕ → Type 0
Ready out n w = (n ≤ 4 * w) × (w ≤ 3000) × (48016 ≤ length out) × (length out ≤ 262144)

-- from n nodes and the weight w on: at most four nodes for each unit of weight, and of a list that is not empty one fewer, for the node
-- that puts it behind another
pub record Goes (n w : ℕ) (r : Walk) : Type 0 where
  pub more : n ≤ r.count
  pub root : r.root ≤ r.count
  pub heavy : w ≤ r.weight
  pub light : r.weight ≤ 3000
  pub grown : r.count + min 1 r.root + 4 * w ≤ n + 4 * r.weight

-- a walk that answers o, where the program's cells are as many as `size`
pub record WalkDid (vs : List Variable) (size : ℕ) (old new : List ℕ) (n w : ℕ) (o : Answer Unwound) (r : Result Walk Refusal) : Type 0 where
  pub long : length new ≡ length old
  pub same : Same n old new
  pub goes : IfOk r (Goes n w)
  pub is : Inside size vs → size ≡ length (cells_of vs) → said new r ≡ o

-- ---- one list behind another

pub record Linked (old new : List ℕ) (n a b w : ℕ) (r : Walk) : Type 0 where
  pub weight : r.weight ≡ w
  pub long : length new ≡ length old
  pub same : Same n old new
  pub more : n ≤ r.count
  pub root : r.root ≤ r.count
  pub list : list_at new r.root ≡ list_at old a ⨾ list_at old b
  -- a node only where neither is empty
  pub grown : r.count + min 1 r.root ≤ n + min 1 a + min 1 b

-- ---- assignments

-- `cell := v;` where v was just walked
abbrev pub assigning : ℕ → Cell → ℕ → Answer Expr → Answer Unwound
assigning at cell w o = o >>= λ x. heavier at (parts x) w >>= λ m. unwound (assign cell x done) m

pub record AssignedDid (old new : List ℕ) (at : ℕ) (cell : Cell) (w : ℕ) (v : Part) (r : Result Walk Refusal) : Type 0 where
  pub long : length new ≡ length old
  pub same : Same v.count old new
  -- from n nodes on
  pub does : (n : ℕ) (x : Expr) → Ends old n x v → n ≤ 4 * w → n ≤ v.count → IfOk r (Goes n w) × (said new r ≡ assigning at cell w (given x))

abbrev pub assign_of : List Variable → State → S.Expr → S.Expr → ℕ → Answer Unwound
assign_of vs env x e w =
    cell_in vs env x >>= λ c.
    plain_of vs env (type_in vs DINT x) e >>= λ v. heavier (first_word x) (parts v) w >>= λ w. unwound (assign c v done) w

abbrev pub assign_at : List Variable → List ℕ → List ℕ → State → ℕ → ℕ → Answer Unwound
assign_at vs t p env i w = assign_of vs env (T.expr_at t p (child_of p i 1)) (T.expr_at t p (child_of p i 2)) w

-- `v := z;`, which weighs 1
abbrev pub setting : ℕ → Ty → Cell → ℤ → ℕ → Answer Unwound
setting at t cell z w = heavier at 1 w >>= λ m. unwound (assign cell (number t z) done) m

-- ---- IF

-- an IF of the condition at c and two lists, the second just walked
abbrev pub joining : ℕ → ℕ → Expr → Stmts → Stmts → ℕ → Answer Unwound
joining size q v a b w = heavier q (cells_within size a b) w >>= λ m. unwound (choice v a b done) m

pub record JoinedDid (old new : List ℕ) (size q c a : ℕ) (b : Walk) (r : Result Walk Refusal) : Type 0 where
  pub long : length new ≡ length old
  pub same : Same b.count old new
  pub is : said new r ≡ joining size q (expr_at old c) (list_at old a) (list_at old b.root) b.weight
  pub good : IfOk r (λ r. (r.count ≡ b.count + 1) × (r.root ≡ r.count) × (b.weight ≤ r.weight) × (r.weight ≤ 3000))

-- ---- the tests of a CASE

-- how many parts the tests of the labels at i have, 3001 standing for more
abbrev pub TestsParts : List ℕ → ℕ → ℕ → ℕ → Type 0
TestsParts p n i r = (r ≤ 3001) × ((s : Selector) → n ≡ min 3001 (parts s.plain) → r ≡ min 3001 (parts (tests_of s (T.labels_at p i))))

-- n nodes stood before; where there is room for `nodes` more, the last is the expression's
pub record Spelt (old new : List ℕ) (n nodes : ℕ) (x : Expr) (r : ℕ) : Type 0 where
  pub more : n ≤ r
  pub most : r ≤ n + nodes
  pub holds : Holds new r
  pub long : length new ≡ length old
  pub same : Same n old new
  pub ends : Holds old (n + nodes) → (r ≡ n + nodes) × (expr_at new r ≡ x)

-- the selector whose nodes stand in the pool, up to the root
abbrev pub selects : List ℕ → Stand.Selector → ℕ → Selector
selects out s root = record { place = s.place; plain = expr_at out root; ty = s.ty }

-- compared by the operator o with the number at i
abbrev pub compared_with : List ℕ → List ℕ → Stand.Selector → ℕ → Op → ℕ → Expr
compared_with out p sel root o i = binary o sel.ty (expr_at out root) (number sel.ty (T.whole_at p i))

-- a comparison adds two nodes, AND a third
abbrev pub label_nodes : List ℕ → ℕ → ℕ
label_nodes p i = cond (eqb (word_of p i 0) 31) 5 2

abbrev pub nodes_of : Label → ℕ
nodes_of (one p a) = 2
nodes_of (range p a q b) = 5

-- the nodes of all, with one OR for each further label
unfoldable pub or_nodes : ℕ → List Label → ℕ
or_nodes n [] = n
or_nodes n (l ∷ ls) = or_nodes (n + nodes_of l + 1) ls

unfoldable pub tests_nodes : List Label → ℕ
tests_nodes [] = 1
tests_nodes (l ∷ ls) = or_nodes (nodes_of l) ls

-- ---- statements in front of a list

-- one list behind another
abbrev pub behind : Unwound → Answer Unwound → Answer Unwound
behind x o = o >>= λ y. unwound (x.plain ⨾ y.plain) y.weight

-- a list that does not hear the selector of a CASE around it, from the weight that `own` gives
abbrev pub Deaf : List Variable → State → Answer Unwound → S.Stmts → Type 0
Deaf vs env own k =
    (x : Unwound) → own ≡ given x → (sel : Selector) → unwind vs k env sel x.weight ≡ unwind vs k env no_selector x.weight

-- what f puts in front of a list gives `own` from the weight w on
abbrev pub Front : List Variable → State → (S.Stmts → S.Stmts) → ℕ → Answer Unwound → Type 0
Front vs env f w own =
    (k : S.Stmts) → Deaf vs env own k → (sel : Selector)
    → unwind vs (f k) env sel w ≡ (own >>= λ x. behind x (unwind vs k env no_selector x.weight))

-- what a walk of the node i needs
abbrev pub Walks : State → List ℕ → ℕ → ℕ → ℕ → Type 0
Walks env out i n w = (i ≤ 65535) × Ready out n w × (length env ≤ 64)

-- the statements of the node i; the variables of the FORs around are as they were
pub record UnwindDid (vs : List Variable) (t p : List ℕ) (env env' : State) (old new : List ℕ) (i n w : ℕ) (r : Result Walk Refusal) : Type 0 where
  pub kept : env' ≡ env
  pub long : length new ≡ length old
  pub same : Same n old new
  pub goes : IfOk r (Goes n w)
  pub front : Inside (length env) vs → length env ≡ length (cells_of vs)
      → Front vs env (T.front_at t p i) w (said new r)

-- the body of the program at the node i
pub record ProgramDid (t p tab : List ℕ) (cells i : ℕ) (old new : List ℕ) (r : Result Walk Refusal) : Type 0 where
  pub long : length new ≡ length old
  pub goes : IfOk r (Goes 0 0)
  pub is : Inside cells (listed_in t p tab) → cells ≡ length (cells_of (listed_in t p tab))
      → said new r ≡ unwind (listed_in t p tab) (T.front_at t p (child_of p i 2) S.done) (replicate cells 0) no_selector 0
