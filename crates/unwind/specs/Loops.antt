-- FOR: its head worked out, and what its passes leave.
use Rattle.std.specs.Prelude.{◌≡◌, false, cond, List, ℕ, ◌+◌, ◌*◌, ◌≤◌, ◌<◌, min, ℤ, ◌-ℤ◌, nat_abs, length, set, option_map, Result, IfOk, IfSome}
use Rattle.std.specs.Prelude as Rust
use Rattle.std.proofs.Math.Option.{Option, none, some}
use Rattle.paper.specs.declared.Ty.{Ty}
use Rattle.paper.specs.declared.Cell.{Cell}
use Rattle.paper.specs.declared.Refusal.{Refusal}
use Rattle.paper.specs.Refusals.{Answer}
use Rattle.paper.specs.Types.{encode}
use Rattle.paper.specs.Source as S
use Rattle.paper.specs.Source.{Name}
use Rattle.paper.specs.Names.{Variable, cells_of, find}
use Rattle.paper.specs.Typing.{is_zero}
use Rattle.paper.specs.Plain.{State, store}
use Rattle.paper.specs.Meaning.{passed, cell_of_variable, whole_value, ◌>>=◌}
use Rattle.paper.specs.Unwinding as U
use Rattle.paper.specs.Unwinding.{Unwound, no_selector, pass_of, unwind}
use Rattle.tree.specs.Nodes.{child_of, Same}
use Rattle.tree.specs.Trees as T
use Rattle.tree.specs.Trees.{place_at, name_at}
use Rattle.constants.specs.Answers.{maybe}
use Rattle.plain.specs.Flat.{list_at}
use Rattle.unwind.specs.declared.lists.Walk.{Walk}
use Rattle.unwind.specs.declared.loops.Head.{Head}
use Rattle.unwind.specs.Parts.{Inside}
use Rattle.unwind.specs.Walks.{Ready, said, Goes, behind, setting}

-- ---- the head

pub record Worked : Type 0 where
  pub ty : Ty
  pub cell : Cell
  pub by : ℤ
  pub from : ℤ
  pub to : ℤ

-- of `FOR n := a TO b BY c`: none where 8 stands
abbrev pub head_in : List Variable → State → Name → S.Expr → S.Expr → S.Expr → Option Worked
head_in vs env n a b c =
    find n vs >>= λ v.
    cell_of_variable v >>= λ cell.
    whole_value vs env v.declared.ty c >>= λ by.
    whole_value vs env v.declared.ty a >>= λ from.
    whole_value vs env v.declared.ty b >>= λ to.
    cond (is_zero by) none (some (record { ty = v.declared.ty; cell = cell; by = by; from = from; to = to }))

abbrev pub head_at : List Variable → List ℕ → List ℕ → State → ℕ → Option Worked
head_at vs t p env i =
    let h = child_of p i 1 in
    let g = child_of p h 1 in
    head_in vs env (name_at t (place_at p h)) (T.expr_at t p (child_of p g 1)) (T.expr_at t p (child_of p g 2)) (T.expr_at t p (child_of p h 2))

abbrev pub cell_of_head : Head → Cell
cell_of_head h = record { 0 = h.cell }

abbrev pub worked : Head → Worked
worked h = record { ty = h.ty; cell = cell_of_head h; by = h.by; from = h.from; to = h.to }

-- values of the types have no more than 32 bits
abbrev pub Small : ℤ → Type 0
Small z = nat_abs z < 4294967296

-- a head at the place q, whose variable is one of so many cells
pub record Stands (q cells : ℕ) (h : Head) : Type 0 where
  pub place : h.place ≡ q
  pub inside : h.cell < cells
  pub steps : is_zero h.by ≡ false
  pub small : Small h.by × Small h.from × Small h.to

pub record HeadDid (vs : List Variable) (t p : List ℕ) (env : State) (i : ℕ) (r : Rust.Option Head) : Type 0 where
  pub stands : IfSome r (Stands (place_at p i) (length env))
  pub is : Inside (length env) vs → maybe (option_map worked r) ≡ head_at vs t p env i

-- ---- its variable set

pub record SetDid (old new : List ℕ) (h : Head) (v : ℤ) (n w : ℕ) (r : Result Walk Refusal) : Type 0 where
  pub long : length new ≡ length old
  pub same : Same n old new
  pub good : IfOk r (λ r. (r.count ≡ n + 2) × (r.root ≡ n + 2) × (r.weight ≡ w + 1) × (w < 3000))
  pub is : said new r ≡ setting h.place h.ty (cell_of_head h) v w

-- ---- its passes

-- the body in the pass with the value z
abbrev pub body_of : List Variable → List ℕ → List ℕ → State → Head → ℕ → ℤ → ℕ → Answer Unwound
body_of vs t p env h body z w =
    unwind vs (T.front_at t p body S.done) (store (cell_of_head h) (encode h.ty z) env) no_selector w

-- the passes from v on, of which there are fewer than f
abbrev pub turns_from : List Variable → List ℕ → List ℕ → State → Head → ℕ → ℕ → ℤ → ℕ → Answer Unwound
turns_from vs t p env h body f v w =
    U.turns f (pass_of h.place h.ty (cell_of_head h) (body_of vs t p env h body)) h.by h.to v w

-- v has not passed the end; `before` is the list of the passes so far
pub record TurnsReady (env : State) (out : List ℕ) (h : Head) (v : ℤ) (body n w before : ℕ) : Type 0 where
  pub low : body ≤ 65535
  pub cells : length env ≤ 64
  pub inside : h.cell < length env
  pub steps : is_zero h.by ≡ false
  pub small : Small h.by × Small v × Small h.to
  pub within : passed h.by h.to v ≡ false
  pub first : before ≤ n
  pub ready : Ready out (n + min 1 before) w

pub record TurnsDid (vs : List Variable) (t p : List ℕ) (env env' : State) (old new : List ℕ) (h : Head) (v : ℤ) (body n w before : ℕ) (r : Result Walk Refusal) : Type 0 where
  -- of the environment only the variable is another
  pub kept : length env' ≡ length env
  pub only : (x : ℕ) → set env' h.cell x ≡ set env h.cell x
  pub long : length new ≡ length old
  pub same : Same n old new
  pub goes : IfOk r (Goes (n + min 1 before) w)
  pub turned : Inside (length env) vs → length env ≡ length (cells_of vs)
      → (f : ℕ) → nat_abs (h.to -ℤ v) < f
      → said new r ≡ behind (record { plain = list_at old before; weight = w }) (turns_from vs t p env h body f v w)
