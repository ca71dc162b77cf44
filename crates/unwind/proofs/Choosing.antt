-- The walk of an IF, from those of its condition and its two lists.
use mathlib.Core.Path.{◌≡◌, refl, sym, ap, ap₂, subst, ◌∙◌}
use mathlib.Core.List.{List}
use Prim.Native.Nat.{ℕ, ◌+◌, ◌*◌, ◌≤◌, ◌<◌}
use native.Mathlib.Omega.{arith}
use lib.ListN.{length}
use Rattle.paper.specs.declared.Ty.{Ty}
use Rattle.paper.specs.declared.Ty.TheVariants.{Dint as DINT}
use Rattle.paper.specs.declared.Why.TheVariants.{TooHeavy}
use Rattle.std.specs.Prelude.{Result, Ok, Err}
use Rattle.paper.specs.declared.Refusal.{Refusal}
use Rattle.paper.specs.Refusals.{Answer, refused, given, refusal, ◌>>=◌}
use Rattle.paper.specs.Source as S
use Rattle.paper.specs.Names.{Variable, cells_of}
use Rattle.paper.specs.Plain.{Expr, State, parts}
use Rattle.paper.specs.Unwinding.{Unwound, heavier, no_selector, plain_of, unwind}
use Rattle.tree.specs.Nodes.{word_of, child_of, Same}
use Rattle.tree.specs.Kinds.{IsStatement}
use Rattle.tree.specs.declared.kinds.Statement.TheVariants as K
use Rattle.tree.specs.Trees as T
use Rattle.plain.specs.Flat.{expr_at}
use Rattle.unwind.specs.declared.parts.Part.{Part}
use Rattle.unwind.specs.declared.lists.Walk.{Walk}
use Rattle.unwind.specs.Parts.{Inside, Ends, Parted, PartDid, PlainDid}
use Rattle.unwind.specs.Walks.{said, UnwindDid, JoinedDid}
use Rattle.unwind.proofs.Emits.{ends_of, refused_of}
use Rattle.unwind.proofs.Walking.{light, heavy, parts_some}
use Rattle.unwind.proofs.Fronts.{front_as, front_is, front_done, choice_front_lem}
use Rattle.unwind.proofs.Branches.{Moves, unwind_moves, Tried, branched, left_moves, right_moves, right_answers, joined_moves, joined_answers}

-- ---- an expression just walked

-- one that was refused, and what comes after it
pub part_refused : {A : Type 0} (mid : List ℕ) (n : ℕ) (o : Answer Expr) (e : Refusal) → Parted mid n o (Err e) → (f : Expr → Answer A) → refused e.why e.place ≡ (o >>= f)
part_refused mid n o e h f = sym (ap (λ o. o >>= f) (refused_of (Ends mid n) o e h))

-- of one that is light the nodes stand, and a walk may follow
pub part_light : {vs : List Variable} {size : ℕ} {old mid : List ℕ} {n : ℕ} {o : Answer Expr} {u : Ty} {v : Part} (d : PartDid vs size old mid n o u (Ok v)) (w : ℕ)
    → w + v.parts ≤ 3000 → n ≤ 4 * w → 48016 ≤ length old → (v.count ≡ n + v.parts) × (0 < v.parts)
part_light {vs} {size} {old} {mid} {n} {o} {u} {v} d w l k f =
    let g = ends_of mid n d.own v d.parted in
    let some = parts_some g.0 in
    let e : v.parts ≡ parts g.0 = omega (arith, g.2.counted) in
    let last : v.count ≡ n + parts g.0 = (g.2.ends (omega (arith, d.long))).0 in
    (omega arith, omega arith)

-- ---- the IF

module _ (vs : List Variable) (t p : List ℕ) (env : State) (i n w : ℕ) (old : List ℕ) (kind : IsStatement p i K.Choice)
    (j q : ℕ) (ej : j ≡ child_of p i 2) (eq : q ≡ word_of p j 3)
    (mid : List ℕ) (c : ℕ) (ec : c ≡ child_of p i 1) where
  abbrev place : ℕ
  place = word_of p (child_of p i 2) 3

  -- the list k from a weight
  abbrev list : ℕ → ℕ → Answer Unwound
  list k m = unwind vs (T.front_at t p (child_of p (child_of p i 2) k) S.done) env no_selector m

  -- the answer, from that of the first list
  abbrev branches : Expr → Answer Unwound → Answer Unwound
  branches x o = branched (length (cells_of vs)) place x (list 2) o

  -- the answer, from that of the condition
  abbrev from : Answer Expr → Answer Unwound
  from o = o >>= λ x. heavier place (parts x) w >>= λ m. branches x (list 1 m)

  place_is : q ≡ place
  place_is = eq ∙ ap (λ k. word_of p k 3) ej

  choice_node : (o : Answer Expr) → (Inside (length env) vs → o ≡ plain_of vs env DINT (T.expr_at t p c)) → (env₁ : State) (new : List ℕ) (y : Result Walk Refusal)
      → Moves env env₁ old new n w y → (Inside (length env) vs → length env ≡ length (cells_of vs) → said new y ≡ from o) → UnwindDid vs t p env env₁ old new i n w y
  choice_node o own env₁ new y m e =
      record {
        kept = m.kept;
        long = m.long;
        same = m.same;
        goes = m.goes;
        front = λ ins size.
            front_as vs env _ (T.front_at t p i) w _ (kind.list t)
            (front_is vs env _ w _ _ (sym (e ins size ∙ ap from (own ins ∙ ap (λ k. plain_of vs env DINT (T.expr_at t p k)) ec))) (choice_front_lem vs env _ _ _ _ _ w));
      }

  -- nothing beside the condition was walked
  stops : (e : Refusal) → length mid ≡ length old → Same n old mid → Moves env env old mid n w (Err e)
  stops e long same = record { kept = refl; long = long; same = same; goes = tt }

  pub test_refused : (e : Refusal) → PlainDid vs t p env DINT c old mid n (Err e) → UnwindDid vs t p env env old mid i n w (Err e)
  test_refused e test =
      choice_node test.own test.is env mid (Err e) (stops e test.long test.same) (λ ins size. part_refused mid n test.own e test.parted _)

  module _ (v : Part) (test : PlainDid vs t p env DINT c old mid n (Ok v)) where
    good : (x : Expr) × (test.own ≡ given x) × Ends mid n x v
    good = ends_of mid n test.own v test.parted

    abbrev x : Expr
    x = good.0

    pub test_heavy : (e : Refusal) → e ≡ refusal TooHeavy q → 3000 < w + v.parts → UnwindDid vs t p env env old mid i n w (Err e)
    test_heavy e ee l =
        choice_node test.own test.is env mid (Err e) (stops e test.long test.same)
        (λ ins size.
        heavy place (parts x) w (λ m. branches x (list 1 m)) (omega (arith, good.2.counted)) (ee ∙ ap (refusal TooHeavy) place_is) ∙ sym (ap from good.1))

    module _ (m : ℕ) (em : m ≡ w + v.parts) (most : m ≤ 3000) (low : n ≤ 4 * w) (fits : 48016 ≤ length old)
        (env₁ : State) (mid₁ : List ℕ) (ja : ℕ) (eja : ja ≡ child_of p j 1) where
      parts_is : v.parts ≡ parts x
      parts_is = omega (arith, good.2.counted)

      expr_is : expr_at mid v.count ≡ x
      expr_is = (good.2.ends (omega (arith, parts_is, test.long))).1

      tried : Tried old mid n w v.count v.count m
      tried =
          let k = part_light test w (omega arith) low fits in
          record { long = test.long; same = test.same; more = test.part.more; root = omega arith; heavy = omega arith; grown = omega arith }

      from_left : (y : Result Walk Refusal) → UnwindDid vs t p env env₁ mid mid₁ ja v.count m y
          → Inside (length env) vs → length env ≡ length (cells_of vs) → branches x (said mid₁ y) ≡ from test.own
      from_left y left ins size =
          ap (branches x)
          (sym (front_done vs env (T.front_at t p ja) m (said mid₁ y) (left.front ins size) no_selector)
          ∙ ap₂ (λ k u. unwind vs (T.front_at t p k S.done) env no_selector u) (eja ∙ ap (λ k. child_of p k 1) ej) (em ∙ ap (λ u. w + u) parts_is))
          ∙ light place (parts x) w (λ m. branches x (list 1 m)) (omega (arith, parts_is))
          ∙ sym (ap from good.1)

      pub left_refused : (e : Refusal) → UnwindDid vs t p env env₁ mid mid₁ ja v.count m (Err e) → UnwindDid vs t p env env₁ old mid₁ i n w (Err e)
      left_refused e left = choice_node test.own test.is env₁ mid₁ (Err e) (left_moves tried (unwind_moves left)) (from_left (Err e) left)

      module _ (a : Walk) (left : UnwindDid vs t p env env₁ mid mid₁ ja v.count m (Ok a)) (env₂ : State) (mid₂ : List ℕ) (jb : ℕ) (ejb : jb ≡ child_of p j 2) where
        right_is : (y : Result Walk Refusal) → UnwindDid vs t p env₁ env₂ mid₁ mid₂ jb a.count a.weight y
            → Inside (length env) vs → length env ≡ length (cells_of vs) → list 2 a.weight ≡ said mid₂ y
        right_is y right ins size =
            let d = subst (λ u. UnwindDid vs t p u env₂ mid₁ mid₂ jb a.count a.weight y) left.kept right in
            sym (ap (λ k. unwind vs (T.front_at t p k S.done) env no_selector a.weight) (ejb ∙ ap (λ k. child_of p k 2) ej))
            ∙ front_done vs env (T.front_at t p jb) a.weight (said mid₂ y) (d.front ins size) no_selector

        pub right_refused : (e : Refusal) → UnwindDid vs t p env₁ env₂ mid₁ mid₂ jb a.count a.weight (Err e) → UnwindDid vs t p env env₂ old mid₂ i n w (Err e)
        right_refused e right =
            choice_node test.own test.is env₂ mid₂ (Err e) (right_moves tried (unwind_moves left) (unwind_moves right))
            (λ ins size. right_answers tried (unwind_moves left) mid₂ e _ _ x (list 2) (right_is (Err e) right ins size) ∙ from_left (Ok a) left ins size)

        pub choice_did : (b : Walk) → UnwindDid vs t p env₁ env₂ mid₁ mid₂ jb a.count a.weight (Ok b) → (cells : ℕ) → cells ≡ length env₂
            → (new : List ℕ) (r : Result Walk Refusal) → JoinedDid mid₂ new cells q v.count a.root b r → UnwindDid vs t p env env₂ old new i n w r
        choice_did b right cells ecells new r joined =
            choice_node test.own test.is env₂ new r (joined_moves tried (unwind_moves left) (unwind_moves right) joined)
            (λ ins size.
            joined_answers tried (unwind_moves left) (unwind_moves right) joined _ _ x (list 2) expr_is ecells size place_is (right_is (Ok b) right ins size)
            ∙ from_left (Ok a) left ins size)
