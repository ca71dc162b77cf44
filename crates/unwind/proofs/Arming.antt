-- The walk of the arms of a CASE and of its ELSE list.
use mathlib.Core.Path.{◌≡◌, refl, sym, ap, ap₂, subst, ◌∙◌}
use mathlib.Core.List.{List}
use Prim.Native.Nat.{ℕ, ◌≤◌}
use lib.ListN.{length}
use Rattle.paper.specs.declared.Ty.TheVariants.{Dint as DINT}
use Rattle.std.specs.Prelude.{Result, Ok, Err}
use Rattle.paper.specs.declared.Refusal.{Refusal}
use Rattle.paper.specs.Refusals.{Answer, refused, given, ◌>>=◌}
use Rattle.paper.specs.Source as S
use Rattle.paper.specs.Names.{Variable, cells_of}
use Rattle.paper.specs.Plain.{Expr, State, parts}
use Rattle.paper.specs.Unwinding.{Unwound, unwound, heavier, no_selector, tests_of, plain_of, unwind}
use Rattle.tree.specs.Nodes.{child_of}
use Rattle.tree.specs.Kinds.{IsArms}
use Rattle.tree.specs.declared.kinds.Arms.TheVariants as K
use Rattle.tree.specs.Trees as T
use Rattle.plain.specs.Flat.{expr_at, list_at}
use Rattle.plain.proofs.Lists.{list_nil}
use Rattle.unwind.specs.declared.lists.Walk.{Walk}
use Rattle.unwind.specs.declared.cases.Selector as Stand
use Rattle.unwind.specs.Parts.{Inside}
use Rattle.unwind.specs.Walks.{said, UnwindDid, JoinedDid}
use Rattle.unwind.specs.Arms.{selecting, Tested, ArmTestDid, ArmsDid}
use Rattle.unwind.proofs.Emits.{given_refused, refused_of}
use Rattle.unwind.proofs.Fronts.{front_done}
use Rattle.unwind.proofs.Steps.{goes_none}
use Rattle.unwind.proofs.Branches.{Moves, unwind_moves, arms_moves, Tried, branched, left_moves, right_moves, right_answers, joined_moves, joined_answers}

-- a test just walked
tested : (mid : List ℕ) (x : Expr) (o : Answer ℕ) (c : Walk) → Tested mid x o (Ok c) → (o ≡ given c.weight) × (expr_at mid c.root ≡ x)
tested mid x (refused y q) c h = given_refused h
tested mid x (given m) c h = (ap given (sym h.0), h.1)

-- ---- the arms at a node

module _ (vs : List Variable) (t p : List ℕ) (env : State) (s : Stand.Selector) (chosen : S.Expr) (i n w : ℕ) (old : List ℕ) where
  pub no_arms_did : IsArms p i K.Nothing → (r : Walk) → r.count ≡ n → r.root ≡ 0 → r.weight ≡ w → w ≤ 3000 → ArmsDid vs t p env env old old s chosen i n w (Ok r)
  unfolding unwind
  no_arms_did e r ec er ew l =
      record {
        kept = refl;
        long = refl;
        same = λ j s. refl;
        goes = goes_none n w r ec er ew l;
        is = λ ins size v g. ap₂ unwound (ap (list_at old) er ∙ list_nil old) ew ∙ sym (ap (λ a. unwind vs a env (selecting s v) w) (e.list t));
      }

  -- the ELSE list hears no selector
  pub else_did : IsArms p i K.Otherwise → (env₁ : State) (new : List ℕ) (j : ℕ) → j ≡ child_of p i 1 → (r : Result Walk Refusal) → UnwindDid vs t p env env₁ old new j n w r
      → ArmsDid vs t p env env₁ old new s chosen i n w r
  else_did kind env₁ new j ej r d =
      record {
        kept = d.kept;
        long = d.long;
        same = d.same;
        goes = d.goes;
        is = λ ins size v g.
            sym (ap (λ a. unwind vs a env (selecting s v) w) (kind.list t ∙ ap (λ k. T.front_at t p k S.done) (sym ej))
            ∙ front_done vs env (T.front_at t p j) w (said new r) (d.front ins size) (selecting s v));
      }

  module _ (kind : IsArms p i K.Arm) (mid : List ℕ) (jl : ℕ) (ejl : jl ≡ child_of p i 1) where
    abbrev Given : Expr → Type 0
    Given v = plain_of vs env DINT chosen ≡ given v

    abbrev tests : Expr → Expr
    tests v = tests_of (selecting s v) (T.labels_at p jl)

    abbrev weighed : Expr → Answer ℕ
    weighed v = heavier s.place (parts (tests v)) w

    -- the list from a weight, and the arms behind it
    abbrev list : ℕ → Answer Unwound
    list m = unwind vs (T.front_at t p (child_of p i 2) S.done) env no_selector m

    abbrev rest : Expr → ℕ → Answer Unwound
    rest v m = unwind vs (T.arms_at t p (child_of p i 3)) env (selecting s v) m

    -- the answer, from that of the list
    abbrev branches : Expr → Answer Unwound → Answer Unwound
    branches v o = branched (length (cells_of vs)) s.place (tests v) (rest v) o

    abbrev whole : Expr → Answer Unwound
    whole v = unwind vs (T.arms_at t p i) env (selecting s v) w

    from_test : (v : Expr) → (weighed v >>= λ m. branches v (list m)) ≡ whole v
    unfolding unwind
    from_test v =
        sym (ap (λ a. unwind vs a env (selecting s v) w)
        (kind.list t ∙ ap (λ k. S.arm (T.labels_at p k) (T.front_at t p (child_of p i 2) S.done) (T.arms_at t p (child_of p i 3))) (sym ejl)))

    arm_node : (env₁ : State) (new : List ℕ) (y : Result Walk Refusal) → Moves env env₁ old new n w y
        → (Inside (length env) vs → length env ≡ length (cells_of vs) → (v : Expr) → Given v → said new y ≡ whole v) → ArmsDid vs t p env env₁ old new s chosen i n w y
    arm_node env₁ new y m e = record { kept = m.kept; long = m.long; same = m.same; goes = m.goes; is = e }

    abbrev Test : Result Walk Refusal → Type 0
    Test c = ArmTestDid vs env old mid s chosen (T.labels_at p jl) n w c

    pub test_bad : (e : Refusal) → Test (Err e) → ArmsDid vs t p env env old mid s chosen i n w (Err e)
    test_bad e test =
        arm_node env mid (Err e) (record { kept = refl; long = test.long; same = test.same; goes = tt })
        (λ ins size v g. sym (ap (λ o. o >>= λ m. branches v (list m)) (refused_of _ (weighed v) e (test.tested ins v g))) ∙ from_test v)

    module _ (c : Walk) (test : Test (Ok c)) (env₁ : State) (mid₁ : List ℕ) (ja : ℕ) (eja : ja ≡ child_of p i 2) where
      tried : Tried old mid n w c.count c.root c.weight
      tried =
          let g = test.goes in
          record { long = test.long; same = test.same; more = g.0; root = g.1; heavy = g.2; grown = g.4 }

      from_left : (y : Result Walk Refusal) → UnwindDid vs t p env env₁ mid mid₁ ja c.count c.weight y
          → Inside (length env) vs → length env ≡ length (cells_of vs) → (v : Expr) → Given v → branches v (said mid₁ y) ≡ whole v
      from_left y left ins size v g =
          let list_is : list c.weight ≡ said mid₁ y =
          sym (ap (λ k. unwind vs (T.front_at t p k S.done) env no_selector c.weight) eja)
          ∙ front_done vs env (T.front_at t p ja) c.weight (said mid₁ y) (left.front ins size) no_selector in
          sym (ap (λ o. o >>= λ m. branches v (list m)) (tested mid (tests v) (weighed v) c (test.tested ins v g)).0 ∙ ap (branches v) list_is)
          ∙ from_test v

      pub left_bad : (e : Refusal) → UnwindDid vs t p env env₁ mid mid₁ ja c.count c.weight (Err e) → ArmsDid vs t p env env₁ old mid₁ s chosen i n w (Err e)
      left_bad e left = arm_node env₁ mid₁ (Err e) (left_moves tried (unwind_moves left)) (from_left (Err e) left)

      module _ (a : Walk) (left : UnwindDid vs t p env env₁ mid mid₁ ja c.count c.weight (Ok a)) (env₂ : State) (mid₂ : List ℕ) (jb : ℕ) (ejb : jb ≡ child_of p i 3) where
        right_is : (y : Result Walk Refusal) → ArmsDid vs t p env₁ env₂ mid₁ mid₂ s chosen jb a.count a.weight y
            → Inside (length env) vs → length env ≡ length (cells_of vs) → (v : Expr) → Given v → rest v a.weight ≡ said mid₂ y
        right_is y right ins size v g =
            let d = subst (λ u. ArmsDid vs t p u env₂ mid₁ mid₂ s chosen jb a.count a.weight y) left.kept right in
            sym (d.is ins size v g ∙ ap (λ k. unwind vs (T.arms_at t p k) env (selecting s v) a.weight) ejb)

        pub right_bad : (e : Refusal) → ArmsDid vs t p env₁ env₂ mid₁ mid₂ s chosen jb a.count a.weight (Err e) → ArmsDid vs t p env env₂ old mid₂ s chosen i n w (Err e)
        right_bad e right =
            arm_node env₂ mid₂ (Err e) (right_moves tried (unwind_moves left) (arms_moves right))
            (λ ins size v g.
            right_answers tried (unwind_moves left) mid₂ e _ _ (tests v) (rest v) (right_is (Err e) right ins size v g) ∙ from_left (Ok a) left ins size v g)

        pub arm_did : (b : Walk) → ArmsDid vs t p env₁ env₂ mid₁ mid₂ s chosen jb a.count a.weight (Ok b) → (cells : ℕ) → cells ≡ length env₂
            → (new : List ℕ) (r : Result Walk Refusal) → JoinedDid mid₂ new cells s.place c.root a.root b r → ArmsDid vs t p env env₂ old new s chosen i n w r
        arm_did b right cells ecells new r joined =
            arm_node env₂ new r (joined_moves tried (unwind_moves left) (arms_moves right) joined)
            (λ ins size v g.
            joined_answers tried (unwind_moves left) (arms_moves right) joined _ _ (tests v) (rest v)
            (tested mid (tests v) (weighed v) c (test.tested ins v g)).1 ecells size refl (right_is (Ok b) right ins size v g)
            ∙ from_left (Ok a) left ins size v g)
