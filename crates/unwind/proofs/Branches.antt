-- Two lists walked behind a test and joined: what an IF and an arm of a CASE have in common.
use mathlib.Core.Path.{◌≡◌, sym, ap, ap₂, ◌∙◌}
use mathlib.Core.List.{List}
use Prim.Native.Nat.{ℕ, ◌+◌, ◌*◌, ◌≤◌}
use native.Mathlib.Omega.{arith}
use lib.ListN.{length}
use Rattle.std.specs.Prelude.{Result, Ok, Err, IfOk}
use Rattle.std.proofs.lemmas.Result.{IfOk-weaker}
use Rattle.paper.specs.declared.Refusal.{Refusal}
use Rattle.paper.specs.Refusals.{Answer, ◌>>=◌}
use Rattle.paper.specs.Source as S
use Rattle.paper.specs.Names.{Variable}
use Rattle.paper.specs.Plain.{Expr, State}
use Rattle.paper.specs.Unwinding.{Unwound}
use Rattle.tree.specs.Nodes.{Same}
use Rattle.tree.proofs.Decodes.{same_less, same_trans}
use Rattle.plain.specs.Flat.{expr_at, list_at}
use Rattle.plain.proofs.Frames.{expr_same}
use Rattle.unwind.specs.declared.lists.Walk.{Walk}
use Rattle.unwind.specs.declared.cases.Selector.{Selector}
use Rattle.unwind.specs.Walks.{said, Goes, UnwindDid, joining, JoinedDid}
use Rattle.unwind.specs.Arms.{ArmsDid}
use Rattle.unwind.proofs.Steps.{list_later}

-- what a walk leaves beside its answer
pub record Moves (env env₁ : State) (old new : List ℕ) (n w : ℕ) (r : Result Walk Refusal) : Type 0 where
  pub kept : env₁ ≡ env
  pub long : length new ≡ length old
  pub same : Same n old new
  pub goes : IfOk r (Goes n w)

pub unwind_moves : {vs : List Variable} {t p : List ℕ} {env env₁ : State} {old new : List ℕ} {i n w : ℕ} {r : Result Walk Refusal} → UnwindDid vs t p env env₁ old new i n w r
    → Moves env env₁ old new n w r
unwind_moves d = record { kept = d.kept; long = d.long; same = d.same; goes = d.goes }

pub arms_moves : {vs : List Variable} {t p : List ℕ} {env env₁ : State} {old new : List ℕ} {s : Selector} {e : S.Expr} {i n w : ℕ} {r : Result Walk Refusal} → ArmsDid vs t p env env₁ old new s e i n w r
    → Moves env env₁ old new n w r
arms_moves d = record { kept = d.kept; long = d.long; same = d.same; goes = d.goes }

-- a test up to the node k, its own being c, and m the weight with it; two nodes are spared, for the IF and for what puts it behind a list
pub record Tried (old mid : List ℕ) (n w k c m : ℕ) : Type 0 where
  pub long : length mid ≡ length old
  pub same : Same n old mid
  pub more : n ≤ k
  pub root : c ≤ k
  pub heavy : w ≤ m
  pub grown : k + 2 + 4 * w ≤ n + 4 * m

-- the answer, from that of the first list; g gives the second from a weight
abbrev pub branched : ℕ → ℕ → Expr → (ℕ → Answer Unwound) → Answer Unwound → Answer Unwound
branched size q x g o = o >>= λ a. g a.weight >>= λ b. joining size q x a.plain b.plain b.weight

module _ {old mid : List ℕ} {n w k c m : ℕ} (test : Tried old mid n w k c m) where
  to_left : (mid₁ : List ℕ) → Same k mid mid₁ → Same n old mid₁
  to_left mid₁ h = same_trans old mid mid₁ n test.same (same_less mid mid₁ k n h test.more)

  pub left_moves : {env env₁ : State} {mid₁ : List ℕ} {e : Refusal} → Moves env env₁ mid mid₁ k m (Err e) → Moves env env₁ old mid₁ n w (Err e)
  left_moves left = record { kept = left.kept; long = left.long ∙ test.long; same = to_left _ left.same; goes = tt }

  module _ {env env₁ : State} {mid₁ : List ℕ} {a : Walk} (left : Moves env env₁ mid mid₁ k m (Ok a)) where
    goes_left : Goes k m a
    goes_left = left.goes

    to_right : (mid₂ : List ℕ) → Same a.count mid₁ mid₂ → Same n old mid₂
    to_right mid₂ h =
        same_trans old mid₁ mid₂ n (to_left _ left.same) (same_less mid₁ mid₂ a.count n h (omega (arith, test.more, goes_left.more)))

    pub right_moves : {env₂ : State} {mid₂ : List ℕ} {e : Refusal} → Moves env₁ env₂ mid₁ mid₂ a.count a.weight (Err e) → Moves env env₂ old mid₂ n w (Err e)
    right_moves right =
        record { kept = right.kept ∙ left.kept; long = right.long ∙ left.long ∙ test.long; same = to_right _ right.same; goes = tt }

    pub right_answers : (mid₂ : List ℕ) (e : Refusal) (size q : ℕ) (x : Expr) (g : ℕ → Answer Unwound) → g a.weight ≡ said mid₂ (Err e)
        → said mid₂ (Err e) ≡ branched size q x g (said mid₁ (Ok a))
    right_answers mid₂ e size q x g h = sym (ap (λ o. o >>= λ y. joining size q x (list_at mid₁ a.root) y.plain y.weight) h)

    module _ {env₂ : State} {mid₂ : List ℕ} {b : Walk} (right : Moves env₁ env₂ mid₁ mid₂ a.count a.weight (Ok b)) {cells at : ℕ} {new : List ℕ} {r : Result Walk Refusal}
        (joined : JoinedDid mid₂ new cells at c a.root b r) where
      goes_right : Goes a.count a.weight b
      goes_right = right.goes

      joined_goes : (x : Walk) → (x.count ≡ b.count + 1) × (x.root ≡ x.count) × (b.weight ≤ x.weight) × (x.weight ≤ 3000) → Goes n w x
      joined_goes x d =
          let ga = goes_left in
          let gb = goes_right in
          record {
            more = omega (arith, d, test.more, ga.more, gb.more);
            root = omega (arith, d);
            heavy = omega (arith, d, test.heavy, ga.heavy, gb.heavy);
            light = omega (arith, d);
            grown = omega (arith, d, test.grown, ga.grown, gb.grown);
          }

      pub joined_moves : Moves env env₂ old new n w r
      joined_moves =
          record {
            kept = right.kept ∙ left.kept;
            long = joined.long ∙ right.long ∙ left.long ∙ test.long;
            same = same_trans old mid₂ new n (to_right _ right.same)
                (same_less mid₂ new b.count n joined.same (omega (arith, test.more, goes_left.more, goes_right.more)));
            goes = IfOk-weaker r _ _ joined_goes joined.good;
          }

      -- the test and the first list stand as they were
      test_later : expr_at mid₂ c ≡ expr_at mid c
      test_later =
          expr_same mid₁ mid₂ a.count c right.same (omega (arith, test.root, goes_left.more))
          ∙ expr_same mid mid₁ k c left.same test.root

      left_later : list_at mid₂ a.root ≡ list_at mid₁ a.root
      left_later = list_later mid₁ mid₂ a.count a.root right.same goes_left.root

      pub joined_answers : (size q : ℕ) (x : Expr) (g : ℕ → Answer Unwound) → expr_at mid c ≡ x → cells ≡ length env₂ → length env ≡ size → at ≡ q
          → g a.weight ≡ said mid₂ (Ok b) → said new r ≡ branched size q x g (said mid₁ (Ok a))
      joined_answers size q x g ex ecells esize eat e =
          joined.is
          ∙ ap₂ (λ s y. joining s y (expr_at mid₂ c) (list_at mid₂ a.root) (list_at mid₂ b.root) b.weight)
          (ecells ∙ ap length (right.kept ∙ left.kept) ∙ esize) eat
          ∙ ap₂ (λ y l. joining size q y l (list_at mid₂ b.root) b.weight) (test_later ∙ ex) left_later
          ∙ sym (ap (λ o. o >>= λ y. joining size q x (list_at mid₁ a.root) y.plain y.weight) e)
