-- The walk of a node, from the walks of its children: nothing, an assignment, a list and one statement more.
use mathlib.Core.Path.{◌≡◌, refl, sym, ap, ap₂, subst, ◌∙◌}
use mathlib.Core.List.{List}
use Prim.Native.Nat.{ℕ, ◌≤◌}
use native.Mathlib.Omega.{arith}
use lib.ListN.{length}
use Rattle.std.specs.Prelude.{Result, Ok, Err}
use Rattle.paper.specs.declared.Refusal.{Refusal}
use Rattle.paper.specs.Refusals.{Answer, refused, given, ◌>>=◌}
use Rattle.paper.specs.Names.{Variable, cells_of}
use Rattle.paper.specs.Plain.{State, done, ◌⨾◌}
use Rattle.paper.specs.Unwinding.{Unwound, unwound}
use Rattle.tree.specs.Nodes.{child_of, Same}
use Rattle.tree.specs.Kinds.{IsStatement}
use Rattle.tree.specs.declared.kinds.Statement.TheVariants as K
use Rattle.tree.specs.Trees as T
use Rattle.tree.proofs.Decodes.{same_less, same_trans}
use Rattle.plain.specs.Flat.{list_at}
use Rattle.plain.proofs.Frames.{list_same}
use Rattle.plain.proofs.Lists.{list_nil}
use Rattle.unwind.specs.declared.lists.Walk.{Walk}
use Rattle.unwind.specs.Parts.{Inside}
use Rattle.unwind.specs.Walks.{said, Goes, WalkDid, Linked, assign_at, behind, Front, UnwindDid}
use Rattle.unwind.proofs.Fronts.{front_as, front_is, front_none, front_two}
use Rattle.unwind.proofs.Assigning.{assign_front}

-- nodes that stand are the same list later
pub list_later : (old new : List ℕ) (n i : ℕ) → Same n old new → i ≤ n → list_at new i ≡ list_at old i
list_later old new n i h l = list_same done old new n i h l

-- nothing was added
pub goes_none : (n w : ℕ) (r : Walk) → r.count ≡ n → r.root ≡ 0 → r.weight ≡ w → w ≤ 3000 → Goes n w r
goes_none n w r ec er ew l = record { more = omega arith; root = omega arith; heavy = omega arith; light = omega arith; grown = omega arith }

-- ---- a node

module _ (vs : List Variable) (t p : List ℕ) (env : State) (i n w : ℕ) (old : List ℕ) where
  pub none_did : IsStatement p i K.Nothing → (r : Walk) → r.count ≡ n → r.root ≡ 0 → r.weight ≡ w → w ≤ 3000
      → UnwindDid vs t p env env old old i n w (Ok r)
  none_did e r ec er ew l =
      record {
        kept = refl;
        long = refl;
        same = λ j s. refl;
        goes = goes_none n w r ec er ew l;
        front = λ ins size.
            front_as vs env (λ k. k) (T.front_at t p i) w _ (e.list t)
            (front_is vs env (λ k. k) w (unwound done w) _ (sym (ap₂ unwound (ap (list_at old) er ∙ list_nil old) ew)) (front_none vs env w));
      }

  pub assign_node : (new : List ℕ) (r : Result Walk Refusal) → IsStatement p i K.Assignment → WalkDid vs (length env) old new n w (assign_at vs t p env i w) r
      → UnwindDid vs t p env env old new i n w r
  assign_node new r l d =
      record {
        kept = refl;
        long = d.long;
        same = d.same;
        goes = d.goes;
        front = λ ins size.
            front_as vs env _ (T.front_at t p i) w _ (l.list t)
            (front_is vs env _ w _ _ (sym (d.is ins size)) (assign_front vs env _ _ _ w));
      }

  module _ (kind : IsStatement p i K.List) (env₁ : State) (mid : List ℕ) (j : ℕ) (ej : j ≡ child_of p i 1) where
    -- what the first child puts, and then what the second does
    two_fronts : (a b : Answer Unwound) (m : ℕ) → m ≡ child_of p i 2 → Front vs env (T.front_at t p j) w a
        → ((x : Unwound) → a ≡ given x → Front vs env (T.front_at t p m) x.weight b) → Front vs env (T.front_at t p i) w (a >>= λ x. behind x b)
    two_fronts a b m em first second =
        front_as vs env (λ k. T.front_at t p j (T.front_at t p m k)) (T.front_at t p i) w _
        (λ k. kind.list t k ∙ ap₂ (λ x y. T.front_at t p x (T.front_at t p y k)) (sym ej) (sym em))
        (front_two vs env (T.front_at t p j) (T.front_at t p m) w a b first second)

    pub first_refused : (e : Refusal) → UnwindDid vs t p env env₁ old mid j n w (Err e) → UnwindDid vs t p env env₁ old mid i n w (Err e)
    first_refused e first =
        record {
          kept = first.kept;
          long = first.long;
          same = first.same;
          goes = tt;
          front = λ ins size.
              two_fronts (refused e.why e.place) (refused e.why e.place) (child_of p i 2) refl (first.front ins size)
              (λ x h. let z : ◌≡◌ {A = ℕ} 0 1 = cc in absurd (omega arith));
        }

    module _ (a : Walk) (first : UnwindDid vs t p env env₁ old mid j n w (Ok a)) (env₂ : State) (last : List ℕ) (m : ℕ) (em : m ≡ child_of p i 2) where
      -- the second walked where the first ended
      both_front : (r : Result Walk Refusal) → UnwindDid vs t p env₁ env₂ mid last m a.count a.weight r
          → Inside (length env) vs → length env ≡ length (cells_of vs) → Front vs env (T.front_at t p i) w (behind (record { plain = list_at mid a.root; weight = a.weight }) (said last r))
      both_front r second ins size =
          two_fronts (said mid (Ok a)) (said last r) m em (first.front ins size)
          (λ x h.
          let d = subst (λ v. UnwindDid vs t p v env₂ mid last m a.count a.weight r) first.kept second in
          let ew : a.weight ≡ x.weight = cc in
          subst (λ w. Front vs env (T.front_at t p m) w (said last r)) ew (d.front ins size))

      then_same : Same a.count mid last → Same n old last
      then_same h = same_trans old mid last n first.same (same_less mid last a.count n h first.goes.more)

      pub second_refused : (e : Refusal) → UnwindDid vs t p env₁ env₂ mid last m a.count a.weight (Err e) → UnwindDid vs t p env env₂ old last i n w (Err e)
      second_refused e second =
          record {
            kept = second.kept ∙ first.kept;
            long = second.long ∙ first.long;
            same = then_same second.same;
            goes = tt;
            front = both_front (Err e) second;
          }

      pub both_did : (b : Walk) → UnwindDid vs t p env₁ env₂ mid last m a.count a.weight (Ok b) → (new : List ℕ) (r : Walk)
          → Linked last new b.count a.root b.root b.weight r → UnwindDid vs t p env env₂ old new i n w (Ok r)
      both_did b second new r l =
          let ga : Goes n w a = first.goes in
          let gb : Goes a.count a.weight b = second.goes in
          let left : list_at last a.root ≡ list_at mid a.root = list_later mid last a.count a.root second.same ga.root in
          record {
            kept = second.kept ∙ first.kept;
            long = l.long ∙ second.long ∙ first.long;
            same = same_trans old last new n (then_same second.same) (same_less last new b.count n l.same (omega (arith, ga.more, gb.more)));
            goes = record {
              more = omega (arith, l.more, ga.more, gb.more);
              root = l.root;
              heavy = omega (arith, l.weight, ga.heavy, gb.heavy);
              light = omega (arith, l.weight, gb.light);
              grown = omega (arith, l.grown, l.weight, ga.grown, gb.grown);
            };
            front = λ ins size.
                front_is vs env (T.front_at t p i) w _ _
                (sym (ap₂ unwound (l.list ∙ ap (λ s. s ⨾ list_at last b.root) left) l.weight))
                (both_front (Ok b) second ins size);
          }
