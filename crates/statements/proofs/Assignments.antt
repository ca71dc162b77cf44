-- Laws of reading an assignment: one for each way on.
use mathlib.Core.Path.{◌≡◌, refl, sym, ap, fun_ext, ◌∙◌}
use mathlib.Core.List.{List}
use Prim.Native.Nat.{ℕ, ◌+◌}
use native.Mathlib.Omega.{arith}
use Rattle.std.specs.Prelude.{Ok, Err}
use Rattle.paper.specs.declared.Refusal.{Refusal}
use Rattle.paper.specs.declared.Why.TheVariants.{BadShape}
use Rattle.paper.specs.Refusals.{Answer, refusal, ◌>>=◌}
use Rattle.paper.specs.Words.{Token}
use Rattle.paper.specs.Source as S
use Rattle.paper.specs.Source.{Expr, Stmts}
use Rattle.paper.specs.Reading as R
use Rattle.paper.specs.Reading.{Read, ok}
use Rattle.words.specs.declared.Word.{Word}
use Rattle.words.specs.Denoted.{IsWord}
use Rattle.expressions.specs.declared.Parsed.{Parsed}
use Rattle.tree.specs.Nodes.{written}
use Rattle.tree.specs.Trees.{expr_at, front_at}
use Rattle.tree.proofs.Frames.{expr_same}
use Rattle.tree.proofs.Forms.{put_assign}
use Rattle.expressions.specs.Reads.{Runs, PrimaryDid, ExpressionDid}
use Rattle.expressions.proofs.Tokens.{key_becomes}
use Rattle.expressions.proofs.Steps.{next}
use Rattle.expressions.proofs.Nodes.{both_same, put_same}
use Rattle.statements.specs.Lists.{AssignmentDid}
use Rattle.statements.proofs.Rooms.{Spare, ended}
use Rattle.statements.proofs.Runs.{made, runs_bad, runs_good}
use Rattle.statements.proofs.Ways.{expect_bad, expect_good}

module _ (D : ℕ → Stmts → Stmts) (t : List ℕ) (at : ℕ) (C : ℕ → Expr) where
  -- behind the target, whose words go on with us
  abbrev target : Expr → ℕ → List Token → List Token → Answer (Read (Stmts → Stmts))
  target a f us vs = R.expression f 0 1 vs >>= λ e. ok (S.assign a (R.here us) e.it) e.rest

  abbrev targets : ℕ → List Token → Read Expr → Answer (Read (Stmts → Stmts))
  targets f ts a = R.expect ":=" a.rest >>= target a.it f a.rest

  module _ (q : Parsed) (x : Runs C t at 1 1 (λ f ts. R.primary f 0 ts) (Ok q)) (w : Word) (i : IsWord t q.at w) where
    none_says : (w.class ≡ 54 → ⊥) → Runs D t at 1 10 (λ f ts. R.assignment f ts) (Err (refusal BadShape w.at))
    none_says ec =
        runs_good D t at 1 10 C 1 1 (λ f ts. R.primary f 0 ts) targets (omega arith) q x 0 10 _ (omega arith) (omega arith)
        (λ ts h. expect_bad D t q.at 0 10 w i ":=" 54 key_becomes (target (C q.root)) ec)

    module _ (ec : w.class ≡ 54) (B : ℕ → Expr) where
      half_says : (y : Refusal) → Runs B t w.end 1 5 (λ f ts. R.expression f 0 1 ts) (Err y) → Runs D t at 1 10 (λ f ts. R.assignment f ts) (Err y)
      half_says y z =
          runs_good D t at 1 10 C 1 1 (λ f ts. R.primary f 0 ts) targets (omega arith) q x 0 10 (Err y) (omega arith) (omega arith)
          (λ ts h. expect_good D t q.at 0 10 w i ":=" 54 key_becomes (target (C q.root)) (Err y) 0 10 ec refl (omega arith) (omega arith)
          (λ us b. runs_bad D t w.end 0 10 B 1 5 (λ f ts. R.expression f 0 1 ts) (λ f vs e. ok (S.assign (C q.root) (R.here us) e.it) e.rest) (omega arith) y z))

      good_says : (o : Parsed) → Runs B t w.end 1 5 (λ f ts. R.expression f 0 1 ts) (Ok o) → (m : ℕ) → D m ≡ S.assign (C q.root) w.at (B o.root)
          → Runs D t at 1 10 (λ f ts. R.assignment f ts) (Ok (record { at = o.at; count = m; root = m }))
      good_says o z m d =
          runs_good D t at 1 10 C 1 1 (λ f ts. R.primary f 0 ts) targets (omega arith) q x 0 10 _ (omega arith) (omega arith)
          (λ ts h. expect_good D t q.at 0 10 w i ":=" 54 key_becomes (target (C q.root)) _ 0 10 ec refl (omega arith) (omega arith)
          (λ us b. runs_good D t w.end 0 10 B 1 5 (λ f ts. R.expression f 0 1 ts) (λ f vs e. ok (S.assign (C q.root) (R.here us) e.it) e.rest) (omega arith) o z 0 10 _ (omega arith) (omega arith)
          (λ vs v. made D t o.at 10 (S.assign (C q.root) (R.here us) (B o.root)) m m
          (d ∙ ap (λ p. S.assign (C q.root) p (B o.root)) (sym (next t q.at w i us b).here)))))

module _ {t old mid : List ℕ} {at n : ℕ} where
  module _ {x : Parsed} (X : PrimaryDid t old mid at 0 n (Ok x)) {w : Word} (i : IsWord t x.at w) where
    pub assignment_none : (w.class ≡ 54 → ⊥) → AssignmentDid t old mid at n (Err (refusal BadShape w.at))
    assignment_none e =
        record {
          within = omega (arith, X.within, i.from, i.on, i.to);
          same = X.same;
          runs = none_says (front_at t mid) t at (expr_at t mid) x X.runs w i e;
        }

    module _ (e : w.class ≡ 54) {new : List ℕ} where
      pub assignment_half : {y : Refusal} → ExpressionDid t mid new w.end 1 0 x.count (Err y) → AssignmentDid t old new at n (Err y)
      assignment_half {y} B =
          record {
            within = omega (arith, X.within, i.from, i.on, B.within);
            same = both_same n x.count old mid new X.same X.within.more B.same;
            runs = half_says (front_at t new) t at (expr_at t mid) x X.runs w i e (expr_at t new) y B.runs;
          }

      pub assignment_good : {b : Parsed} → ExpressionDid t mid new w.end 1 0 x.count (Ok b) → {last : List ℕ} → Spare t new at n b.at b.count
          → last ≡ written new (b.count + 1) 40 x.root b.root w.at
          → AssignmentDid t old last at n (Ok (record { at = b.at; count = b.count + 1; root = b.count + 1 }))
      assignment_good {b} B {last} free en =
          let m = b.count + 1 in
          record {
            within = ended free;
            same = put_same n m 40 x.root b.root w.at old new last (both_same n x.count old mid new X.same X.within.more B.same) (omega (arith, free)) en;
            runs = good_says (front_at t last) t at (expr_at t mid) x X.runs w i e (expr_at t new) b B.runs m
                (ap (λ p. front_at t p m) en
                ∙ fun_ext (λ k. put_assign t new m x.root b.root w.at (omega arith) free.pool k (omega (arith, X.within, B.within)) (omega (arith, B.within)))
                ∙ ap (λ a. S.assign a w.at (expr_at t new b.root)) (expr_same t mid new x.count x.root B.same X.within.rooted));
          }
