-- What is read with one node more: a leaf, or a node over what was read.
use mathlib.Core.Path.{◌≡◌, refl}
use mathlib.Core.List.{List}
use Prim.Native.Nat.{ℕ, ◌+◌, ◌≤◌, ◌<◌}
use native.Mathlib.Omega.{arith}
use lib.ListN.{length}
use Rattle.std.specs.Prelude.{Ok}
use Rattle.paper.specs.Refusals.{Answer, ◌>>=◌}
use Rattle.paper.specs.Words.{Token}
use Rattle.paper.specs.Source.{Expr}
use Rattle.paper.specs.Reading.{Read, ok}
use Rattle.tree.specs.Nodes.{written}
use Rattle.tree.specs.Trees.{expr_at}
use Rattle.expressions.specs.declared.Parsed.{Parsed}
use Rattle.expressions.specs.Reads.{Runs, DidFrom}
use Rattle.expressions.proofs.Answers.{under_good}
use Rattle.expressions.proofs.Nodes.{put_same}

module _ (t old new : List ℕ) (from at n e k : ℕ) (s : ℕ → List Token → Answer (Read Expr)) where
  pub leaf_did : (end kind a b c : ℕ) → from < end → end ≤ length t → new ≡ written old (n + 1) kind a b c
      → Runs (expr_at t new) t at e k s (Ok (record { at = end; count = n + 1; root = n + 1 }))
      → DidFrom (expr_at t) t old new from at n e k s (Ok (record { at = end; count = n + 1; root = n + 1 }))
  leaf_did end kind a b c l h w runs = record {
    within = omega arith;
    same = put_same n (n + 1) kind a b c old old new (λ j z. refl) (omega arith) w;
    runs = runs;
  }

module _ (t old mid : List ℕ) (from at n e k : ℕ) (s : ℕ → List Token → Answer (Read Expr)) (mk : Expr → Expr) (l : from ≤ at) where
  -- where what was read leaves room for it
  pub over_good : (q : Parsed) → DidFrom (expr_at t) t old mid at at n e k s (Ok q) → (new : List ℕ) (kind b c : ℕ)
      → q.count + 1 + from ≤ n + q.at → new ≡ written mid (q.count + 1) kind q.root b c → expr_at t new (q.count + 1) ≡ mk (expr_at t mid q.root)
      → DidFrom (expr_at t) t old new from at n e k (λ f ts. s f ts >>= λ a. ok (mk a.it) a.rest) (Ok (record { at = q.at; count = q.count + 1; root = q.count + 1 }))
  over_good q x new kind b c room w h = record {
    within = omega (arith, x.within);
    same = put_same n (q.count + 1) kind q.root b c old mid new x.same (omega (arith, x.within)) w;
    runs = under_good t at e k s (expr_at t mid) (expr_at t new) mk q x.runs (q.count + 1) h;
  }
