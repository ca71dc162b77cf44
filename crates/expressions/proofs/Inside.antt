-- An expression in brackets, round or square: what is read from the bracket on is what the code answers, one law for each way on.
use mathlib.Core.Path.{◌≡◌}
use mathlib.Core.List.{List}
use Prim.Native.String.{String}
use Prim.Native.Nat.{ℕ, ◌+◌, ◌≤◌, ◌<◌}
use native.Mathlib.Omega.{arith}
use Rattle.std.specs.Prelude.{Result, Ok, Err}
use Rattle.paper.specs.declared.Refusal.{Refusal}
use Rattle.paper.specs.Refusals.{Answer}
use Rattle.paper.specs.Words.{Token}
use Rattle.paper.specs.Source.{Expr}
use Rattle.paper.specs.Reading.{Read}
use Rattle.words.specs.declared.Word.{Word}
use Rattle.words.specs.Denoted.{IsWord}
use Rattle.tree.specs.Nodes.{Same}
use Rattle.tree.specs.Trees.{expr_at}
use Rattle.expressions.specs.declared.Parsed.{Parsed}
use Rattle.expressions.specs.Reads.{Runs, DidFrom, ExpressionDid, ExpectDid, KeyIs}
use Rattle.expressions.proofs.Answers.{closed, closed_bad, closed_open, closed_good}

-- the bracket is the word w; S reads from it on what `closed` reads behind it
module _ (t old : List ℕ) (from at nest n e : ℕ) (w : Word) (i : IsWord t at w) (on : w.at < w.end) (l : from ≤ at) (s : String) (mk : Expr → Expr)
    (S : ℕ → List Token → Answer (Read Expr))
    (go : (D : ℕ → Expr) (r : Result Parsed Refusal) → Runs D t w.end 1 5 (λ f ts. closed f nest s mk ts) r → Runs D t at e 0 S r) (mid : List ℕ) where
  pub inside_bad : (y : Refusal) → ExpressionDid t old mid w.end 1 (nest + 1) n (Err y) → DidFrom (expr_at t) t old mid from at n e 0 S (Err y)
  inside_bad y x = record {
    within = omega (arith, x.within, i.from);
    same = x.same;
    runs = go (expr_at t mid) (Err y) (closed_bad t w.end nest (expr_at t mid) (expr_at t mid) s mk y x.runs);
  }

  module _ (q : Parsed) (x : ExpressionDid t old mid w.end 1 (nest + 1) n (Ok q)) (c : ℕ) (key : KeyIs s c) where
    pub inside_open : (y : Refusal) → ExpectDid t q.at c (Err y) → DidFrom (expr_at t) t old mid from at n e 0 S (Err y)
    inside_open y E = record {
      within = omega (arith, x.within, E.within, i.from);
      same = x.same;
      runs = go (expr_at t mid) (Err y) (closed_open t w.end nest (expr_at t mid) (expr_at t mid) s mk q x.runs c key y E);
    }

    -- k nodes then, at most one more than before, and the tree at m
    pub inside_good : (p : ℕ) → ExpectDid t q.at c (Ok p) → (new : List ℕ) (k m : ℕ) → Same n old new → q.count ≤ k → k ≤ q.count + 1 → m ≤ k
        → expr_at t new m ≡ mk (expr_at t mid q.root) → DidFrom (expr_at t) t old new from at n e 0 S (Ok (record { at = p; count = k; root = m }))
    inside_good p E new k m same a b u h = record {
      within = omega (arith, x.within, E.within, i.from);
      same = same;
      runs = go (expr_at t new) _ (closed_good t w.end nest (expr_at t mid) (expr_at t new) s mk q x.runs c key p E m k h);
    }
