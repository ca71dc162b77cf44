-- The turns of the loop over operators: what follows an operator and its right operand, joined to both, is what follows the left operand.
use mathlib.Core.Path.{◌≡◌, refl, ap, ◌∙◌}
use mathlib.Core.List.{List}
use Prim.Native.Nat.{ℕ, ◌+◌, ◌*◌, ◌≤◌, ◌<◌}
use native.Mathlib.Omega.{arith}
use lib.ListN.{length, get_or}
use Rattle.std.specs.Prelude.{Option, Some, IfSome, Result, Ok, Err}
use Rattle.paper.specs.declared.Op.{Op}
use Rattle.paper.specs.declared.Op.TheVariants.{Or}
use Rattle.paper.specs.declared.Refusal.{Refusal}
use Rattle.paper.specs.Reading as R
use Rattle.paper.specs.Source as S
use Rattle.words.specs.declared.Word.{Word}
use Rattle.words.specs.Denoted.{IsWord}
use Rattle.tree.specs.Nodes.{written}
use Rattle.tree.specs.Trees.{operators, expr_at}
use Rattle.expressions.specs.declared.Parsed.{Parsed}
use Rattle.expressions.specs.Reads.{Ends, IsOperator, ExpressionDid, JoinedDid}
use Rattle.expressions.proofs.Moves.{operator_class, level_small}
use Rattle.expressions.proofs.Nodes.{both_same, put_same, put_joined}
use Rattle.expressions.proofs.Joins.{joined_stop, joined_bad, joined_good}

-- whatever follows the node `root` at `at` is what follows `left` at `from`
abbrev pub Carries : List ℕ → List ℕ → List ℕ → ℕ → ℕ → ℕ → ℕ → ℕ → ℕ → ℕ → ℕ → Type 0
Carries t old mid least nest from at n m left root =
    (new : List ℕ) (r : Result Parsed Refusal) → JoinedDid t mid new at least nest m root r → JoinedDid t old new from least nest n left r

module _ (t old : List ℕ) (at least nest n left : ℕ) (w : Word) (i : IsWord t at w) where
  -- the word is no operator that binds tightly enough
  pub turn_stop : (o : Option Op) → IsOperator w.class o → IfSome o (λ p. R.level p < least) → at ≤ length t → left ≤ n
      → JoinedDid t old old at least nest n left (Ok (record { at = at; count = n; root = left }))
  turn_stop o k g h u = record {
    within = omega arith;
    same = λ j z. refl;
    runs = joined_stop t at least nest w i o k g (expr_at t old) n left;
  }

  module _ (o : Op) (k : IsOperator w.class (Some o)) (l : ℕ) (el : l ≡ R.level o) where
    -- an operator moves on, and binds at most at 7
    pub turn_moves : (w.at < w.end) × (l ≤ 7)
    turn_moves = let c = operator_class w.class o k in (i.moves c.0 c.1, omega (arith, level_small o, el))

    module _ (g : least ≤ l) (mid : List ℕ) where
      -- its right operand is refused
      pub turn_bad : (y : Refusal) → ExpressionDid t old mid w.end (l + 1) nest n (Err y) → JoinedDid t old mid at least nest n left (Err y)
      turn_bad y x = record {
        within = omega (arith, x.within, i.from, turn_moves);
        same = x.same;
        runs = joined_bad t at least nest w i o k l el g (expr_at t old left) (expr_at t mid) (expr_at t mid) (operator_class w.class o k).1 y x.runs;
      }

      -- the two operands are joined at a node of their own, under the operator's number
      pub turn_good : (u : left ≤ n) (q : Parsed) (x : ExpressionDid t old mid w.end (l + 1) nest n (Ok q)) (put : List ℕ) (m : ℕ)
          → get_or operators m Or ≡ o → m < 14 → 4 * (q.count + 1) + 4 ≤ length mid → put ≡ written mid (q.count + 1) (11 + m) left q.root w.at
          → Carries t old put least nest at q.at n (q.count + 1) left (q.count + 1)
      turn_good u q x put m em lm fits e new r y =
          let j = q.count + 1 in
          record {
            within = further r y.within;
            same = both_same n q.count old mid new x.same x.within.more
                (both_same q.count j mid put new (put_same q.count j _ _ _ _ mid mid put (λ j h. refl) (omega arith) e) (omega arith) y.same);
            runs = joined_good t at least nest w i o k l el g (expr_at t old left) (expr_at t mid) (expr_at t new) (operator_class w.class o k).1 q x.runs r _
                (put_joined t mid put j left q.root w.at (omega arith) fits m n old x.same u (omega (arith, x.within)) (omega (arith, x.within)) lm e
                ∙ ap (λ p. S.binary w.at p (expr_at t old left) (expr_at t mid q.root)) em)
                y.runs;
          }
        where
          further : (r : Result Parsed Refusal) → Ends (length t) q.at (q.count + 1) r → Ends (length t) at n r
          further (Ok p) z = omega (arith, x.within, z, i.from, turn_moves)
          further (Err y) z = omega (arith, x.within, z, i.from, turn_moves)
