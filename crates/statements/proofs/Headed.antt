-- An expression, a key and a third part, read under one node: what stands behind IF, ELSIF and CASE.
use mathlib.Core.Path.{◌≡◌}
use mathlib.Core.List.{List}
use Prim.Native.Nat.{ℕ, suc, ◌+◌, ◌≤◌}
use Prim.Native.String.{String}
use native.Mathlib.Omega.{arith}
use Rattle.std.specs.Prelude.{Ok, Err}
use Rattle.paper.specs.declared.Refusal.{Refusal}
use Rattle.paper.specs.Refusals.{Answer, ◌>>=◌}
use Rattle.paper.specs.Words.{Token}
use Rattle.paper.specs.Source.{Expr, Stmts}
use Rattle.paper.specs.Reading as R
use Rattle.paper.specs.Reading.{Read, ok}
use Rattle.tree.specs.Nodes.{written}
use Rattle.tree.specs.Trees.{expr_at, front_at}
use Rattle.expressions.specs.declared.Parsed.{Parsed}
use Rattle.expressions.specs.Reads.{Did, KeyIs, ExpectDid, ExpressionDid}
use Rattle.statements.proofs.Rooms.{Spare, ended}
use Rattle.statements.proofs.Parts.{part, did, stepped, part_bad, part_good, past_bad, past, node}

-- such a definition: its key with the key's class, its third part with the rank of that, and the statement made of the two
pub record Headed (A : Type 0) : Type 0 where
  pub reads : ℕ → List Token → Answer (Read (Stmts → Stmts))
  pub key : String
  pub class : ℕ
  pub is : KeyIs key class
  pub third : ℕ → List Token → Answer (Read A)
  pub rank : ℕ
  pub low : rank ≤ 21
  pub mk : Expr → A → Stmts → Stmts
  pub step : (f : ℕ) (ts : List Token)
      → reads (suc f) ts ≡ (R.expression f 0 1 ts >>= λ c. (R.expect key c.rest >>= λ us. (third f us >>= λ b. ok (mk c.it b.it) b.rest)))

module _ {A : Type 0} (H : Headed A) {t old mid : List ℕ} {at n : ℕ} where
  pub headed_bad : {y : Refusal} → ExpressionDid t old mid at 1 0 n (Err y) → Did (front_at t) t old mid at n 1 11 H.reads (Err y)
  headed_bad C = did C.within (stepped H.step (part_bad (part C) _ 1) (omega arith))

  module _ {c : Parsed} (C : ExpressionDid t old mid at 1 0 n (Ok c)) where
    pub headed_open : {y : Refusal} → ExpectDid t c.at H.class (Err y) → Did (front_at t) t old mid at n 1 11 H.reads (Err y)
    headed_open E =
        did (omega (arith, C.within, E.within)) (stepped H.step (part_good (part C) _ (past_bad H.key H.is E _ 1) (omega arith)) (omega arith))

    module _ {o : ℕ} (E : ExpectDid t c.at H.class (Ok o)) {T : List ℕ → ℕ → A} {new : List ℕ} where
      pub headed_half : {y : Refusal} → Did T t mid new o c.count 1 H.rank H.third (Err y) → Did (front_at t) t old new at n 1 11 H.reads (Err y)
      headed_half B =
          did (omega (arith, C.within, E.within, B.within))
          (stepped H.step (part_good (part C) _ (past H.key H.is E _ (part_bad (part B) _ 1)) (omega (arith, H.low))) (omega arith))

      pub headed_good : {b : Parsed} → Did T t mid new o c.count 1 H.rank H.third (Ok b) → (k p : ℕ) {last : List ℕ} → Spare t new at n b.at b.count
          → last ≡ written new (b.count + 1) k c.root b.root p → front_at t last (b.count + 1) ≡ H.mk (expr_at t mid c.root) (T new b.root)
          → Did (front_at t) t old last at n 1 11 H.reads (Ok (record { at = b.at; count = b.count + 1; root = b.count + 1 }))
      headed_good {b} B k p S e d =
          did (ended S)
          (stepped H.step
          (part_good (part C) _ (past H.key H.is E _ (part_good (part B) _ (node k c.root b.root p e d) (omega arith))) (omega (arith, H.low)))
          (omega arith))
