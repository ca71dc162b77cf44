-- Laws of joining operands by operators, one for each way on.
use mathlib.Core.Path.{◌≡◌, refl, ap, ◌∙◌}
use mathlib.Core.Bool.{false}
use mathlib.Core.Option.{some}
use mathlib.Core.List.{List}
use Prim.Native.Nat.{ℕ, zero, suc, ◌+◌, ◌≤◌, ◌<◌}
use native.Mathlib.Omega.{arith}
use native.Mathlib.Numerals.{add-one}
use lib.Dec.{eqb}
use lib.ListN.{length}
use borrow.Author.Tests.{le-leb, lt-leb}
use Rattle.std.specs.Prelude.{Option, None, Some, IfSome, Result, Ok, Err}
use Rattle.paper.specs.declared.Op.{Op}
use Rattle.paper.specs.declared.Refusal.{Refusal}
use Rattle.paper.specs.Refusals.{given, ◌>>=◌}
use Rattle.paper.specs.Words.{Token}
use Rattle.paper.specs.Source as S
use Rattle.paper.specs.Source.{Expr}
use Rattle.paper.specs.Reading as R
use Rattle.paper.specs.Reading.{ok}
use Rattle.words.specs.declared.Word.{Word}
use Rattle.words.specs.Denoted.{words_at, IsWord}
use Rattle.expressions.specs.declared.Parsed.{Parsed}
use Rattle.expressions.specs.Reads.{Runs, maybe, IsOperator}
use Rattle.expressions.proofs.Answers.{weaken, done, bind_bad, bind_good}
use Rattle.expressions.proofs.Steps.{next, passed}

-- ---- expression: an operand, and what joins it

module _ (t : List ℕ) (at least nest : ℕ) (C D : ℕ → Expr) where
  pub expression_bad : (y : Refusal) → Runs C t at 1 3 (λ f ts. R.operand f nest ts) (Err y) → Runs D t at 1 5 (λ f ts. R.expression f nest least ts) (Err y)
  unfolding R.operand
  expression_bad y x ts h zero l = absurd (omega arith)
  expression_bad y x ts h (suc f) l = bind_bad D t 1 (length ts) C 1 (length ts) (R.operand f nest ts) _ y (x ts h f (omega arith))

  pub expression_good : (q : Parsed) → Runs C t at 1 3 (λ f ts. R.operand f nest ts) (Ok q) → (r : Result Parsed Refusal)
      → Runs D t q.at 0 4 (λ f ts. R.joined f nest least (C q.root) ts) r → Runs D t at 1 5 (λ f ts. R.expression f nest least ts) r
  unfolding R.operand
  expression_good q x r y ts h zero l = absurd (omega arith)
  expression_good q x r y ts h (suc f) l =
      bind_good D t 1 (length ts) C 1 (length ts) (R.operand f nest ts) (λ e. R.joined f nest least e.it e.rest) q r (x ts h f (omega arith))
      (λ us w g. weaken D t 1 (length ts) 0 (length us) (R.joined f nest least (C q.root) us) r (omega arith) (y us w f (omega arith)))

-- ---- what joins an operand

module _ (f nest least : ℕ) (e : Expr) (ts : List Token) where
  joined_0 : (x : Option Op) → R.an_operator (R.next ts) ≡ maybe x → IfSome x (λ p. R.level p < least) → R.joined (suc f) nest least e ts ≡ ok e ts
  unfolding R.operand
  joined_0 None h l = rw (h, R.joined)
  joined_0 (Some p) h l = rw (h, lt-leb least (R.level p) l, R.joined)

  joined_1 : (p : Op) → R.an_operator (R.next ts) ≡ some p → least ≤ R.level p
      → R.joined (suc f) nest least e ts
      ≡ (R.expression f nest (suc (R.level p)) (R.behind ts) >>= λ a. R.joined f nest least (S.binary (R.here ts) p e a.it) a.rest)
  unfolding R.operand
  joined_1 p h l = rw (h, le-leb least (R.level p) l, R.joined)

module _ (t : List ℕ) (at least nest : ℕ) (w : Word) (i : IsWord t at w) where
  operator_here : (o : Option Op) → IsOperator w.class o → (ts : List Token) → words_at t at ≡ given ts → R.an_operator (R.next ts) ≡ maybe o
  operator_here o k ts h = ap R.an_operator (next t at w i ts h).next ∙ k _ _

  pub joined_stop : (o : Option Op) → IsOperator w.class o → IfSome o (λ p. R.level p < least) → (D : ℕ → Expr) (n left : ℕ)
      → Runs D t at 0 4 (λ f ts. R.joined f nest least (D left) ts) (Ok (record { at = at; count = n; root = left }))
  joined_stop o k g D n left ts h zero z = absurd (omega arith)
  joined_stop o k g D n left ts h (suc f) z =
      rw (joined_0 f nest least (D left) ts o (operator_here o k ts h) g) (done D t 0 (length ts) (D left) ts at n left refl h (omega arith))

  module _ (p : Op) (k : IsOperator w.class (Some p)) (l : ℕ) (el : l ≡ R.level p) (g : least ≤ l) (e : Expr) (C D : ℕ → Expr) (v : eqb w.class 0 ≡ false) where
    joined_step : (f : ℕ) (ts : List Token) → words_at t at ≡ given ts
        → R.joined (suc f) nest least e ts
        ≡ (R.expression f nest (l + 1) (R.behind ts) >>= λ a. R.joined f nest least (S.binary w.at p e a.it) a.rest)
    joined_step f ts h =
        rw (← (next t at w i ts h).here, add-one l, el) (joined_1 f nest least e ts p (operator_here (Some p) k ts h) (omega arith))

    pub joined_bad : (y : Refusal) → Runs C t w.end 1 5 (λ f ts. R.expression f nest (l + 1) ts) (Err y)
        → Runs D t at 0 4 (λ f ts. R.joined f nest least e ts) (Err y)
    joined_bad y x ts h zero z = absurd (omega arith)
    joined_bad y x ts h (suc f) z =
        let b = passed t at w i ts h w.class refl v in
        rw (joined_step f ts h)
        (bind_bad D t 0 (length ts) C 1 (length (R.behind ts)) (R.expression f nest (l + 1) (R.behind ts)) _ y (x (R.behind ts) b.0 f (omega arith)))

    pub joined_good : (q : Parsed) → Runs C t w.end 1 5 (λ f ts. R.expression f nest (l + 1) ts) (Ok q)
        → (r : Result Parsed Refusal) (a : Expr) → a ≡ S.binary w.at p e (C q.root)
        → Runs D t q.at 0 4 (λ f ts. R.joined f nest least a ts) r → Runs D t at 0 4 (λ f ts. R.joined f nest least e ts) r
    joined_good q x r a u j ts h zero z = absurd (omega arith)
    joined_good q x r a u j ts h (suc f) z =
        let us = R.behind ts in
        let b = passed t at w i ts h w.class refl v in
        rw (joined_step f ts h)
        (bind_good D t 0 (length ts) C 1 (length us) (R.expression f nest (l + 1) us)
        (λ a. R.joined f nest least (S.binary w.at p e a.it) a.rest) q r (x us b.0 f (omega arith))
        (λ vs v s. weaken D t 0 (length ts) 0 (length vs) (R.joined f nest least (S.binary w.at p e (C q.root)) vs) r (omega arith) (rw (← u) (j vs v f (omega arith)))))
