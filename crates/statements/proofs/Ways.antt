-- Ways on by the class of the next word.
use mathlib.Core.Path.{◌≡◌, sym, subst}
use mathlib.Core.Bool.{Bool, true, false}
use mathlib.Core.Option.{none, some}
use mathlib.Core.List.{List}
use Prim.Native.Nat.{ℕ, ◌+◌, ◌≤◌}
use Prim.Native.String.{String}
use native.Mathlib.Omega.{arith}
use lib.Dec.{eqb}
use lib.ListN.{length}
use borrow.Author.Tests.{ne_eqb}
use Rattle.std.specs.Prelude.{Result, Err}
use Rattle.paper.specs.declared.Refusal.{Refusal}
use Rattle.paper.specs.declared.Why.TheVariants.{BadShape}
use Rattle.paper.specs.Refusals.{Answer, given, refusal, ◌>>=◌}
use Rattle.paper.specs.Words.{Token}
use Rattle.paper.specs.Reading as R
use Rattle.paper.specs.Reading.{Read}
use Rattle.words.specs.declared.Word.{Word}
use Rattle.words.specs.Denoted.{words_at, IsWord}
use Rattle.tree.specs.Trees.{name_at}
use Rattle.expressions.specs.declared.Parsed.{Parsed}
use Rattle.expressions.specs.Reads.{Answered, Runs, KeyIs}
use Rattle.expressions.proofs.Tokens.{name_class, name_here}
use Rattle.expressions.proofs.Answers.{weaken}
use Rattle.expressions.proofs.Steps.{next, sees_it, sees_other, passed, here}

module _ (t : List ℕ) (at : ℕ) (w : Word) (i : IsWord t at w) (ts : List Token) (h : words_at t at ≡ given ts) where
  pub a_name_lem : w.class ≡ 1 → R.a_name (R.next ts) ≡ some (name_at t w.at)
  a_name_lem e = rw (name_here t at ts w i h e)

  pub no_name : (w.class ≡ 1 → ⊥) → R.a_name (R.next ts) ≡ none
  no_name e = rw ((next t at w i ts h).next, name_class w.class, ne_eqb w.class 1 e)

module _ {A : Type 0} (D : ℕ → A) (t : List ℕ) (at e k : ℕ) (w : Word) (i : IsWord t at w) where
  -- behind the word
  pub runs_behind : (g : ℕ → List Token → List Token → Answer (Read A)) (c j a : ℕ) (r : Result Parsed Refusal) → w.class ≡ c → eqb c 0 ≡ false → e ≤ j + 1 → a ≤ k + 16
      → ((ts : List Token) → words_at t at ≡ given ts → Runs D t w.end j a (λ f us. g f ts us) r) → Runs D t at e k (λ f ts. g f ts (R.behind ts)) r
  runs_behind g c j a r ec z le la y ts h f l =
      let b = passed t at w i ts h c ec z in
      weaken D t e (length ts) j (length (R.behind ts)) (g f ts (R.behind ts)) r (omega arith) (y ts h (R.behind ts) b.0 f (omega arith))

  module _ (s : String) (c : ℕ) (key : KeyIs s c) (x y : ℕ → List Token → Answer (Read A)) (r : Result Parsed Refusal) where
    pub runs_sees : w.class ≡ c → Runs D t at e k x r → Runs D t at e k (λ f ts. elim (R.sees s ts) [ true ↦ x f ts | false ↦ y f ts ]) r
    runs_sees ec a ts h f l = rw (sees_it t at w i ts h s c key ec) (a ts h f l)

    pub runs_other : (w.class ≡ c → ⊥) → Runs D t at e k y r → Runs D t at e k (λ f ts. elim (R.sees s ts) [ true ↦ x f ts | false ↦ y f ts ]) r
    runs_other ec a ts h f l = rw (sees_other t at w i ts h s c key ec) (a ts h f l)

  -- a key that must come next
  abbrev expected : List Token → Bool → Answer (List Token)
  expected ts b = elim b [ true ↦ given (R.behind ts) | false ↦ R.broken ts ]

  module _ (s : String) (c : ℕ) (key : KeyIs s c) (g : ℕ → List Token → List Token → Answer (Read A)) where
    pub expect_bad : (w.class ≡ c → ⊥) → Runs D t at e k (λ f ts. R.expect s ts >>= g f ts) (Err (refusal BadShape w.at))
    expect_bad ec ts h f l =
        subst (λ b. Answered D t e (length ts) (expected ts b >>= g f ts) (Err (refusal BadShape w.at))) (sym (sees_other t at w i ts h s c key ec)) (here t at w i ts h BadShape)

    pub expect_good : (r : Result Parsed Refusal) (j a : ℕ) → w.class ≡ c → eqb c 0 ≡ false → e ≤ j + 1 → a ≤ k + 16
        → ((ts : List Token) → words_at t at ≡ given ts → Runs D t w.end j a (λ f us. g f ts us) r)
        → Runs D t at e k (λ f ts. R.expect s ts >>= g f ts) r
    expect_good r j a ec z le la y ts h f l =
        subst (λ b. Answered D t e (length ts) (expected ts b >>= g f ts) r) (sym (sees_it t at w i ts h s c key ec)) (runs_behind g c j a r ec z le la y ts h f l)
