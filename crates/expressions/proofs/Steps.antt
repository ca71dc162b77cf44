-- Laws of the answers of reading an expression: one for each way on, in the code's own terms.
use mathlib.Core.Path.{◌≡◌, refl, ap, ◌∙◌}
use mathlib.Core.Bool.{true, false}
use mathlib.Core.Option.{none, some}
use mathlib.Core.List.{List, ◌∷◌}
use Prim.Native.Nat.{ℕ, zero, suc, ◌≤◌, ◌<◌}
use Prim.Native.String.{String}
use native.Mathlib.Omega.{arith}
use lib.Dec.{eqb}
use lib.IntN.{pos, neg_ℤ}
use lib.ListN.{length}
use borrow.Author.Tests.{eq-eqb, ne_eqb, lt-ltb, le-ltb}
use Rattle.std.specs.Prelude.{Result, Ok, Err}
use Rattle.paper.specs.declared.Refusal.{Refusal}
use Rattle.paper.specs.declared.Why.{Why}
use Rattle.paper.specs.declared.Why.TheVariants.{BadShape, TooDeep}
use Rattle.paper.specs.Refusals.{given, refusal, ◌>>=◌}
use Rattle.paper.specs.Words.{Token, bytes}
use Rattle.paper.specs.Source as S
use Rattle.paper.specs.Source.{Expr}
use Rattle.paper.specs.Reading as R
use Rattle.paper.specs.Reading.{ok}
use Rattle.words.specs.declared.Word.{Word}
use Rattle.words.specs.Denoted.{words_at, IsWord}
use Rattle.expressions.specs.declared.Parsed.{Parsed}
use Rattle.expressions.specs.Reads.{Runs, KeyIs, unary}
use Rattle.expressions.proofs.Tokens.{Next, next_of, key_round, key_square, key_minus, key_not, number_class}
use Rattle.expressions.proofs.Answers.{weaken, done, closed}

-- ---- the next word

module _ (t : List ℕ) (at : ℕ) (w : Word) (i : IsWord t at w) (ts : List Token) (h : words_at t at ≡ given ts) where
  pub next : Next t ts w
  next = next_of t at ts w i h

  pub sees_it : (s : String) (c : ℕ) → KeyIs s c → w.class ≡ c → R.sees s ts ≡ true
  sees_it s c k e = ap (R.is_key (bytes s)) next.next ∙ k _ _ _ ∙ eq-eqb _ _ e

  pub sees_other : (s : String) (c : ℕ) → KeyIs s c → (w.class ≡ c → ⊥) → R.sees s ts ≡ false
  sees_other s c k e = ap (R.is_key (bytes s)) next.next ∙ k _ _ _ ∙ ne_eqb _ _ e

  -- of a class that is no ending's, the word is passed
  pub passed : (c : ℕ) → w.class ≡ c → eqb c 0 ≡ false
      → (words_at t w.end ≡ given (R.behind ts)) × (length ts ≡ suc (length (R.behind ts)))
  passed c e z = (next.behind (rw e z), next.less (rw e z))

  pub a_number_lem : w.class ≡ 2 → R.a_number (R.next ts) ≡ some w.value
  a_number_lem e = rw (next.next, number_class w.class, eq-eqb w.class 2 e)

  pub no_number : (w.class ≡ 2 → ⊥) → R.a_number (R.next ts) ≡ none
  no_number e = rw (next.next, number_class w.class, ne_eqb w.class 2 e)

  -- refused at it
  pub here : {T : Type 0} (y : Why) → ◌≡◌ {A = Result T Refusal} (Err (refusal y w.at)) (Err (refusal y (R.here ts)))
  here y = rw next.here

-- ---- brackets

module _ (f nest : ℕ) (ts : List Token) where
  pub bracketed_0 : R.sees "(" ts ≡ false → R.bracketed (suc f) nest ts ≡ R.broken ts
  unfolding R.operand
  bracketed_0 e = rw (e, R.bracketed)

  bracketed_1 : R.sees "(" ts ≡ true → R.bracketed (suc f) nest ts ≡ (R.opened nest ts >>= λ us. closed f nest ")" (λ x. x) us)
  unfolding R.operand
  bracketed_1 e = rw (e, R.bracketed)

module _ (t : List ℕ) (at nest : ℕ) (w : Word) (i : IsWord t at w) (D : ℕ → Expr) where
  pub bracketed_other : (w.class ≡ 62 → ⊥) → Runs D t at 1 0 (λ f ts. R.bracketed f nest ts) (Err (refusal BadShape w.at))
  bracketed_other e ts h zero l = absurd (omega arith)
  bracketed_other e ts h (suc f) l =
      rw (bracketed_0 f nest ts (sees_other t at w i ts h "(" 62 key_round e)) (here t at w i ts h BadShape)

  module _ (e : w.class ≡ 62) where
    pub bracketed_deep : 64 ≤ nest → Runs D t at 1 0 (λ f ts. R.bracketed f nest ts) (Err (refusal TooDeep w.at))
    bracketed_deep d ts h zero l = absurd (omega arith)
    bracketed_deep d ts h (suc f) l =
        rw (bracketed_1 f nest ts (sees_it t at w i ts h "(" 62 key_round e), le-ltb nest 64 d) (here t at w i ts h TooDeep)

    pub bracketed_on : (r : Result Parsed Refusal) → nest < 64 → Runs D t w.end 1 5 (λ f ts. closed f nest ")" (λ x. x) ts) r
        → Runs D t at 1 0 (λ f ts. R.bracketed f nest ts) r
    bracketed_on r d x ts h zero l = absurd (omega arith)
    bracketed_on r d x ts h (suc f) l =
        let b = passed t at w i ts h 62 e refl in
        rw (bracketed_1 f nest ts (sees_it t at w i ts h "(" 62 key_round e), lt-ltb nest 64 d)
        (weaken D t 1 (length ts) 1 (length (R.behind ts)) (closed f nest ")" (λ x. x) (R.behind ts)) r (omega arith) (x (R.behind ts) b.0 f (omega arith)))

-- ---- names

module _ (f nest : ℕ) (k : Token) (ts : List Token) (s : S.Name) where
  named_0 : R.sees "[" ts ≡ false → R.named (suc f) nest (k ∷ ts) s ≡ ok (S.variable k.place s) ts
  unfolding R.operand
  named_0 e = rw (e, R.named)

  named_1 : R.sees "[" ts ≡ true
      → R.named (suc f) nest (k ∷ ts) s ≡ (R.opened nest ts >>= λ us. closed f nest "]" (S.element k.place s (R.here ts)) us)
  unfolding R.operand
  named_1 e = rw (e, R.named)

module _ (t : List ℕ) (at nest : ℕ) (w : Word) (i : IsWord t at w) (k : Token) (s : S.Name) (D : ℕ → Expr) where
  pub named_plain : (m : ℕ) → (w.class ≡ 64 → ⊥) → D m ≡ S.variable k.place s
      → Runs D t at 0 0 (λ f ts. R.named f nest (k ∷ ts) s) (Ok (record { at = at; count = m; root = m }))
  named_plain m e d ts h zero l = absurd (omega arith)
  named_plain m e d ts h (suc f) l =
      rw (named_0 f nest k ts s (sees_other t at w i ts h "[" 64 key_square e))
      (done D t 0 (length ts) _ ts at m m d h (omega arith))

  module _ (e : w.class ≡ 64) where
    pub named_deep : 64 ≤ nest → Runs D t at 0 0 (λ f ts. R.named f nest (k ∷ ts) s) (Err (refusal TooDeep w.at))
    named_deep d ts h zero l = absurd (omega arith)
    named_deep d ts h (suc f) l =
        rw (named_1 f nest k ts s (sees_it t at w i ts h "[" 64 key_square e), le-ltb nest 64 d) (here t at w i ts h TooDeep)

    pub named_on : (r : Result Parsed Refusal) → nest < 64 → Runs D t w.end 1 5 (λ f ts. closed f nest "]" (S.element k.place s w.at) ts) r
        → Runs D t at 0 0 (λ f ts. R.named f nest (k ∷ ts) s) r
    named_on r d x ts h zero l = absurd (omega arith)
    named_on r d x ts h (suc f) l =
        let b = passed t at w i ts h 64 e refl in
        rw (named_1 f nest k ts s (sees_it t at w i ts h "[" 64 key_square e), lt-ltb nest 64 d, (next t at w i ts h).here)
        (weaken D t 0 (length ts) 1 (length (R.behind ts)) (closed f nest "]" (S.element k.place s w.at) (R.behind ts)) r (omega arith) (x (R.behind ts) b.0 f (omega arith)))

-- ---- operands

module _ (f nest : ℕ) (ts : List Token) where
  operand_00 : (n : ℕ) → R.sees "-" ts ≡ true → R.a_number (R.next (R.behind ts)) ≡ some n
      → R.operand (suc f) nest ts ≡ ok (S.number (R.here ts) (neg_ℤ (pos n))) (R.behind (R.behind ts))
  unfolding R.operand
  operand_00 n e g = rw (e, g, R.operand)

  operand_01 : R.sees "-" ts ≡ true → R.a_number (R.next (R.behind ts)) ≡ none
      → R.operand (suc f) nest ts ≡ (R.primary f nest (R.behind ts) >>= λ a. ok (S.minus (R.here ts) a.it) a.rest)
  unfolding R.operand
  operand_01 e g = rw (e, g, R.operand)

  operand_10 : R.sees "-" ts ≡ false → R.sees "NOT" ts ≡ true
      → R.operand (suc f) nest ts ≡ (R.primary f nest (R.behind ts) >>= λ a. ok (S.complement (R.here ts) a.it) a.rest)
  unfolding R.operand
  operand_10 e g = rw (e, g, R.operand)

  operand_11 : R.sees "-" ts ≡ false → R.sees "NOT" ts ≡ false → R.operand (suc f) nest ts ≡ R.primary f nest ts
  unfolding R.operand
  operand_11 e g = rw (e, g, R.operand)

module _ (t : List ℕ) (at nest : ℕ) (w : Word) (i : IsWord t at w) (D : ℕ → Expr) where
  module _ (e : w.class ≡ 69) (v : Word) (j : IsWord t w.end v) where
    pub operand_negative : (m : ℕ) → v.class ≡ 2 → D m ≡ S.number w.at (neg_ℤ (pos v.value))
        → Runs D t at 1 3 (λ f ts. R.operand f nest ts) (Ok (record { at = v.end; count = m; root = m }))
    operand_negative m g d ts h zero l = absurd (omega arith)
    operand_negative m g d ts h (suc f) l =
        let us = R.behind ts in
        let b = passed t at w i ts h 69 e refl in
        let a = passed t w.end v j us b.0 2 g refl in
        rw (operand_00 f nest ts v.value (sees_it t at w i ts h "-" 69 key_minus e) (a_number_lem t w.end v j us b.0 g), (next t at w i ts h).here)
        (done D t 1 (length ts) _ _ v.end m m d a.0 (omega arith))

    pub operand_minus : (r : Result Parsed Refusal) → (v.class ≡ 2 → ⊥) → Runs D t w.end 1 1 (λ f ts. R.primary f nest ts >>= λ a. ok (unary 7 w.at a.it) a.rest) r
        → Runs D t at 1 3 (λ f ts. R.operand f nest ts) r
    operand_minus r g x ts h zero l = absurd (omega arith)
    operand_minus r g x ts h (suc f) l =
        let us = R.behind ts in
        let b = passed t at w i ts h 69 e refl in
        rw (operand_01 f nest ts (sees_it t at w i ts h "-" 69 key_minus e) (no_number t w.end v j us b.0 g), (next t at w i ts h).here)
        (weaken D t 1 (length ts) 1 (length us) (R.primary f nest us >>= λ a. ok (unary 7 w.at a.it) a.rest) r (omega arith) (x us b.0 f (omega arith)))

  module _ (e : w.class ≡ 69 → ⊥) where
    pub operand_not : (r : Result Parsed Refusal) → w.class ≡ 28 → Runs D t w.end 1 1 (λ f ts. R.primary f nest ts >>= λ a. ok (unary 8 w.at a.it) a.rest) r
        → Runs D t at 1 3 (λ f ts. R.operand f nest ts) r
    operand_not r g x ts h zero l = absurd (omega arith)
    operand_not r g x ts h (suc f) l =
        let us = R.behind ts in
        let b = passed t at w i ts h 28 g refl in
        rw (operand_10 f nest ts (sees_other t at w i ts h "-" 69 key_minus e) (sees_it t at w i ts h "NOT" 28 key_not g), (next t at w i ts h).here)
        (weaken D t 1 (length ts) 1 (length us) (R.primary f nest us >>= λ a. ok (unary 8 w.at a.it) a.rest) r (omega arith) (x us b.0 f (omega arith)))

    pub operand_plain : (r : Result Parsed Refusal) → (w.class ≡ 28 → ⊥) → Runs D t at 1 1 (λ f ts. R.primary f nest ts) r → Runs D t at 1 3 (λ f ts. R.operand f nest ts) r
    operand_plain r g x ts h zero l = absurd (omega arith)
    operand_plain r g x ts h (suc f) l =
        rw (operand_11 f nest ts (sees_other t at w i ts h "-" 69 key_minus e) (sees_other t at w i ts h "NOT" 28 key_not g)) (x ts h f (omega arith))
