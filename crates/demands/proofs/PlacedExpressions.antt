-- What holds of the words' places holds of all places of an expression that is read, and of a refusal's.
use mathlib.Core.Bool.{Bool, true, false, cond}
use mathlib.Core.List.{List}
use Prim.Native.Nat.{ℕ, zero, suc}
use lib.Dec.{leb, ltb}
use lib.IntN.{pos}
use Rattle.paper.specs.declared.Why.TheVariants.{TooDeep}
use Rattle.paper.specs.Refusals.{refused, given, ◌>>=◌}
use Rattle.paper.specs.Words as W
use Rattle.paper.specs.Words.{Token, Word}
use Rattle.paper.specs.Source as S
use Rattle.paper.specs.Source.{Name, Expr}
use Rattle.paper.specs.Reading as R
use Rattle.paper.specs.Reading.{ok, here, behind}
use Rattle.demands.proofs.Placed.{Words, Expression, Answers, stopped, gave, Reads, then, of_two, of_option, here_at, behind_at, expect_at}

module _ (P : ℕ → Type 0) where
  opened_at : (nest : ℕ) {ts : List Token} → Words P ts → Answers P (Words P) (R.opened nest ts)
  opened_at nest {ts} h = go (ltb nest 64)
    where
      go : (b : Bool) → Answers P (Words P) (cond b (given (behind ts)) (refused TooDeep (here ts)))
      go true = gave (behind_at h)
      go false = stopped (here_at h)

  -- a primary by its first word
  primary_by : (f nest : ℕ) (ts : List Token) → Words P ts
      → ((s : Name) → Reads P (Expression P) (R.named f nest ts s))
      → Reads P (Expression P) (R.bracketed f nest (behind ts))
      → Reads P (Expression P) (R.bracketed f nest ts)
      → Reads P (Expression P) (R.primary (suc f) nest ts)
  unfolding R.primary
  primary_by f nest ts h name arg bracket = go (R.next ts)
    where
      go : (w : Word)
          → Reads P (Expression P)
          (elim w [
            | W.name s ↦ R.named f nest ts s
            | W.number n ↦ ok (S.number (here ts) (pos n)) (behind ts)
            | W.truth b ↦ ok (S.truth (here ts) b) (behind ts)
            | W.type t ↦ R.broken ts
            | W.conversion t u ↦ (R.bracketed f nest (behind ts) >>= λ e. ok (S.conversion (here ts) t u e.it) e.rest)
            | W.operator o ↦ R.broken ts
            | W.key k ↦ (R.bracketed f nest ts >>= λ e. ok (S.brackets (here ts) e.it) e.rest)
            | W.ending ↦ R.broken ts
          ])
      go (W.name s) = name s
      go (W.number n) = gave (here_at h, behind_at h)
      go (W.truth b) = gave (here_at h, behind_at h)
      go (W.type t) = stopped (here_at h)
      go (W.conversion t u) = then arg λ e he. gave ((here_at h, he.0), he.1)
      go (W.operator o) = stopped (here_at h)
      go (W.key k) = then bracket λ e he. gave ((here_at h, he.0), he.1)
      go W.ending = stopped (here_at h)

  mutual
    unfolding R.operand

    operand_at : (f nest : ℕ) {ts : List Token} → Words P ts → Reads P (Expression P) (R.operand f nest ts)
    operand_at zero nest h = stopped (here_at h)
    operand_at (suc f) nest {ts} h =
        let signed = primary_at f nest (behind_at h) in
        of_two (R.sees "-" ts)
        (of_option (R.a_number (R.next (behind ts)))
        (then signed λ e he. gave ((here_at h, he.0), he.1))
        (λ n. gave (here_at h, behind_at (behind_at h))))
        (of_two (R.sees "NOT" ts) (then signed λ e he. gave ((here_at h, he.0), he.1)) (primary_at f nest h))

    pub primary_at : (f nest : ℕ) {ts : List Token} → Words P ts → Reads P (Expression P) (R.primary f nest ts)
    primary_at zero nest h = stopped (here_at h)
    primary_at (suc f) nest {ts} h =
        primary_by f nest ts h (λ s. named_at f nest s h) (bracketed_at f nest (behind_at h)) (bracketed_at f nest h)

    named_at : (f nest : ℕ) (s : Name) {ts : List Token} → Words P ts → Reads P (Expression P) (R.named f nest ts s)
    named_at zero nest s h = stopped (here_at h)
    named_at (suc f) nest s {ts} h =
        of_two (R.sees "[" (behind ts))
        (then (opened_at nest (behind_at h)) λ os ho.
        then (expression_at f (suc nest) 1 ho) λ i hi.
        then (expect_at "]" hi.1) λ cs hc.
        gave ((here_at h, here_at (behind_at h), hi.0), hc))
        (gave (here_at h, behind_at h))

    bracketed_at : (f nest : ℕ) {ts : List Token} → Words P ts → Reads P (Expression P) (R.bracketed f nest ts)
    bracketed_at zero nest h = stopped (here_at h)
    bracketed_at (suc f) nest {ts} h =
        of_two (R.sees "(" ts)
        (then (opened_at nest h) λ os ho.
        then (expression_at f (suc nest) 1 ho) λ e he.
        then (expect_at ")" he.1) λ cs hc.
        gave (he.0, hc))
        (stopped (here_at h))

    pub expression_at : (f nest least : ℕ) {ts : List Token} → Words P ts → Reads P (Expression P) (R.expression f nest least ts)
    expression_at zero nest least h = stopped (here_at h)
    expression_at (suc f) nest least h = then (operand_at f nest h) λ e he. joined_at f nest least e.it he.0 he.1

    joined_at : (f nest least : ℕ) (e : Expr) → Expression P e → {ts : List Token} → Words P ts
        → Reads P (Expression P) (R.joined f nest least e ts)
    joined_at zero nest least e he h = stopped (here_at h)
    joined_at (suc f) nest least e he {ts} h =
        of_option (R.an_operator (R.next ts)) (gave (he, h)) λ o.
        of_two (leb least (R.level o))
        (then (expression_at f nest (suc (R.level o)) (behind_at h)) λ r hr.
        joined_at f nest least (S.binary (here ts) o e r.it) (here_at h, he, hr.0) hr.1)
        (gave (he, h))
