-- Laws of reading one statement, by the class of its first word.
use mathlib.Core.Path.{◌≡◌, refl, sym, ap, fun_ext, ◌∙◌}
use mathlib.Core.Bool.{Bool, true, false}
use mathlib.Core.Option.{Option, none, some}
use mathlib.Core.List.{List}
use Prim.Native.Nat.{ℕ, zero, suc, ◌≤◌, ◌<◌}
use native.Mathlib.Omega.{arith}
use lib.Dec.{eqb}
use lib.ListN.{length}
use borrow.Author.Tests.{le-leb, lt-leb}
use Rattle.std.specs.Prelude.{Result, Ok, Err}
use Rattle.paper.specs.declared.Refusal.{Refusal}
use Rattle.paper.specs.declared.Why.TheVariants.{BadShape, TooDeep}
use Rattle.paper.specs.Refusals.{Answer, refused, given, refusal, ◌>>=◌}
use Rattle.paper.specs.Words.{Token}
use Rattle.paper.specs.Source.{Stmts}
use Rattle.paper.specs.Reading as R
use Rattle.paper.specs.Reading.{Read, ok, Start, at_name, at_if, at_case, at_for, at_empty}
use Rattle.words.specs.declared.Word.{Word}
use Rattle.words.specs.Denoted.{words_at, IsWord}
use Rattle.tree.specs.Trees.{front_at}
use Rattle.tree.proofs.Frames.{front_nil}
use Rattle.expressions.specs.declared.Parsed.{Parsed}
use Rattle.expressions.specs.Reads.{Runs, Did}
use Rattle.expressions.proofs.Tokens.{key_if, key_case, key_for}
use Rattle.expressions.proofs.Answers.{weaken, done as ends}
use Rattle.expressions.proofs.Steps.{next, sees_it, sees_other, passed, here}
use Rattle.statements.specs.Lists.{StartsIs, is_some, StatementDid, AssignmentDid, BranchDid, CasesDid, RepeatDid}
use Rattle.expressions.proofs.Reached.{later}
use Rattle.statements.proofs.Starting.{start_some}
use Rattle.statements.proofs.Ways.{a_name_lem, no_name}

module _ (f depth : ℕ) (ts : List Token) where
  abbrev begun : Start → Answer (Read (Stmts → Stmts))
  begun s = elim s [ at_name ↦ R.assignment f ts | at_if ↦ R.branch f depth (R.here ts) (R.here ts) (R.behind ts) | at_case ↦ R.cases f depth (R.here ts) (R.behind ts) | at_for ↦ R.repeat f depth (R.here ts) (R.behind ts) | at_empty ↦ ok (λ k. k) ts ]

  statement_0 : (a : Answer Start) → R.started depth ts ≡ a → R.statement (suc f) depth ts ≡ (a >>= λ s. begun s)
  unfolding R.list
  statement_0 a e = ap (λ x. x >>= λ s. begun s) e

  none_0 : R.start_of ts ≡ none → R.statement (suc f) depth ts ≡ R.broken ts
  none_0 h = statement_0 (R.broken ts) (rw (h, R.started))

  deep_0 : (s : Start) → R.start_of ts ≡ some s → 32 < depth → R.statement (suc f) depth ts ≡ refused TooDeep (R.here ts)
  deep_0 s h l = statement_0 (refused TooDeep (R.here ts)) (rw (h, lt-leb depth 32 l, R.started))

  some_0 : depth ≤ 32 → (s : Start) → R.start_of ts ≡ some s → R.statement (suc f) depth ts ≡ begun s
  some_0 l s h = statement_0 (given s) (rw (h, le-leb depth 32 l, R.started))

-- ---- what a class begins

module _ (t : List ℕ) (at : ℕ) (w : Word) (i : IsWord t at w) (ts : List Token) (h : words_at t at ≡ given ts) where
  start_name : w.class ≡ 1 → R.start_of ts ≡ some at_name
  start_name e = rw (a_name_lem t at w i ts h e, R.start_of)

  start_if : w.class ≡ 11 → R.start_of ts ≡ some at_if
  start_if e = rw (no_name t at w i ts h (λ z. omega arith), sees_it t at w i ts h "IF" 11 key_if e, R.start_of)

  start_case : w.class ≡ 16 → R.start_of ts ≡ some at_case
  start_case e =
      rw (no_name t at w i ts h (λ z. omega arith), sees_other t at w i ts h "IF" 11 key_if (λ z. omega arith), sees_it t at w i ts h "CASE" 16 key_case e, R.start_of)

  start_for : w.class ≡ 18 → R.start_of ts ≡ some at_for
  start_for e =
      rw (no_name t at w i ts h (λ z. omega arith), sees_other t at w i ts h "IF" 11 key_if (λ z. omega arith), sees_other t at w i ts h "CASE" 16 key_case (λ z. omega arith), sees_it t at w i ts h "FOR" 18 key_for e, R.start_of)

  start_empty : (b : Bool) → StartsIs w.class b → b ≡ true → (w.class ≡ 1 → ⊥) → (w.class ≡ 11 → ⊥) → (w.class ≡ 16 → ⊥) → (w.class ≡ 18 → ⊥)
      → R.start_of ts ≡ some at_empty
  start_empty b st e p q r s = go (R.sees ";" ts) refl
    where
      go : (x : Bool) → R.sees ";" ts ≡ x → R.start_of ts ≡ some at_empty
      go true v =
          rw (no_name t at w i ts h p, sees_other t at w i ts h "IF" 11 key_if q, sees_other t at w i ts h "CASE" 16 key_case r, sees_other t at w i ts h "FOR" 18 key_for s, v, R.start_of)
      go false v =
          let n : R.start_of ts ≡ none = rw (no_name t at w i ts h p, sees_other t at w i ts h "IF" 11 key_if q, sees_other t at w i ts h "CASE" 16 key_case r, sees_other t at w i ts h "FOR" 18 key_for s, v, R.start_of) in
          let u : true ≡ false = sym e ∙ start_some t at w i ts h b st ∙ ap is_some n in
          let z : ◌≡◌ {A = ℕ} 0 1 = cc in absurd (omega arith)

option_some : (x : Option Start) → true ≡ is_some x → (s : Start) × (x ≡ some s)
option_some (some s) e = (s, refl)
option_some none e = let z : ◌≡◌ {A = ℕ} 0 1 = cc in absurd (omega arith)

option_none : (x : Option Start) → false ≡ is_some x → x ≡ none
option_none none e = refl
option_none (some s) e = let z : ◌≡◌ {A = ℕ} 0 1 = cc in absurd (omega arith)

-- ---- one statement

module _ {t : List ℕ} {at n : ℕ} (depth : ℕ) {w : Word} (i : IsWord t at w) where
  module _ (b : Bool) (st : StartsIs w.class b) {old : List ℕ} where
    pub statement_none : b ≡ false → StatementDid t old old at depth n (Err (refusal BadShape w.at))
    statement_none e = record { within = omega (arith, i.from, i.on, i.to); same = λ k h. refl; runs = go }
      where
        go : Runs (front_at t old) t at 0 12 (λ f ts. R.statement f depth ts) (Err (refusal BadShape w.at))
        go ts h zero l = absurd (omega arith)
        go ts h (suc f) l = rw (none_0 f depth ts (option_none (R.start_of ts) (sym e ∙ start_some t at w i ts h b st))) (here t at w i ts h BadShape)

    pub statement_deep : b ≡ true → 32 < depth → StatementDid t old old at depth n (Err (refusal TooDeep w.at))
    statement_deep e d = record { within = omega (arith, i.from, i.on, i.to); same = λ k h. refl; runs = go }
      where
        go : Runs (front_at t old) t at 0 12 (λ f ts. R.statement f depth ts) (Err (refusal TooDeep w.at))
        go ts h zero l = absurd (omega arith)
        go ts h (suc f) l =
            let s = option_some (R.start_of ts) (sym e ∙ start_some t at w i ts h b st) in
            rw (deep_0 f depth ts s.0 s.1 d) (here t at w i ts h TooDeep)

    pub statement_empty : b ≡ true → depth ≤ 32 → (w.class ≡ 1 → ⊥) → (w.class ≡ 11 → ⊥) → (w.class ≡ 16 → ⊥) → (w.class ≡ 18 → ⊥)
        → StatementDid t old old at depth n (Ok (record { at = at; count = n; root = 0 }))
    statement_empty e d p q u v = record { within = omega (arith, i.from, i.on, i.to); same = λ k h. refl; runs = go }
      where
        go : Runs (front_at t old) t at 0 12 (λ f ts. R.statement f depth ts) (Ok (record { at = at; count = n; root = 0 }))
        go ts h zero l = absurd (omega arith)
        go ts h (suc f) l =
            rw (some_0 f depth ts d at_empty (start_empty t at w i ts h b st e p q u v))
            (ends (front_at t old) t 0 (length ts) (λ k. k) ts at n 0 (fun_ext (λ k. front_nil t old k)) h (omega arith))

  module _ (d : depth ≤ 32) {old new : List ℕ} {r : Result Parsed Refusal} where
    pub statement_name : w.class ≡ 1 → AssignmentDid t old new at n r → StatementDid t old new at depth n r
    statement_name e X = record { within = X.within; same = X.same; runs = go }
      where
        go : Runs (front_at t new) t at 0 12 (λ f ts. R.statement f depth ts) r
        go ts h zero l = absurd (omega arith)
        go ts h (suc f) l =
            rw (some_0 f depth ts d at_name (start_name t at w i ts h e))
            (weaken (front_at t new) t 0 (length ts) 1 (length ts) (R.assignment f ts) r (omega arith) (X.runs ts h f (omega arith)))

    -- behind the first word of one that has such a word
    worded : (c : ℕ) → w.class ≡ c → eqb c 0 ≡ false → (body : ℕ → ℕ → List Token → Answer (Read (Stmts → Stmts)))
        → ((f : ℕ) (ts : List Token) → words_at t at ≡ given ts → R.statement (suc f) depth ts ≡ body f (R.here ts) (R.behind ts))
        → Did (front_at t) t old new w.end n 1 11 (λ f ts. body f w.at ts) r → StatementDid t old new at depth n r
    worded c e y body q X = record { within = later _ _ _ _ (omega (arith, i.from, i.on)) r X.within; same = X.same; runs = go }
      where
        go : Runs (front_at t new) t at 0 12 (λ f ts. R.statement f depth ts) r
        go ts h zero l = absurd (omega arith)
        go ts h (suc f) l =
            let b = passed t at w i ts h c e y in
            rw (q f ts h, (next t at w i ts h).here)
            (weaken (front_at t new) t 0 (length ts) 1 (length (R.behind ts)) (body f w.at (R.behind ts)) r (omega arith) (X.runs (R.behind ts) b.0 f (omega arith)))

    pub statement_if : w.class ≡ 11 → BranchDid t old new w.end depth n w.at w.at r → StatementDid t old new at depth n r
    statement_if e X = worded 11 e refl (λ f p ts. R.branch f depth p p ts) (λ f ts h. some_0 f depth ts d at_if (start_if t at w i ts h e)) X

    pub statement_case : w.class ≡ 16 → CasesDid t old new w.end depth n w.at r → StatementDid t old new at depth n r
    statement_case e X = worded 16 e refl (λ f p ts. R.cases f depth p ts) (λ f ts h. some_0 f depth ts d at_case (start_case t at w i ts h e)) X

    pub statement_for : w.class ≡ 18 → RepeatDid t old new w.end depth n w.at r → StatementDid t old new at depth n r
    statement_for e X = worded 18 e refl (λ f p ts. R.repeat f depth p ts) (λ f ts h. some_0 f depth ts d at_for (start_for t at w i ts h e)) X
