-- Laws of reading in parts, one behind the other, with what each leaves in the pool; a key may stand between them.
use mathlib.Core.Path.{◌≡◌, refl}
use mathlib.Core.List.{List}
use Prim.Native.Nat.{ℕ, zero, suc, ◌+◌, ◌-◌, ◌*◌, ◌≤◌, ◌<◌}
use Prim.Native.String.{String}
use native.Mathlib.Omega.{arith}
use lib.ListN.{length}
use Rattle.std.specs.Prelude.{Result, Ok, Err, IfOk}
use Rattle.std.proofs.lemmas.Result.{IfOk-weaker}
use Rattle.paper.specs.declared.Refusal.{Refusal}
use Rattle.paper.specs.Refusals.{Answer, ◌>>=◌}
use Rattle.paper.specs.Words.{Token}
use Rattle.paper.specs.Reading as R
use Rattle.paper.specs.Reading.{Read, ok}
use Rattle.tree.specs.Nodes.{Same, written}
use Rattle.tree.proofs.Puts.{written_same}
use Rattle.expressions.specs.declared.Parsed.{Parsed}
use Rattle.expressions.specs.Reads.{Ends, Runs, DidFrom, KeyIs, ExpectDid}
use Rattle.expressions.proofs.Answers.{weaken}
use Rattle.expressions.proofs.Nodes.{both_same}
use Rattle.statements.proofs.Runs.{made, runs_bad, runs_good, key_bad, key_good}

-- what was read from `at` on with n nodes before it, wherever it ends
pub record Part {A : Type 0} (D : List ℕ → ℕ → A) (t old new : List ℕ) (at n e k : ℕ) (s : ℕ → List Token → Answer (Read A)) (r : Result Parsed Refusal) : Type 0 where
  pub more : IfOk r (λ q. n ≤ q.count)
  pub same : Same n old new
  pub runs : Runs (D new) t at e k s r

module _ {A : Type 0} {D : List ℕ → ℕ → A} {t old new : List ℕ} {at n e k : ℕ} {s : ℕ → List Token → Answer (Read A)} {r : Result Parsed Refusal} where
  pub part : {from : ℕ} → DidFrom D t old new from at n e k s r → Part D t old new at n e k s r
  part {from} X = record { more = go r X.within; same = X.same; runs = X.runs }
    where
      go : (r : Result Parsed Refusal) → Ends (length t) from n r → IfOk r (λ q. n ≤ q.count)
      go (Ok q) w = w.more
      go (Err y) w = tt

  pub did : {from : ℕ} → Ends (length t) from n r → Part D t old new at n e k s r → DidFrom D t old new from at n e k s r
  did w P = record { within = w; same = P.same; runs = P.runs }

  -- of more words and a higher rank
  pub weaker : {d j : ℕ} → Part D t old new at n d j s r → (e ≤ d) × (j ≤ k) → Part D t old new at n e k s r
  weaker {d} P l =
      record {
        more = P.more;
        same = P.same;
        runs = λ ts h f b. weaken (D new) t e (length ts) d (length ts) (s f ts) r (omega arith) (P.runs ts h f (omega arith));
      }

  -- a definition that takes one step before it
  pub stepped : {d j : ℕ} {u : ℕ → List Token → Answer (Read A)} → ((f : ℕ) (ts : List Token) → s (suc f) ts ≡ u f ts) → Part D t old new at n d j u r → (e ≤ d) × (j < k)
      → Part D t old new at n e k s r
  stepped {d} {j} {u} q P l = record { more = P.more; same = P.same; runs = go }
    where
      go : Runs (D new) t at e k s r
      go ts h zero b = absurd (omega arith)
      go ts h (suc f) b = rw (q f ts) (weaken (D new) t e (length ts) d (length ts) (u f ts) r (omega arith) (P.runs ts h f (omega arith)))

-- a first part refused, and a first part given with what comes behind it
module _ {A B : Type 0} {C : List ℕ → ℕ → B} {D : List ℕ → ℕ → A} {t old mid : List ℕ} {at n d j : ℕ} {s : ℕ → List Token → Answer (Read B)} where
  pub part_bad : {y : Refusal} → Part C t old mid at n d j s (Err y) → (g : ℕ → Read B → Answer (Read A)) (e : ℕ) → Part D t old mid at n e j (λ f ts. s f ts >>= g f) (Err y)
  part_bad {y} X g e = record { more = tt; same = X.same; runs = runs_bad (D mid) t at e j (C mid) d j s (λ f ts. g f) (omega arith) y X.runs }

  pub part_good : {q : Parsed} → Part C t old mid at n d j s (Ok q) → (g : ℕ → Read B → Answer (Read A)) {new : List ℕ} {i a : ℕ} {r : Result Parsed Refusal}
      → Part D t mid new q.at q.count i a (λ f us. g f (record { it = C mid q.root; rest = us })) r → a ≤ j + 16 * d
      → Part D t old new at n (i + d) j (λ f ts. s f ts >>= g f) r
  part_good {q} X g {new} {i} {a} {r} Y l =
      record {
        more = IfOk-weaker r _ _ (λ p b. omega (arith, X.more, b)) Y.more;
        same = both_same n q.count old mid new X.same X.more Y.same;
        runs = runs_good (D new) t at (i + d) j (C mid) d j s (λ f ts. g f) (omega arith) q X.runs i a r (omega arith) l (λ ts h. Y.runs);
      }

-- the same of a key
module _ {A : Type 0} {D : List ℕ → ℕ → A} {t old : List ℕ} {at c n : ℕ} (s : String) (key : KeyIs s c) where
  pub past_bad : {y : Refusal} → ExpectDid t at c (Err y) → (g : ℕ → List Token → Answer (Read A)) (e : ℕ) → Part D t old old at n e 0 (λ f ts. R.expect s ts >>= g f) (Err y)
  past_bad {y} E g e = record { more = tt; same = λ k h. refl; runs = key_bad (D old) t at e 0 s c key (λ f ts. g f) y E }

  pub past : {p : ℕ} → ExpectDid t at c (Ok p) → (g : ℕ → List Token → Answer (Read A)) {new : List ℕ} {i a : ℕ} {r : Result Parsed Refusal}
      → Part D t old new p n i a g r → Part D t old new at n (i + 1) (a - 16) (λ f ts. R.expect s ts >>= g f) r
  past {p} E g {new} {i} {a} {r} Y =
      record {
        more = Y.more;
        same = Y.same;
        runs = key_good (D new) t at (i + 1) (a - 16) s c key (λ f ts. g f) p E i a r (omega arith) (omega arith) (λ ts h. Y.runs);
      }

-- the end: a node more, or one that stands
module _ {A : Type 0} {D : List ℕ → ℕ → A} {t old : List ℕ} {at m : ℕ} {x : A} where
  pub node : {new : List ℕ} (k a b c : ℕ) → new ≡ written old (m + 1) k a b c → D new (m + 1) ≡ x
      → Part D t old new at m 0 0 (λ f us. ok x us) (Ok (record { at = at; count = m + 1; root = m + 1 }))
  node {new} k a b c e d =
      record { more = omega arith; same = rw e (written_same old (m + 1) k a b c m (omega arith)); runs = made (D new) t at 0 x (m + 1) (m + 1) d }

  pub stays : {i : ℕ} → D old i ≡ x → Part D t old old at m 0 0 (λ f us. ok x us) (Ok (record { at = at; count = m; root = i }))
  stays {i} d = record { more = omega arith; same = λ k h. refl; runs = made (D old) t at 0 x m i d }
