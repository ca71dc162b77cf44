-- Laws of the answers of reading, whatever is read: a first part refused, a first part given, and what comes behind it.
use mathlib.Core.Path.{◌≡◌, refl, ap, subst}
use mathlib.Core.Bool.{Bool, true, false}
use mathlib.Core.List.{List, [], ◌∷◌}
use Prim.Native.Nat.{ℕ, suc, ◌+◌, ◌*◌, ◌≤◌, ◌<◌}
use Prim.Native.String.{String}
use native.Mathlib.Omega.{arith}
use native.Mathlib.Numerals.{add-one}
use lib.ListN.{length}
use Rattle.std.specs.Prelude.{Result, Ok, Err}
use Rattle.paper.specs.declared.Refusal.{Refusal}
use Rattle.paper.specs.Refusals.{Answer, refused, given, refusal, ◌>>=◌}
use Rattle.paper.specs.Words.{Token}
use Rattle.paper.specs.Source.{Expr}
use Rattle.paper.specs.Reading as R
use Rattle.paper.specs.Reading.{Read, ok}
use Rattle.words.specs.Denoted.{words_at}
use Rattle.expressions.specs.declared.Parsed.{Parsed}
use Rattle.expressions.specs.Reads.{Answered, Runs, Passed, KeyIs, ExpectDid}

module _ {A : Type 0} (D : ℕ → A) (t : List ℕ) (e n : ℕ) where
  -- an answer about fewer words is one about more
  pub weaken : (d m : ℕ) (s : Answer (Read A)) (r : Result Parsed Refusal) → m + e ≤ n + d → Answered D t d m s r → Answered D t e n s r
  weaken d m (refused w p) r l a = a
  weaken d m (given x) (Ok q) l a = (a.0, a.1, omega (arith, a.2))
  weaken d m (given x) (Err y) l a = a

  -- what was read is the node m
  pub done : (x : A) (us : List Token) (at c m : ℕ) → D m ≡ x → words_at t at ≡ given us → length us + e ≤ n
      → Answered D t e n (ok x us) (Ok (record { at = at; count = c; root = m }))
  done x us at c m d h l = (d, h, l)

  -- a first part that was refused
  pub bind_bad : {B : Type 0} (C : ℕ → B) (d m : ℕ) (s : Answer (Read B)) (k : Read B → Answer (Read A)) (y : Refusal)
      → Answered C t d m s (Err y) → Answered D t e n (s >>= k) (Err y)
  bind_bad C d m (refused w p) k y a = a
  bind_bad C d m (given x) k y a = absurd a

  -- a first part that was given, and what comes behind it
  pub bind_good : {B : Type 0} (C : ℕ → B) (d m : ℕ) (s : Answer (Read B)) (k : Read B → Answer (Read A)) (q : Parsed) (r : Result Parsed Refusal)
      → Answered C t d m s (Ok q)
      → ((us : List Token) → words_at t q.at ≡ given us → length us + d ≤ m → Answered D t e n (k (record { it = C q.root; rest = us })) r)
      → Answered D t e n (s >>= k) r
  bind_good C d m (refused w p) k q r a g = let z : ◌≡◌ {A = ℕ} 0 1 = cc in absurd (omega arith)
  bind_good C d m (given x) k q r a g =
      let b = g x.rest a.1 a.2 in
      subst (λ y. Answered D t e n (k (record { it = y; rest = x.rest })) r) a.0 b

  -- the same of a key
  pub pass_bad : (s : Answer (List Token)) (k : List Token → Answer (Read A)) (y : Refusal) → Passed t s (Err y) → Answered D t e n (s >>= k) (Err y)
  pass_bad (refused w p) k y a = ap Err (go a)
    where
      go : ◌≡◌ {A = Result ℕ Refusal} (Err y) (Err (refusal w p)) → y ≡ refusal w p
      go h = cc
  pass_bad (given us) k y a = absurd a

  pub pass_good : (s : Answer (List Token)) (k : List Token → Answer (Read A)) (p : ℕ) (r : Result Parsed Refusal) → Passed t s (Ok p)
      → ((us : List Token) → s ≡ given us → words_at t p ≡ given us → Answered D t e n (k us) r) → Answered D t e n (s >>= k) r
  pass_good (refused w p) k q r a g = let z : ◌≡◌ {A = ℕ} 0 1 = cc in absurd (omega arith)
  pass_good (given us) k q r a g = g us refl a

-- behind a key is one word less
pub expect_one : (s : String) (ts us : List Token) → R.expect s ts ≡ given us → length us + 1 ≤ length ts
expect_one s [] us h = let x : ◌≡◌ {A = ℕ} 0 1 = cc in absurd (omega arith)
expect_one s (k ∷ ts) us h = go (R.sees s (k ∷ ts)) h
  where
    go : (b : Bool) → ◌≡◌ {A = Answer (List Token)} (elim b [ true ↦ given ts | false ↦ R.broken (k ∷ ts) ]) (given us) → length us + 1 ≤ length (k ∷ ts)
    go true e = let x : ts ≡ us = cc in omega (arith, ap length x)
    go false e = let x : ◌≡◌ {A = ℕ} 0 1 = cc in absurd (omega arith)

-- ---- under a node of its own: what a first part gave is made one tree

module _ (t : List ℕ) (at e k : ℕ) (s : ℕ → List Token → Answer (Read Expr)) (C D : ℕ → Expr) (mk : Expr → Expr) where
  pub under_good : (q : Parsed) → Runs C t at e k s (Ok q) → (m : ℕ) → D m ≡ mk (C q.root)
      → Runs D t at e k (λ f ts. s f ts >>= λ a. ok (mk a.it) a.rest) (Ok (record { at = q.at; count = m; root = m }))
  under_good q x m d ts h f l =
      bind_good D t e (length ts) C e (length ts) (s f ts) (λ a. ok (mk a.it) a.rest) q _ (x ts h f l)
      (λ us w g. done D t e (length ts) (mk (C q.root)) us q.at m m d w g)

-- ---- an expression, and the key that closes it

abbrev pub closed : ℕ → ℕ → String → (Expr → Expr) → List Token → Answer (Read Expr)
closed f nest s mk ts = R.expression f (suc nest) 1 ts >>= λ a. (R.expect s a.rest >>= λ c. ok (mk a.it) c)

module _ (t : List ℕ) (at nest : ℕ) (C D : ℕ → Expr) (s : String) (mk : Expr → Expr) where
  inner : (r : Result Parsed Refusal) → Runs C t at 1 5 (λ f ts. R.expression f (nest + 1) 1 ts) r
      → (ts : List Token) → words_at t at ≡ given ts → (f : ℕ) → 16 * length ts + 5 < f → Answered C t 1 (length ts) (R.expression f (suc nest) 1 ts) r
  inner r x ts h f l = rw (← add-one nest) (x ts h f l)

  pub closed_bad : (y : Refusal) → Runs C t at 1 5 (λ f ts. R.expression f (nest + 1) 1 ts) (Err y) → Runs D t at 1 5 (λ f ts. closed f nest s mk ts) (Err y)
  closed_bad y x ts h f l = bind_bad D t 1 (length ts) C 1 (length ts) (R.expression f (suc nest) 1 ts) _ y (inner (Err y) x ts h f l)

  module _ (q : Parsed) (x : Runs C t at 1 5 (λ f ts. R.expression f (nest + 1) 1 ts) (Ok q)) (c : ℕ) (key : KeyIs s c) where
    pub closed_open : (y : Refusal) → ExpectDid t q.at c (Err y) → Runs D t at 1 5 (λ f ts. closed f nest s mk ts) (Err y)
    closed_open y E ts h f l =
        bind_good D t 1 (length ts) C 1 (length ts) (R.expression f (suc nest) 1 ts)
        (λ a. R.expect s a.rest >>= λ c. ok (mk a.it) c) q (Err y) (inner (Ok q) x ts h f l)
        (λ us w g. pass_bad D t 1 (length ts) (R.expect s us) _ y (E.taken us w s key))

    pub closed_good : (p : ℕ) → ExpectDid t q.at c (Ok p) → (m k : ℕ) → D m ≡ mk (C q.root)
        → Runs D t at 1 5 (λ f ts. closed f nest s mk ts) (Ok (record { at = p; count = k; root = m }))
    closed_good p E m k d ts h f l =
        bind_good D t 1 (length ts) C 1 (length ts) (R.expression f (suc nest) 1 ts)
        (λ a. R.expect s a.rest >>= λ c. ok (mk a.it) c) q _ (inner (Ok q) x ts h f l)
        (λ us w g. pass_good D t 1 (length ts) (R.expect s us) _ p _ (E.taken us w s key)
        (λ vs v b. done D t 1 (length ts) (mk (C q.root)) vs p k m d b (omega (arith, expect_one s us vs v))))
