-- Laws of reading in parts, whatever is read and with any fuel above that of its words: one part after another, and a key between them.
use mathlib.Core.Path.{◌≡◌, refl}
use mathlib.Core.List.{List}
use Prim.Native.Nat.{ℕ, ◌+◌, ◌*◌, ◌≤◌}
use Prim.Native.String.{String}
use native.Mathlib.Omega.{arith}
use lib.ListN.{length}
use Rattle.std.specs.Prelude.{Result, Ok, Err}
use Rattle.paper.specs.declared.Refusal.{Refusal}
use Rattle.paper.specs.Refusals.{Answer, refused, given, ◌>>=◌}
use Rattle.paper.specs.Words.{Token}
use Rattle.paper.specs.Reading as R
use Rattle.paper.specs.Reading.{Read, ok}
use Rattle.words.specs.Denoted.{words_at}
use Rattle.expressions.specs.declared.Parsed.{Parsed}
use Rattle.expressions.specs.Reads.{Answered, Runs, KeyIs, ExpectDid}
use Rattle.expressions.proofs.Answers.{weaken, done, bind_bad, bind_good, pass_bad, pass_good, expect_one}

-- one stage after another, however they are grouped
pub assoc : {A B C : Type 0} (s : Answer A) (f : A → Answer B) (g : B → Answer C) → ((s >>= f) >>= g) ≡ (s >>= λ x. (f x >>= g))
assoc (refused w p) f g = refl
assoc (given a) f g = refl

pub cong : {A B : Type 0} (s : Answer A) (f g : A → Answer B) → ((a : A) → f a ≡ g a) → (s >>= f) ≡ (s >>= g)
cong (refused w p) f g e = refl
cong (given a) f g e = e a

-- a first part that is known as something made of it
module _ {A B Z : Type 0} (D : ℕ → A) (t : List ℕ) (e n : ℕ) (C : ℕ → B) (d m : ℕ) (s : Answer (Read Z)) (mk : Z → B) (k : Read Z → Answer (Read A)) where
  pub made_bad : (y : Refusal) → Answered C t d m (s >>= λ z. ok (mk z.it) z.rest) (Err y) → Answered D t e n (s >>= k) (Err y)
  made_bad y a = go s a
    where
      go : (s : Answer (Read Z)) → Answered C t d m (s >>= λ z. ok (mk z.it) z.rest) (Err y) → Answered D t e n (s >>= k) (Err y)
      go (refused w p) a = a
      go (given x) a = absurd a

  pub made_good : (q : Parsed) (r : Result Parsed Refusal) → Answered C t d m (s >>= λ z. ok (mk z.it) z.rest) (Ok q)
      → ((z : Z) (us : List Token) → C q.root ≡ mk z → words_at t q.at ≡ given us → length us + d ≤ m
      → Answered D t e n (k (record { it = z; rest = us })) r)
      → Answered D t e n (s >>= k) r
  made_good q r a g = go s a
    where
      go : (s : Answer (Read Z)) → Answered C t d m (s >>= λ z. ok (mk z.it) z.rest) (Ok q) → Answered D t e n (s >>= k) r
      go (refused w p) a = let z : ◌≡◌ {A = ℕ} 0 1 = cc in absurd (omega arith)
      go (given x) (b, w, l) = g x.it x.rest b w l

-- what was read is the node m
pub made : {A : Type 0} (D : ℕ → A) (t : List ℕ) (at k : ℕ) (x : A) (c m : ℕ) → D m ≡ x
    → Runs D t at 0 k (λ f ts. ok x ts) (Ok (record { at = at; count = c; root = m }))
made D t at k x c m d ts h f l = done D t 0 (length ts) x ts at c m d h (omega arith)

module _ {A : Type 0} (D : ℕ → A) (t : List ℕ) (at e k : ℕ) where
  -- a first part refused, and a first part given with what comes behind it
  module _ {B : Type 0} (C : ℕ → B) (d j : ℕ) (s : ℕ → List Token → Answer (Read B)) (g : ℕ → List Token → Read B → Answer (Read A)) (low : j ≤ k) where
    pub runs_bad : (y : Refusal) → Runs C t at d j s (Err y) → Runs D t at e k (λ f ts. s f ts >>= g f ts) (Err y)
    runs_bad y x ts h f l = bind_bad D t e (length ts) C d (length ts) (s f ts) (g f ts) y (x ts h f (omega arith))

    pub runs_good : (q : Parsed) → Runs C t at d j s (Ok q) → (i a : ℕ) (r : Result Parsed Refusal) → e ≤ i + d → a ≤ k + 16 * d
        → ((ts : List Token) → words_at t at ≡ given ts → Runs D t q.at i a (λ f us. g f ts (record { it = C q.root; rest = us })) r)
        → Runs D t at e k (λ f ts. s f ts >>= g f ts) r
    runs_good q x i a r le la y ts h f l =
        bind_good D t e (length ts) C d (length ts) (s f ts) (g f ts) q r (x ts h f (omega arith))
        (λ us w b. weaken D t e (length ts) i (length us) (g f ts (record { it = C q.root; rest = us })) r (omega arith) (y ts h us w f (omega arith)))

  -- the same of a key
  module _ (s : String) (c : ℕ) (key : KeyIs s c) (g : ℕ → List Token → List Token → Answer (Read A)) where
    pub key_bad : (y : Refusal) → ExpectDid t at c (Err y) → Runs D t at e k (λ f ts. R.expect s ts >>= g f ts) (Err y)
    key_bad y E ts h f l = pass_bad D t e (length ts) (R.expect s ts) (g f ts) y (E.taken ts h s key)

    pub key_good : (p : ℕ) → ExpectDid t at c (Ok p) → (i a : ℕ) (r : Result Parsed Refusal) → e ≤ i + 1 → a ≤ k + 16
        → ((ts : List Token) → words_at t at ≡ given ts → Runs D t p i a (λ f us. g f ts us) r)
        → Runs D t at e k (λ f ts. R.expect s ts >>= g f ts) r
    key_good p E i a r le la y ts h f l =
        pass_good D t e (length ts) (R.expect s ts) (g f ts) p r (E.taken ts h s key)
        (λ us v b. let m = expect_one s ts us v in weaken D t e (length ts) i (length us) (g f ts us) r (omega arith) (y ts h us b f (omega arith)))
