-- Laws of the answers of reading, whatever is read: the last part, a key and what comes behind it, one word, a whole answer.
use mathlib.Core.Path.{◌≡◌, refl, ap, ◌∙◌}
use mathlib.Core.Bool.{false}
use mathlib.Core.Option.{Option, none, some}
use mathlib.Core.List.{List}
use Prim.Native.Nat.{ℕ, ◌+◌, ◌*◌, ◌≤◌, ◌<◌}
use Prim.Native.String.{String}
use native.Mathlib.Omega.{arith}
use lib.Dec.{eqb}
use lib.ListN.{length}
use Rattle.std.specs.Prelude.{Result, Ok, Err}
use Rattle.paper.specs.declared.Refusal.{Refusal}
use Rattle.paper.specs.declared.Why.TheVariants.{BadShape}
use Rattle.paper.specs.Refusals.{Answer, refused, given, refusal, ◌>>=◌}
use Rattle.paper.specs.Words as W
use Rattle.paper.specs.Words.{Token, bytes}
use Rattle.paper.specs.Reading as R
use Rattle.paper.specs.Reading.{Read, ok}
use Rattle.words.specs.declared.Word.{Word}
use Rattle.words.specs.Denoted.{words_at, folded, IsWord}
use Rattle.tree.specs.Nodes.{Same}
use Rattle.expressions.specs.declared.Parsed.{Parsed}
use Rattle.expressions.specs.Reads.{Answered, Did, Passed, KeyIs, ExpectDid, Room}
use Rattle.expressions.proofs.Tokens.{Next, next_of}
use Rattle.expressions.proofs.Steps.{here}
use Rattle.expressions.proofs.Answers.{pass_bad, pass_good, expect_one}

module _ {A : Type 0} (D : ℕ → A) (t : List ℕ) (e n : ℕ) where
  -- the last part, whose own function says through g what is said here through k and h
  pub again : {B C : Type 0} (d m : ℕ) (g : B → A) (k : B → C) (h : C → A) (s : Answer (Read B)) (r : Result Parsed Refusal)
      → Answered D t d m (s >>= λ x. ok (g x.it) x.rest) r → ((b : B) → g b ≡ h (k b)) → m + e ≤ n + d
      → Answered D t e n ((s >>= λ x. ok (k x.it) x.rest) >>= λ x. ok (h x.it) x.rest) r
  again d m g k h (refused w p) r a q l = a
  again d m g k h (given x) (Ok z) a q l = (a.0 ∙ q x.it, a.1, omega (arith, a.2))
  again d m g k h (given x) (Err y) a q l = a

-- a key that comes next, and what comes behind it
module _ {t : List ℕ} {at c : ℕ} where
  pub expect_bad : {y : Refusal} → ExpectDid t at c (Err y) → (s : String) → KeyIs s c → {A : Type 0} (D : ℕ → A) (e N : ℕ)
      (k : List Token → Answer (Read A)) (us : List Token) → words_at t at ≡ given us → Answered D t e N (R.expect s us >>= k) (Err y)
  expect_bad {y} E s key D e N k us h = pass_bad D t e N (R.expect s us) k y (E.taken us h s key)

  pub expect_good : {p : ℕ} → ExpectDid t at c (Ok p) → (s : String) → KeyIs s c → {A : Type 0} (D : ℕ → A) (e N : ℕ)
      (k : List Token → Answer (Read A)) (us : List Token) → words_at t at ≡ given us
      → (r : Result Parsed Refusal) → ((vs : List Token) → words_at t p ≡ given vs → length vs ≤ length us → Answered D t e N (k vs) r)
      → Answered D t e N (R.expect s us >>= k) r
  expect_good {p} E s key D e N k us h r g =
      pass_good D t e N (R.expect s us) k p r (E.taken us h s key) (λ vs x w. g vs w (omega (arith, expect_one s us vs x)))

-- two keys
pub both_bad : (t : List ℕ) (s : Answer (List Token)) (k : List Token → Answer (List Token)) (y : Refusal) → Passed t s (Err y) → Passed t (s >>= k) (Err y)
both_bad t (refused w p) k y a = a
both_bad t (given us) k y a = absurd a

pub both_good : (t : List ℕ) (s : Answer (List Token)) (k : List Token → Answer (List Token)) (p : ℕ) (r : Result ℕ Refusal) → Passed t s (Ok p)
    → ((us : List Token) → words_at t p ≡ given us → Passed t (k us) r) → Passed t (s >>= k) r
both_good t (refused w q) k p r a g = let z : ◌≡◌ {A = ℕ} 0 1 = cc in absurd (omega arith)
both_good t (given us) k p r a g = g us a

pub both_less : (s u : String) (us vs : List Token) → (R.expect s us >>= λ c. R.expect u c) ≡ given vs → length vs ≤ length us
both_less s u us vs h = go (R.expect s us) refl h
  where
    go : (a : Answer (List Token)) → R.expect s us ≡ a → (a >>= λ c. R.expect u c) ≡ given vs → length vs ≤ length us
    go (refused w p) e x = let z : ◌≡◌ {A = ℕ} 0 1 = cc in absurd (omega arith)
    go (given cs) e x = omega (arith, expect_one s us cs e, expect_one u cs vs x)

-- ---- one word

pub taken_none : {A : Type 0} (kind : W.Word → Option A) (ts : List Token) → kind (R.next ts) ≡ none → R.taken kind ts ≡ refused BadShape (R.here ts)
taken_none kind ts h = rw (h, R.taken)

pub taken_some : {A : Type 0} (kind : W.Word → Option A) (ts : List Token) (a : A) → kind (R.next ts) ≡ some a → R.taken kind ts ≡ ok a (R.behind ts)
taken_some kind ts a h = rw (h, R.taken)

-- whether a key comes next, by the class
pub sees_class : (s : String) (c : ℕ) → KeyIs s c → (t : List ℕ) (ts : List Token) (w : Word) → Next t ts w → R.sees s ts ≡ eqb w.class c
sees_class s c key t ts w N = ap (R.is_key (bytes s)) N.next ∙ key w.class (folded t w.at w.end) w.value

-- ---- a whole answer

-- refused at the next word
pub refuse : {A : Type 0} {D : List ℕ → ℕ → A} {t old : List ℕ} {at n e k : ℕ} {s : ℕ → List Token → Answer (Read A)} {w : Word}
    → IsWord t at w → ((ts : List Token) (f : ℕ) → 16 * length ts + k < f → Next t ts w → s f ts ≡ refused BadShape (R.here ts))
    → Did D t old old at n e k s (Err (refusal BadShape w.at))
refuse {D} {t} {old} {at} {n} {e} {k} {s} {w} i h =
    record {
      within = omega (arith, i.from, i.on, i.to);
      same = λ j l. refl;
      runs = λ ts g f l. rw (h ts f l (next_of t at ts w i g)) (here t at w i ts g BadShape);
    }

-- one word read, and its node written
pub leafed : {A : Type 0} {D : List ℕ → ℕ → A} {t old new : List ℕ} {at n k : ℕ} {s : ℕ → List Token → Answer (Read A)} {w : Word}
    → IsWord t at w → w.at < w.end → eqb w.class 0 ≡ false → Same n old new
    → ((ts : List Token) (f : ℕ) → 16 * length ts + k < f → words_at t at ≡ given ts → Next t ts w → s f ts ≡ ok (D new (n + 1)) (R.behind ts))
    → Did D t old new at n 1 k s (Ok (record { at = w.end; count = n + 1; root = n + 1 }))
leafed {D} {t} {old} {new} {at} {n} {k} {s} {w} i moves z same h =
    record {
      within = omega (arith, i.from, i.to);
      same = same;
      runs = λ ts g f l. let N = next_of t at ts w i g in let less = N.less z in rw (h ts f l g N) (refl, N.behind z, omega arith);
    }

-- nothing read
pub stay : {A : Type 0} {D : List ℕ → ℕ → A} {t old : List ℕ} {at n k m : ℕ} {s : ℕ → List Token → Answer (Read A)} {w : Word}
    → Room t old at n → IsWord t at w → m ≤ n
    → ((ts : List Token) (f : ℕ) → 16 * length ts + k < f → Next t ts w → s f ts ≡ ok (D old m) ts)
    → Did D t old old at n 0 k s (Ok (record { at = at; count = n; root = m }))
stay {D} {t} {old} {at} {n} {k} {m} {s} {w} room i low h =
    record {
      within = omega (arith, room);
      same = λ j l. refl;
      runs = λ ts g f l. rw (h ts f l (next_of t at ts w i g)) (refl, g, omega arith);
    }

-- room for one node more behind n, whose children are a and b
pub record Fits (pool : List ℕ) (n a b : ℕ) : Type 0 where
  pub room : 4 * (n + 1) + 4 ≤ length pool
  pub few : n < 8192
  pub first : a ≤ n
  pub second : b ≤ n
