-- Tokens by their words, places aside; and what reading gives from them, with the words that are left.
use mathlib.Core.List.{List, [], ◌∷◌}
use Prim.Native.Nat.{ℕ, zero, suc, ◌≤◌}
use Prim.Native.String.{String}
use native.Mathlib.Omega.{arith}
use Rattle.paper.specs.Refusals.{Answer, ◌>>=◌}
use Rattle.paper.specs.Words as W
use Rattle.paper.specs.Words.{Word, Token, bytes}
use Rattle.paper.specs.Reading.{Read, ok, expect}
use Rattle.demands.proofs.Cells.{same_bytes_refl}

-- a reserved word or a sign, by its spelling
abbrev pub key : String → Word
key s = W.key (bytes s)

-- the tokens have these words
pub data Says : List Word → List Token → Type 0 where
  over : Says [] []
  says : {w : Word} {p : ℕ} {ws : List Word} {ts : List Token} → Says ws ts → Says (w ∷ ws) (record { word = w; place = p } ∷ ts)

-- something that Q holds of is read, and the words k are left
pub data Gives {A : Type 0} (Q : A → Type 0) (k : List Word) : Answer (Read A) → Type 0 where
  gives : {a : A} {ts : List Token} → Q a → Says k ts → Gives Q k (ok a ts)

-- one stage after another
pub then : {A B : Type 0} {Q : A → Type 0} {R : B → Type 0} {k l : List Word} {o : Answer (Read A)} {f : Read A → Answer (Read B)}
    → Gives Q k o → ((x : Read A) → Q x.it → Says k x.rest → Gives R l (f x)) → Gives R l (o >>= f)
then (gives {a = a} {ts = ts} q s) g = g (record { it = a; rest = ts }) q s

-- the key that must come next
pub expects : (c : String) {B : Type 0} {R : B → Type 0} {k l : List Word} {ts : List Token} {f : List Token → Answer (Read B)}
    → Says (key c ∷ k) ts → ((us : List Token) → Says k us → Gives R l (f us)) → Gives R l (expect c ts >>= f)
expects c (says {ts = us} s) g = rw (same_bytes_refl (bytes c), expect) (g us s)

-- at least n calls may stand in one another
pub data Fuel : ℕ → ℕ → Type 0 where
  any : {f : ℕ} → Fuel zero f
  one : {n f : ℕ} → Fuel n f → Fuel (suc n) (suc f)

pub fuel : (n f : ℕ) → n ≤ f → Fuel n f
fuel zero f h = any
fuel (suc n) zero h = absurd (omega arith)
fuel (suc n) (suc f) h = one (fuel n f (omega arith))

pub enough : {n f : ℕ} → Fuel n f → n ≤ f
enough any = omega arith
enough (one h) = let k = enough h in omega arith

pub less : {n f : ℕ} (m : ℕ) → m ≤ n → Fuel n f → Fuel m f
less {n} {f} m h k = fuel m f (let l = enough k in omega arith)

pub more : {n f : ℕ} → Fuel n f → Fuel n (suc f)
more {n} {f} k = fuel n (suc f) (let l = enough k in omega arith)
