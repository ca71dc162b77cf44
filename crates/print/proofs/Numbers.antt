-- The digits of a number.
use mathlib.Core.Path.{◌≡◌}
use mathlib.Core.Bool.{Bool, true, cond}
use mathlib.Core.List.{List, ◌∷◌}
use Prim.Native.Nat.{ℕ, zero, suc, ◌+◌, ◌/◌, ◌%◌, ◌≤◌, ◌<◌}
use native.Mathlib.Omega.{arith}
use borrow.Author.Tests.{lt-ltb, le-ltb}
use lib.IntN.{pos, neg_ℤ}
use Rattle.paper.specs.Printing.{digits, natural, whole, put}
use Rattle.print.specs.Printed.{Printed, PrintedDigits}
use Rattle.print.proofs.Laws.{named, ◌then◌}

one_digit : (f n : ℕ) (k : List ℕ) → n < 10 → digits (suc f) n k ≡ (48 + n) ∷ k
unfolding digits
one_digit f n k h = rw (lt-ltb n 10 h, digits)

another_digit : (f n : ℕ) (k : List ℕ) → 10 ≤ n → digits (suc f) n k ≡ digits f (n / 10) ((48 + n % 10) ∷ k)
unfolding digits
another_digit f n k h = rw (le-ltb n 10 h, digits)

module _ {old new : List ℕ} {at n r : ℕ} where
  pub last_digit : n < 10 → Printed old new at (λ k. (48 + n) ∷ k) r → PrintedDigits old new at n r
  last_digit h p f l = named (λ k. one_digit f n k h) p

  -- the last behind those of the tenth
  pub more_digits : {mid : List ℕ} {a : ℕ} → 10 ≤ n → PrintedDigits old mid at (n / 10) a → Printed mid new a (λ k. (48 + n % 10) ∷ k) r
      → PrintedDigits old new at n r
  more_digits h p q zero l = absurd (omega arith)
  more_digits h p q (suc f) l = named (λ k. another_digit (suc f) n k h) (p f (omega arith) then q)

-- ---- signs

pub minus_number : (m : Bool) (n : ℕ) (k : List ℕ) → m ≡ true → 0 < n → whole (cond m (neg_ℤ (pos n)) (pos n)) k ≡ put "-" (natural n k)
minus_number m zero k e l = absurd (omega arith)
minus_number m (suc n) k e l = rw e
