-- What the passes of a FOR give: sure statements, no deeper than those of the body.
use mathlib.Core.Path.{◌≡◌, refl}
use mathlib.Core.Bool.{Bool, true, false}
use Prim.Native.Nat.{ℕ, zero, suc, ◌≤◌}
use native.Mathlib.Omega.{arith}
use lib.IntN.{ℤ, ◌+ℤ◌}
use Rattle.paper.specs.declared.Ty.{Ty}
use Rattle.paper.specs.declared.Cell.{Cell}
use Rattle.paper.specs.Refusals.{Answer, given, ◌>>=◌}
use Rattle.paper.specs.Types.{is_integer, fits}
use Rattle.paper.specs.Typing.{is_zero}
use Rattle.paper.specs.Plain.{number, Stmts, done, assign, choice, ◌⨾◌}
use Rattle.paper.specs.Meaning.{passed, enough}
use Rattle.paper.specs.Unwinding as U
use Rattle.paper.specs.Unwinding.{Unwound}
use Rattle.demands.proofs.Answers.{given_same, refused_given, bind_given}
use Rattle.again.proofs.Forms.{height, depth}
use Rattle.again.proofs.Sure.{AllLow}
use Rattle.again.proofs.LoopValues.{next_fits}

-- sure and low, and no deeper than n
pub record Within (n : ℕ) (u : Unwound) : Type 0 where
  pub low : AllLow u.plain
  pub shallow : depth u.plain ≤ n

low-⨾ : (p q : Stmts) → AllLow p → AllLow q → AllLow (p ⨾ q)
unfolding ◌⨾◌
low-⨾ done q h k = k
low-⨾ (assign c e p) q h k = (h.0, low-⨾ p q h.1 k)
low-⨾ (choice c a b p) q h k = (h.0, h.1, h.2, low-⨾ p q h.3 k)

depth-⨾ : (p q : Stmts) (n : ℕ) → depth p ≤ n → depth q ≤ n → depth (p ⨾ q) ≤ n
unfolding ◌⨾◌ depth
depth-⨾ done q n h k = k
depth-⨾ (assign c e p) q n h k = depth-⨾ p q n h k
depth-⨾ (choice c a b p) q n h k = let r = depth-⨾ p q n (omega arith) k in omega arith

pub then : {m n : ℕ} (l : ℕ) {u y : Unwound} → m ≤ l → n ≤ l → Within m u → Within n y → Within l (record { plain = u.plain ⨾ y.plain; weight = y.weight })
then l {u} {y} hm hn a b =
    let x = a.shallow in
    let z = b.shallow in
    record { low = low-⨾ u.plain y.plain a.low b.low; shallow = depth-⨾ u.plain y.plain l (omega arith) (omega arith) }

pub done_within : (n w : ℕ) → Within n (record { plain = done; weight = w })
unfolding depth
done_within n w = record { low = tt; shallow = omega arith }

-- ---- FOR

module _ (p n : ℕ) (t : Ty) (c : Cell) (B : ℤ → ℕ → Answer Unwound) (integer : is_integer t ≡ true)
    (body : (z : ℤ) (w : ℕ) (x : Unwound) → B z w ≡ given x → Within n x) where
  pass_within : (z : ℤ) (w : ℕ) (u : Unwound) → fits t z ≡ true → U.pass_of p t c B z w ≡ given u → Within n u
  unfolding U.pass_of depth height
  pass_within z w u f h =
      let a = bind_given (U.heavier p 1 w) (λ w₁. B z w₁ >>= λ x. U.unwound (assign c (number t z) x.plain) x.weight) u h in
      let b = bind_given (B z a.0) (λ x. U.unwound (assign c (number t z) x.plain) x.weight) u a.2 in
      let r = body z a.0 b.0 b.1 in
      rw (← given_same b.2) (record { low = (((integer, f), omega arith), r.low); shallow = r.shallow })

  turns_within : (m : ℕ) (by to z : ℤ) (w : ℕ) (u : Unwound) → is_zero by ≡ false → fits t to ≡ true → fits t z ≡ true
      → U.turns m (U.pass_of p t c B) by to z w ≡ given u → Within n u
  unfolding U.turns
  turns_within zero by to z w u step ft fz h = rw (← given_same h) (done_within n w)
  turns_within (suc m) by to z w u step ft fz h =
      let rest : ℕ → Answer Unwound = U.turns m (U.pass_of p t c B) by to (z +ℤ by) in
      let a = bind_given (U.pass_of p t c B z w) (λ x. elim (passed by to (z +ℤ by)) [
        | true ↦ given x
        | false ↦ (rest x.weight >>= λ y. U.unwound (x.plain ⨾ y.plain) y.weight)
      ]) u h in
      go a.0 (pass_within z w a.0 fz a.1) (passed by to (z +ℤ by)) refl a.2
      (λ y e k. turns_within m by to (z +ℤ by) a.0.weight y step ft (next_fits t by to z step ft fz e) k)
    where
      go : (x : Unwound) → Within n x → (b : Bool) → passed by to (z +ℤ by) ≡ b
          → elim b [
            | true ↦ given x
            | false ↦ (U.turns m (U.pass_of p t c B) by to (z +ℤ by) x.weight >>= λ y. U.unwound (x.plain ⨾ y.plain) y.weight)
          ] ≡ given u
          → ((y : Unwound) → passed by to (z +ℤ by) ≡ false → U.turns m (U.pass_of p t c B) by to (z +ℤ by) x.weight ≡ given y → Within n y)
          → Within n u
      go x r true e k rest = rw (← given_same k) r
      go x r false e k rest =
          let b = bind_given (U.turns m (U.pass_of p t c B) by to (z +ℤ by) x.weight) (λ y. U.unwound (x.plain ⨾ y.plain) y.weight) u k in
          rw (← given_same b.2) (then n (omega arith) (omega arith) r (rest b.0 e b.1))

  pub looped_within : (by to from : ℤ) (w : ℕ) (u : Unwound) → fits t to ≡ true → fits t from ≡ true → U.looped p t c B by to from w ≡ given u → Within n u
  unfolding U.looped depth height
  looped_within by to from w u ft ff h = go (is_zero by) refl (passed by to from) refl
    where
      go : (s : Bool) → is_zero by ≡ s → (k : Bool) → passed by to from ≡ k → Within n u
      go true e k q = refused_given (rw (e, U.looped) at h)
      go false e true q =
          let a = bind_given (U.heavier p 1 w) (λ w₁. U.unwound (assign c (number t from) done) w₁) u (rw (e, U.looped, q) at h) in
          rw (← given_same a.2) (record { low = (((integer, ff), omega arith), tt); shallow = omega arith })
      go false e false q = turns_within (enough from to) by to from w u e ft ff (rw (e, U.looped, q) at h)
