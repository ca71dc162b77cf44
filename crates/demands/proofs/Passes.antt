-- A FOR runs its body for its values, one after another.
use mathlib.Core.Path.{◌≡◌, refl, sym, ◌∙◌}
use mathlib.Core.Bool.{Bool, true, false}
use mathlib.Core.Option.{Option, none, some}
use mathlib.Core.List.{List, []}
use Prim.Native.Nat.{ℕ, zero, suc, ◌<◌}
use native.Mathlib.Omega.{arith}
use lib.IntN.{ℤ, ◌+ℤ◌, ◌-ℤ◌, nat_abs}
use Rattle.paper.specs.Typing.{is_zero}
use Rattle.paper.specs.Plain.{Ran}
use Rattle.paper.specs.Meaning.{passed, enough, turns, looped, ◌>>=◌}
use Rattle.demands.specs.InTypes.{All}
use Rattle.demands.specs.Passes.{values_from, values_of, in_order, passes, ForRuns}
use Rattle.paper.proofs.Residues.{nearer}

bind_same : {A B : Type 0} (o : Option A) (f g : A → Option B) → ((a : A) → f a ≡ g a) → (o >>= f) ≡ (o >>= g)
bind_same none f g h = refl
bind_same (some a) f g h = h a

-- what follows a pass: nothing more, or the values vs
last_or : (P : ℤ → Type 0) (t : Bool) (vs : List ℤ) → (t ≡ false → All P vs) → All P (elim t [ true ↦ [] | false ↦ vs ])
last_or P true vs h = tt
last_or P false vs h = h refl

module _ (put : ℤ → Ran → Ran) (body : Ran → Option Ran) (c b : ℤ) where
  abbrev pass : ℤ → Ran → Option Ran
  pass z r = body (put z r)

  turn_passes : (t : Bool) (f : Ran → Option Ran) (vs : List ℤ) (x : Ran) → (t ≡ false → f x ≡ in_order pass vs x)
      → ◌≡◌ {A = Option Ran} (elim t [ true ↦ some x | false ↦ f x ]) (in_order pass (elim t [ true ↦ [] | false ↦ vs ]) x)
  unfolding in_order
  turn_passes true f vs x h = refl
  turn_passes false f vs x h = h refl

  -- the turns from v on are the passes of the values from v on
  turns_passes : is_zero c ≡ false → (n : ℕ) (v : ℤ) (r : Ran) → passed c b v ≡ false → nat_abs (b -ℤ v) < n
      → turns n put body c b v r ≡ in_order pass (values_from n c b v) r
  unfolding turns values_from in_order
  turns_passes step zero v r p h = absurd (omega arith)
  turns_passes step (suc n) v r p h =
      bind_same (pass v r) _ _
      (λ x. turn_passes (passed c b (v +ℤ c)) (turns n put body c b (v +ℤ c)) (values_from n c b (v +ℤ c)) x
      (λ e. let near = nearer c b v step p e in turns_passes step n (v +ℤ c) x e (omega arith)))

  values_within : (n : ℕ) (v : ℤ) → passed c b v ≡ false → All (λ z. passed c b z ≡ false) (values_from n c b v)
  unfolding values_from
  values_within zero v p = tt
  values_within (suc n) v p =
      (p, last_or (λ z. passed c b z ≡ false) (passed c b (v +ℤ c)) (values_from n c b (v +ℤ c)) (λ e. values_within n (v +ℤ c) e))

  some_pass : (n : ℕ) (a v : ℤ) (r : Ran) → 0 < n → passes put body a (values_from n c b v) r ≡ in_order pass (values_from n c b v) r
  unfolding values_from passes
  some_pass zero a v r h = absurd (omega arith)
  some_pass (suc n) a v r h = refl

  pub for_runs : (a : ℤ) → is_zero c ≡ false → ForRuns put body c b a
  unfolding looped values_of passes
  for_runs a h = go (passed c b a) refl
    where
      go : (t : Bool) → passed c b a ≡ t → ForRuns put body c b a
      go true e = record { runs = λ r. rw (h, looped, e, values_of) refl; within = rw (e, values_of) tt }
      go false e =
          record {
            runs = λ r.
                rw (h, looped, e, values_of)
                (turns_passes h (enough a b) a r e (omega arith) ∙ sym (some_pass (enough a b) a a r (omega arith)));
            within = rw (e, values_of) (values_within (enough a b) a e);
          }
