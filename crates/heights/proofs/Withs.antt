-- The soonest so far, with more faults.
use mathlib.Core.Path.{◌≡◌, sym, ap, ◌∙◌}
use mathlib.Core.List.{List, [], ◌++◌}
use Prim.Native.Nat.{ℕ}
use Rattle.std.specs.Prelude.{Option}
use Rattle.faults.specs.Soonest.{soonest, sooner}
use Rattle.faults.proofs.Soonest.{sooner_none, sooner_comm, sooner_assoc, soonest_none, soonest_append}
use Rattle.heights.specs.Measured.{With}

pub with_same : (best r : Option ℕ) (f g : List ℕ → List ℕ) → With best r f → ((t : List ℕ) → g t ≡ f t) → With best r g
with_same best r f g h e t = h t ∙ ap (λ ps. sooner best (soonest ps)) (sym (e t))

pub with_none : (best : Option ℕ) (f : List ℕ → List ℕ) → ((t : List ℕ) → f t ≡ []) → With best best f
with_none best f e t = sym (ap (λ ps. sooner best (soonest ps)) (e t) ∙ ap (sooner best) soonest_none ∙ sooner_none best)

pub with_then : (best x r : Option ℕ) (f g : List ℕ → List ℕ) → With best x f → With x r g → With best r (λ t. f t ++ g t)
with_then best x r f g h k t =
    k t
    ∙ ap (λ y. sooner y (soonest (g t))) (h t)
    ∙ sooner_assoc best (soonest (f t)) (soonest (g t))
    ∙ ap (sooner best) (sym (soonest_append (f t) (g t)))

-- in which order doesn't matter
pub with_turned : (best r : Option ℕ) (f g : List ℕ → List ℕ) → With best r (λ t. f t ++ g t) → With best r (λ t. g t ++ f t)
with_turned best r f g h t =
    h t
    ∙ ap (sooner best)
    (soonest_append (f t) (g t) ∙ sooner_comm (soonest (f t)) (soonest (g t)) ∙ sym (soonest_append (g t) (f t)))
