-- The passes of a FOR: the values with which its body runs, as a list.
use Rattle.std.specs.Prelude.{◌≡◌, true, false, List, [], ◌∷◌, ℕ, zero, suc, ℤ, ◌+ℤ◌}
use Rattle.std.proofs.Math.Option.{Option, some}
use Rattle.paper.specs.Plain.{Ran}
use Rattle.paper.specs.Meaning.{passed, enough, looped, ◌>>=◌}
use Rattle.demands.specs.InTypes.{All}

-- v, v + c and so on, exactly, until the next has passed b; n is more than there are
unfoldable pub values_from : ℕ → ℤ → ℤ → ℤ → List ℤ
values_from zero c b v = []
values_from (suc n) c b v = v ∷ elim (passed c b (v +ℤ c)) [ true ↦ [] | false ↦ values_from n c b (v +ℤ c) ]

-- none where a has passed b already
unfoldable pub values_of : ℤ → ℤ → ℤ → List ℤ
values_of c b a = elim (passed c b a) [ true ↦ [] | false ↦ values_from (enough a b) c b a ]

-- one pass for each value, in order
unfoldable pub in_order : (ℤ → Ran → Option Ran) → List ℤ → Ran → Option Ran
in_order pass [] r = some r
in_order pass (v ∷ vs) r = pass v r >>= in_order pass vs

-- without a pass v is set to a
unfoldable pub passes : (ℤ → Ran → Ran) → (Ran → Option Ran) → ℤ → List ℤ → Ran → Option Ran
passes put body a [] r = some (put a r)
passes put body a (v ∷ vs) r = in_order (λ z y. body (put z y)) (v ∷ vs) r

-- what a FOR with a step other than zero does
pub record ForRuns (put : ℤ → Ran → Ran) (body : Ran → Option Ran) (c b a : ℤ) : Type 0 where
  -- its body runs once for each value, in order
  pub runs : (r : Ran) → looped put body c b a r ≡ passes put body a (values_of c b a) r
  -- and no value has passed b
  pub within : All (λ v. passed c b v ≡ false) (values_of c b a)
