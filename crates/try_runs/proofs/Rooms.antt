-- Refusals for want of room.
use mathlib.Core.Path.{◌≡◌, refl, sym, ap, ap₂, ◌∙◌}
use mathlib.Core.List.{List, ◌∷◌}
use Prim.Native.Nat.{ℕ, zero, suc, ◌≤◌}
use native.Mathlib.Omega.{arith}
use lib.IntN.{ℤ}
use lib.ListN.{take, replicate}
use Rattle.std.specs.Prelude.{Ok, Err}
use Rattle.paper.specs.declared.Why.TheVariants.{NoRoom}
use Rattle.paper.specs.Refusals.{Answer, refused, given, why_of}
use Rattle.paper.specs.Tables.{Lent}
use Rattle.paper.specs.Judge.{judge, start_into, table_into}
use Rattle.paper.proofs.Whys.{why_number}
use Rattle.pack.specs.Records.{numbered}
use Rattle.lent.specs.Outcomes.{outcome}
use Rattle.kaldvimur.specs.Scans.{celled}
use Rattle.try_runs.specs.Expected.{IsAs, StartsAs}
use Rattle.try_runs.specs.Short.{TablesAs}

-- ---- answers

no_room : {A : Type 0} (f : A → ℕ) (a : Answer A) → IsAs (outcome f a) (Err (numbered 10 0)) → a ≡ refused NoRoom 0
no_room f (refused w p) h = ap₂ refused (sym (why_number w) ∙ ap why_of h.0) h.1
no_room f (given x) h = absurd h

pub no_state : {t : List ℕ} {old after : List ℤ} → StartsAs t old after (Err (numbered 10 0)) → start_into t old ≡ refused NoRoom 0
no_state {t} {old} h = no_room (λ _. celled (judge t)) (start_into t old) h.answer

pub no_table : {t rows cells : List ℕ} → TablesAs t rows cells (Err (numbered 10 0)) → table_into t rows cells ≡ refused NoRoom 0
no_table {t} {rows} {cells} h = no_room (λ u. u.cell_count) (table_into t rows cells) h.answer

done : (a : Answer Lent) (k : ℕ) → IsAs (outcome (λ u. u.cell_count) a) (Ok k) → (u : Lent) × (a ≡ given u) × (u.cell_count ≡ k)
done (refused w p) k h = absurd h
done (given u) k h = (u, refl, h)

pub is_made : {t rows cells : List ℕ} {k : ℕ} → TablesAs t rows cells (Ok k) → (u : Lent) × (table_into t rows cells ≡ given u) × (u.cell_count ≡ k)
is_made {t} {rows} {cells} {k} h = done (table_into t rows cells) k h.answer

-- ---- the front of a buffer that holds one number only

pub front : {A : Type 0} (n m : ℕ) (a : A) → n ≤ m → replicate n a ≡ take n (replicate m a)
front zero m a h = refl
front (suc n) zero a h = absurd (omega arith)
front (suc n) (suc m) a h = ap (λ l. a ∷ l) (front n m a (omega arith))

pub fronts : (t : List ℕ) (n m k j v : ℕ) → n ≤ m → k ≤ j → table_into t (replicate n v) (replicate k v) ≡ table_into t (take n (replicate m v)) (take k (replicate j v))
fronts t n m k j v h l = ap₂ (table_into t) (front n m v h) (front k j v l)
