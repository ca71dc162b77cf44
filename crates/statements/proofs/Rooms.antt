-- Room for one node more, where a function is that began at `at` with n nodes: at the place a with m nodes, in the pool `mid`.
use mathlib.Core.List.{List}
use Prim.Native.Nat.{ℕ, ◌+◌, ◌*◌, ◌≤◌, ◌<◌}
use native.Mathlib.Omega.{arith}
use lib.ListN.{length}
use mathlib.Core.Path.{◌≡◌, refl}
use Rattle.std.specs.Prelude.{Result}
use Rattle.paper.specs.declared.Refusal.{Refusal}
use Rattle.expressions.specs.declared.Parsed.{Parsed}
use Rattle.expressions.specs.Reads.{Within, Room}

pub record Spare (t mid : List ℕ) (at n a m : ℕ) : Type 0 where
  pub pool : 4 * (m + 1) + 4 ≤ length mid
  pub few : m < 8192
  pub from : at ≤ a
  pub to : a ≤ length t
  pub more : n ≤ m
  pub room : m + 1 + at ≤ n + a

-- where a function ends with that node
pub ended : {t mid : List ℕ} {at n a m : ℕ} → Spare t mid at n a m → Within (length t) at n (record { at = a; count = m + 1; root = m + 1 })
ended s = omega (arith, s)

-- a turn of a loop that began at `at` with n nodes and the root `before`: what R says of the rest from here, it says of the whole from there
pub record Turn (R : List ℕ → List ℕ → ℕ → ℕ → ℕ → Result Parsed Refusal → Type 0) (t old : List ℕ) (at n before : ℕ) (mid : List ℕ) (a m root : ℕ) : Type 0 where
  pub room : Room t mid a m
  pub rooted : root ≤ m
  pub from : at ≤ a
  pub long : length mid ≡ length old
  pub on : {new : List ℕ} {r : Result Parsed Refusal} → R mid new a m root r → R old new at n before r

module _ {R : List ℕ → List ℕ → ℕ → ℕ → ℕ → Result Parsed Refusal → Type 0} {t old : List ℕ} {at n before : ℕ} where
  pub begun : Room t old at n → before ≤ n → Turn R t old at n before old at n before
  begun h l = record { room = h; rooted = l; from = omega arith; long = refl; on = λ x. x }

  -- the next turn, where what is said from there is said from here
  pub turned : {mid new : List ℕ} {a b m k root next : ℕ} → Turn R t old at n before mid a m root
      → Room t new b k → next ≤ k → a ≤ b → length new ≡ length mid → ((end : List ℕ) (r : Result Parsed Refusal) → R new end b k next r → R mid end a m root r)
      → Turn R t old at n before new b k next
  turned T h l f e g = record { room = h; rooted = l; from = omega (arith, T.from); long = omega (arith, T.long); on = λ {new} {r} x. T.on (g new r x) }
