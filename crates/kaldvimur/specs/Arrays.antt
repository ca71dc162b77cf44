-- The arrays that a text is judged in: the program that stands in them, and what is done with it.
use Rattle.std.specs.Prelude.{◌≡◌, List, ℕ}
use Rattle.paper.specs.Judge.{Sound}
use Rattle.judge.specs.declared.Judged.{Judged}
use Rattle.judge.specs.Judged.{Roomy, Stands}
use Rattle.kaldvimur.specs.declared.arrays.Program.{Program}
use denote.Ref.{MutBor}

-- P of the pool, the table, the pool for ST0 and where the program x stands there
abbrev pub In : Program → (List ℕ → List ℕ → List ℕ → Judged → Type 0) → Type 0
In x P = P x.pool.now x.table.now x.plain.now x.judged

-- the accepted program a of the text t
abbrev pub Holds : List ℕ → Sound → Program → Type 0
Holds t a x = In x (λ p table q j. Stands t p table q a j)

-- ---- arrays made

abbrev pub Array : Type 0 → Type 0
Array A = MutBor (List A)

-- it may be done in whatever arrays have room for the text t
abbrev pub Works : {A B : Type 0} → (Array ℕ → Array ℕ → Array ℕ → Array A → Array B → Type 0) → List ℕ → Type 0
Works {A} {B} pre t = (pool table plain : Array ℕ) (first : Array A) (second : Array B) → Roomy t pool.now table.now plain.now → pre pool table plain first second

-- it was done in some that have, gave r, and left x' and y' in the lent x and y
pub record Worked {A B R : Type 0}
    (post : Array ℕ → Array ℕ → Array ℕ → Array A → Array B → R → Array ℕ → Array ℕ → Array ℕ → Array A → Array B → Type 0)
    (t : List ℕ) (x : List A) (y : List B) (r : R) (x' : List A) (y' : List B) : Type 0 where
  pub pool : Array ℕ
  pub table : Array ℕ
  pub plain : Array ℕ
  pub first : Array A
  pub second : Array B
  pub pool_left : Array ℕ
  pub table_left : Array ℕ
  pub plain_left : Array ℕ
  pub first_left : Array A
  pub second_left : Array B
  pub done : post pool table plain first second r pool_left table_left plain_left first_left second_left
  pub room : Roomy t pool.now table.now plain.now
  pub lent : (first.now ≡ x) × (second.now ≡ y)
  pub left : (first_left.now ≡ x') × (second_left.now ≡ y')
