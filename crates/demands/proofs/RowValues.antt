-- The values of rows, and the trees that rows stand for.
use mathlib.Core.Path.{◌≡◌, refl, ap, ◌∙◌}
use mathlib.Core.Bool.{false}
use mathlib.Core.Option.{some}
use mathlib.Core.List.{List, [], ◌∷◌, ◌++◌}
use Prim.Native.Nat.{ℕ, zero, suc, ◌+◌, ◌<◌, ◌≤◌}
use native.Mathlib.Omega.{arith}
use lib.ListN.{length, get_or, set, get_elem?, get_or-append}
use lib.Seq.{get_or_at}
use Rattle.paper.specs.declared.Row.{Row}
use Rattle.paper.specs.Names.{Info}
use Rattle.paper.specs.Plain.{State}
use Rattle.paper.specs.Tables.{Line, Made, Bound, row, push, line_value, values}
use Rattle.demands.specs.Trees.{Tree, truth, tree_value}
use Rattle.demands.proofs.Answers.{none_some}
use Rattle.demands.proofs.Lists.{length_snoc}

-- ---- the values of rows

values_length : (s vals : State) (rs : List Line) → length (values s vals rs) ≡ length vals + length rs
unfolding values
values_length s vals [] = omega arith
values_length s vals (r ∷ rs) = omega (arith, values_length s (vals ++ line_value s vals r ∷ []) rs, length_snoc vals (line_value s vals r))

-- one more row has one more value, and the rows before keep theirs
values_push : (s vals : State) (rs : List Line) (l : Line)
    → values s vals (rs ++ l ∷ []) ≡ values s vals rs ++ line_value s (values s vals rs) l ∷ []
unfolding values
values_push s vals [] l = refl
values_push s vals (r ∷ rs) l = values_push s (vals ++ line_value s vals r ∷ []) rs l

-- the value of the row number i
abbrev pub value_at : State → List Line → ℕ → ℕ
value_at s rs i = get_or (values s [] rs) i 0

-- more rows: those there keep their values
pub record Grows (s : State) (rs more : List Line) : Type 0 where
  pub longer : length rs ≤ length more
  pub keeps : (i : ℕ) → i < length rs → value_at s more i ≡ value_at s rs i

-- a row stands for a tree
pub record Stands (s : State) (rs : List Line) (r : Row) (t : Tree) : Type 0 where
  pub inside : r.0 < length rs
  pub is : value_at s rs r.0 ≡ tree_value s t

-- each cell's row stands for its tree
pub data Env (s : State) (rs : List Line) : List Info → List Row → List Tree → Type 0 where
  empty : Env s rs [] [] []
  cell : {i : Info} {is : List Info} {r : Row} {env : List Row} {t : Tree} {ρ : List Tree}
      → Stands s rs r t → Env s rs is env ρ → Env s rs (i ∷ is) (r ∷ env) (t ∷ ρ)

-- what is made for an expression, behind the rows rs
pub record MadeFor (s : State) (rs : List Line) (x : Made) (t : Tree) : Type 0 where
  pub grows : Grows s rs x.rows
  pub stands : Stands s x.rows x.at t

-- what is made for statements, behind the rows rs
pub record BoundTo (s : State) (rs : List Line) (is : List Info) (x : Bound) (ρ : List Tree) : Type 0 where
  pub grows : Grows s rs x.rows
  pub env_stands : Env s x.rows is x.env ρ

module _ {s : State} where
  pub grows_refl : {rs : List Line} → Grows s rs rs
  grows_refl = record { longer = omega arith; keeps = λ i h. refl }

  pub grows_trans : {rs ss ts : List Line} → Grows s rs ss → Grows s ss ts → Grows s rs ts
  grows_trans g h = record {
    longer = omega arith;
    keeps = λ i l. h.keeps i (omega (arith, g.longer)) ∙ g.keeps i l;
  }

  grows_push : (rs : List Line) (l : Line) → Grows s rs (rs ++ l ∷ [])
  grows_push rs l = record {
    longer = omega (arith, length_snoc rs l);
    keeps = λ i h. ap (λ v. get_or v i 0) (values_push s [] rs l) ∙ get_or-append (values s [] rs) _ 0 i (omega (arith, values_length s [] rs));
  }

  pub stands_grown : {rs more : List Line} {r : Row} {t : Tree} → Grows s rs more → Stands s rs r t → Stands s more r t
  stands_grown {r = r} g h = record { inside = omega arith; is = g.keeps r.0 h.inside ∙ h.is }

  pub env_grown : {rs more : List Line} {is : List Info} {env : List Row} {ρ : List Tree} → Grows s rs more → Env s rs is env ρ → Env s more is env ρ
  env_grown g empty = empty
  env_grown g (cell h e) = cell (stands_grown g h) (env_grown g e)

  -- a row behind others, of a tree's value
  pub pushed : {rs ss : List Line} {t : Tree} (l : Line) → Grows s rs ss → line_value s (values s [] ss) l ≡ tree_value s t → MadeFor s rs (push ss l) t
  pushed {ss = ss} l g e = record {
    grows = grows_trans g (grows_push ss l);
    stands = record {
      inside = omega (arith, length_snoc ss l);
      is = ap (λ v. get_or v (length ss) 0) (values_push s [] ss l) ∙ get_or_at (values s [] ss) _ [] 0 (length ss) (omega (arith, values_length s [] ss)) ∙ e;
    };
  }

  -- ---- environments

  -- a cell that exists has a row that stands for its tree
  pub env_at : {rs : List Line} {is : List Info} {env : List Row} {ρ : List Tree} → Env s rs is env ρ
      → (n : ℕ) (i : Info) → get_elem? is n ≡ some i → Stands s rs (get_or env n (row 0)) (get_or ρ n (truth false))
  env_at empty n i e = none_some e
  env_at (cell h v) zero i e = h
  env_at (cell h v) (suc n) i e = env_at v n i e

  -- a cell that is assigned gets the new row and the new tree
  pub env_set : {rs : List Line} {is : List Info} {env : List Row} {ρ : List Tree} {r : Row} {t : Tree} → Env s rs is env ρ
      → (n : ℕ) → Stands s rs r t → Env s rs is (set env n r) (set ρ n t)
  env_set empty n g = empty
  env_set (cell h v) zero g = cell g v
  env_set (cell h v) (suc n) g = cell h (env_set v n g)
