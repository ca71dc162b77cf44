-- The cells: read in all where their types are known, tested and given their next values one by one.
use mathlib.Core.Bool.{Bool, true, false, cond}
use mathlib.Core.List.{List, [], ◌∷◌, ◌++◌, map, append-nil}
use mathlib.Core.Option.{none, some}
use mathlib.Core.Path.{◌≡◌, refl, sym, ap, ◌∙◌}
use Prim.Native.Nat.{ℕ, suc, ◌+◌, ◌-◌, ◌/◌, ◌%◌, ◌<◌, ◌≤◌}
use native.Mathlib.Omega.{arith}
use native.Mathlib.Numerals.{add-one}
use lib.Dec.{eqb}
use lib.ListN.{length, get_or, take, drop, set, length-map, get_or-map, drop_of_length-le}
use lib.Seq.{drop-cons, take_all, take-suc-set, drop-set-lt, append_snoc}
use Rattle.std.specs.List.{list_all}
use Rattle.paper.specs.Names.{Info}
use Rattle.paper.specs.Plain.{State}
use Rattle.paper.specs.Tables.{Line, is_cell, types, infos_of, next_of, next_state, cells_keep}
use Rattle.paper.specs.Types.{same_ty}
use Rattle.paper.specs.declared.Ty.{Ty}
use Rattle.rows.specs.Lent.{type_in, info_in, is_type, cells_known, cell_passes, IsNext, Answers}
use Rattle.rows.proofs.There.{there, missing, found, answered, certain, no_answer, joined}

-- ---- one cell's type

module _ (xs : List ℕ) (t : Ty) (k : ℕ) where
  pub cell_there : k < length xs → is_cell (map info_in xs) t (record { 0 = k }) ≡ same_ty t (type_in (get_or xs k 0 % 8))
  cell_there h =
      rw (there (map info_in xs) k (info_in 0) (rw (length-map xs info_in) h), get_or-map info_in xs k 0, is_cell)

  pub cell_missing : length xs ≤ k → is_cell (map info_in xs) t (record { 0 = k }) ≡ false
  cell_missing h = rw (missing (map info_in xs) k (rw (length-map xs info_in) h), is_cell)

-- ---- the cells' types

pub infos : (xs : List ℕ) → infos_of xs ≡ cond (cells_known xs) (some (map info_in xs)) none
unfolding infos_of
infos [] = refl
infos (x ∷ xs) =
    rw (found types (x % 8) (type_in 0), infos xs)
    (joined (is_type x) (cells_known xs) (type_in (x % 8)) (map info_in xs) (λ t is. record { ty = t; is_input = eqb (x / 8 % 2) 1 } ∷ is))

pub infos_answer : (xs : List ℕ) (b : Bool) → cells_known xs ≡ b → Answers (infos_of xs) b
infos_answer xs b e = answered b (map info_in xs) (infos xs ∙ rw e)

pub known_back : (xs : List ℕ) (b : Bool) → Answers (infos_of xs) b → cells_known xs ≡ b
known_back xs b a = go (cells_known xs) b (infos xs) a
  where
    go : (k b : Bool) → infos_of xs ≡ cond k (some (map info_in xs)) none → Answers (infos_of xs) b → k ≡ b
    go true true p a = refl
    go false false p a = refl
    go true false p a = absurd (no_answer (sym a ∙ p))
    go false true p a = absurd (no_answer (sym p ∙ a.1))

-- cells of known types are those of the total reading
infos_are : (xs : List ℕ) (is : List Info) → infos_of xs ≡ some is → is ≡ map info_in xs
infos_are xs is e = sym (certain (cells_known xs) (infos xs) e)

-- ---- the next rows

pub cells_every : (ls : List Line) (xs : List ℕ) → list_all (cell_passes ls) xs ≡ cells_keep ls (map info_in xs) xs
unfolding cells_keep
cells_every ls [] = refl
cells_every ls (x ∷ xs) = rw (cells_every ls xs)

-- ---- the next state, from the front: `take i s` are next values already

pub nexts : List ℕ → List ℕ → State → State
nexts vals xs s = next_state (map info_in xs) vals (map next_of xs) s

module _ (xs vals : List ℕ) (s : State) (i : ℕ) where
  nexts_next : (v : ℕ)
      → i < length xs
      → i < length s
      → v ≡ cond (eqb (get_or xs i 0 / 8 % 2) 1) (get_or s i 0) (get_or vals (get_or xs i 0 / 16 - 1) 0)
      → nexts vals (drop i xs) (drop i s) ≡ v ∷ nexts vals (drop (suc i) xs) (drop (suc i) s)
  unfolding nexts next_state
  nexts_next v h k q = rw (q, drop-cons xs i 0 h, drop-cons s i 0 k)

  pub nexts_turn : (v : ℕ) (r : State)
      → i < length xs
      → i < length s
      → v ≡ cond (eqb (get_or xs i 0 / 8 % 2) 1) (get_or s i 0) (get_or vals (get_or xs i 0 / 16 - 1) 0)
      → take i s ++ nexts vals (drop i xs) (drop i s) ≡ r
      → take (i + 1) (set s i v) ++ nexts vals (drop (i + 1) xs) (drop (i + 1) (set s i v)) ≡ r
  nexts_turn v r h k q e =
      rw (add-one i, take-suc-set s i v k, drop-set-lt (suc i) s i v (omega arith))
      (append_snoc (take i s) v (nexts vals (drop (suc i) xs) (drop (suc i) s))
      ∙ ap (λ (l : State). take i s ++ l) (sym (nexts_next v h k q))
      ∙ e)

  pub nexts_done : (r : State)
      → length xs ≤ i
      → length s ≤ i
      → take i s ++ nexts vals (drop i xs) (drop i s) ≡ nexts vals xs r
      → IsNext xs vals r s
  unfolding nexts next_state
  nexts_done r h k e is q =
      sym (take_all i s k)
      ∙ sym (append-nil (take i s))
      ∙ ap (λ (l : State). take i s ++ l) (sym (ap (λ (l : List ℕ). nexts vals l (drop i s)) (drop_of_length-le xs h)))
      ∙ e
      ∙ rw (infos_are xs is q)
