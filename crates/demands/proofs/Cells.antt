-- Where variables lie among the cells: each in its own part, with its declared type.
use mathlib.Core.Path.{◌≡◌, refl, sym, ap, ap₂, ◌∙◌}
use mathlib.Core.Logic.{◌⊎◌, inl, inr}
use mathlib.Core.Bool.{Bool, true, false, cond, ◌&&◌, ◌||◌, false≢true}
use mathlib.Core.Option.{none, some, some_inj}
use mathlib.Core.List.{List, [], ◌∷◌, ◌++◌}
use Prim.Native.Nat.{ℕ, zero, suc, ◌+◌, ◌-◌, ◌<◌, ◌≤◌}
use native.Mathlib.Omega.{arith}
use borrow.Author.Tests.{eqb-true, eq-eqb, leb-true, le-ltb, ltb-false}
use lib.Dec.{ltb, leb, eqb}
use lib.IntN.{ℤ, pos, negsuc, nat_abs, ◌-ℤ◌}
use lib.Signed.{le_z}
use lib.ListN.{length, get_elem?, length-append, length-replicate}
use Rattle.paper.specs.declared.Cell.{Cell}
use Rattle.paper.specs.declared.Kind.{Kind}
use Rattle.paper.specs.declared.Kind.TheVariants.{Input, Output, Other}
use Rattle.paper.specs.Words.{same_bytes}
use Rattle.paper.specs.Source.{Name, Bounds, single, array, Declared}
use Rattle.paper.specs.Names.{Variable, Info, size_of, same_kind, of_kind, printed, placed, variables_of, cells_of, find, at, is_among, reversed, declaration_faults}
use Rattle.paper.specs.Meaning.{cell_of_variable, cell_of_element}
use Rattle.demands.proofs.Truths.{and_true, or_false}
use Rattle.demands.proofs.Answers.{none_some, no_fault, no_fault_at}
use Rattle.demands.proofs.Lists.{copies_front, copies_behind}

-- ---- names

pub same_bytes_eq : (m n : Name) → same_bytes m n ≡ true → m ≡ n
unfolding same_bytes
same_bytes_eq [] [] h = refl
same_bytes_eq [] (d ∷ t) h = absurd (false≢true h)
same_bytes_eq (c ∷ s) [] h = absurd (false≢true h)
same_bytes_eq (c ∷ s) (d ∷ t) h =
    let (first, rest) = and_true (eqb c d) (same_bytes s t) h in
    ap₂ ◌∷◌ (eqb-true c d first) (same_bytes_eq s t rest)

pub same_bytes_refl : (n : Name) → same_bytes n n ≡ true
unfolding same_bytes
same_bytes_refl [] = refl
same_bytes_refl (c ∷ s) = rw (eq-eqb c c refl, same_bytes_refl s)

-- ---- the cells of one variable

-- what a variable's declaration says of its cells
abbrev pub info_of : Variable → Info
info_of v = record { ty = v.declared.ty; is_input = same_kind Input v.declared.kind }

-- c is one of the cells of v
pub record CellOf (v : Variable) (c : Cell) : Type 0 where
  pub at : ℕ
  pub inside : at < size_of v.declared.bounds
  pub is : c.0 ≡ v.first + at

pub variable_cell_lem : (v : Variable) (c : Cell) → cell_of_variable v ≡ some c → CellOf v c
variable_cell_lem v c h = go v.declared.bounds refl
  where
    go : (b : Bounds) → v.declared.bounds ≡ b → CellOf v c
    go single e =
        let i : c ≡ record { 0 = v.first } = sym (some_inj.0 (rw e at h)) in
        record { at = 0; inside = rw e (omega arith); is = omega (arith, ap (λ (x : Cell). x.0) i) }
    go (array p lo q hi) e = none_some (rw e at h)

-- an element between the bounds is one of those that they count
element_inside : (lo hi : ℕ) (z : ℤ) → (le_z (pos lo) z && le_z z (pos hi)) ≡ true → nat_abs (z -ℤ pos lo) < suc hi - lo
element_inside zero hi (pos a) h =
    omega (arith, leb-true a hi (and_true (leb zero a) (leb a hi) h).1)
element_inside (suc lo) hi (pos a) h =
    let (above, below) = and_true (leb (suc lo) a) (leb a hi) h in
    let low : suc lo ≤ a = leb-true (suc lo) a above in
    rw (le-ltb a (suc lo) low) (omega (arith, leb-true a hi below))
element_inside zero hi (negsuc a) h = absurd (false≢true h)
element_inside (suc lo) hi (negsuc a) h = absurd (false≢true h)

pub element_cell_lem : (v : Variable) (z : ℤ) (c : Cell) → cell_of_element v z ≡ some c → CellOf v c
element_cell_lem v z c h = go v.declared.bounds refl
  where
    among : (lo hi : ℕ) → size_of v.declared.bounds ≡ suc hi - lo → (b : Bool) → (le_z (pos lo) z && le_z z (pos hi)) ≡ b
        → cond b (some (record { 0 = v.first + nat_abs (z -ℤ pos lo) })) none ≡ some c → CellOf v c
    among lo hi e true t h =
        record { at = nat_abs (z -ℤ pos lo); inside = rw e (element_inside lo hi z t); is = ap (λ (x : Cell). x.0) (sym (some_inj.0 h)) }
    among lo hi e false t h = none_some h

    go : (b : Bounds) → v.declared.bounds ≡ b → CellOf v c
    go single e = none_some (rw e at h)
    go (array p lo q hi) e = among lo hi (rw e) (le_z (pos lo) z && le_z z (pos hi)) refl (rw e at h)

-- ---- the variable of a name

-- v is the first variable with the name n, of those placed from k on
abbrev Found : Name → Variable → ℕ → List Declared → Type 0
Found n v k [] = ⊥
Found n v k (d ∷ ds) = ((same_bytes n d.name ≡ true) × (v ≡ record { declared = d; first = k })) ⊎ Found n v (k + size_of d.bounds) ds

-- what `find` answers
found : (n : Name) (v : Variable) (k : ℕ) (ds : List Declared) → find n (placed k ds) ≡ some v → Found n v k ds
unfolding find placed
found n v k [] h = none_some h
found n v k (d ∷ ds) h = go (same_bytes n d.name) refl h (found n v (k + size_of d.bounds) ds)
  where
    go : (b : Bool) → same_bytes n d.name ≡ b
        → elim b [ true ↦ some (record { declared = d; first = k }) | false ↦ find n (placed (k + size_of d.bounds) ds) ] ≡ some v
        → (find n (placed (k + size_of d.bounds) ds) ≡ some v → Found n v (k + size_of d.bounds) ds) → Found n v k (d ∷ ds)
    go true e i rest = inl (e, sym (some_inj.0 i))
    go false e i rest = inr (rest i)

-- v is d placed at k: where it begins, and how many cells it has
placed_first : (v : Variable) (k : ℕ) (d : Declared) → v ≡ record { declared = d; first = k }
    → (v.first ≡ k) × (size_of v.declared.bounds ≡ size_of d.bounds)
placed_first v k d e = (ap (λ (u : Variable). u.first) e, ap (λ (u : Variable). size_of u.declared.bounds) e)

-- a variable that is found lies at k or above
found_above : (n : Name) (v : Variable) (k : ℕ) (ds : List Declared) → Found n v k ds → k ≤ v.first
found_above n v k [] f = absurd f
found_above n v k (d ∷ ds) (inl f) = omega (arith, (placed_first v k d f.1).0)
found_above n v k (d ∷ ds) (inr f) = omega (arith, found_above n v (k + size_of d.bounds) ds f)

-- of the cells from k on, those of v have its info
found_info : (n : Name) (v : Variable) (k : ℕ) (ds : List Declared) → Found n v k ds
    → (i j : ℕ) → j < size_of v.declared.bounds → k + i ≡ v.first + j → get_elem? (cells_of (placed k ds)) i ≡ some (info_of v)
unfolding cells_of placed
found_info n v k [] f i j h e = absurd f
found_info n v k (d ∷ ds) (inl f) i j h e =
    let lies = placed_first v k d f.1 in
    rw f.1 (copies_front (size_of d.bounds) _ (cells_of (placed (k + size_of d.bounds) ds)) i (omega arith))
found_info n v k (d ∷ ds) (inr f) i j h e =
    let size : ℕ = size_of d.bounds in
    let above : k + size ≤ v.first = found_above n v (k + size) ds f in
    let there : i ≡ size + (i - size) = omega arith in
    ap (get_elem? (cells_of (placed k (d ∷ ds)))) there
    ∙ copies_behind size _ (cells_of (placed (k + size) ds)) (i - size)
    ∙ found_info n v (k + size) ds f (i - size) j h (omega arith)

-- variables with different names have no cell in common
found_apart : (m n : Name) (v w : Variable) → same_bytes m n ≡ false → (k : ℕ) (ds : List Declared) → Found m v k ds → Found n w k ds
    → (i j : ℕ) → i < size_of v.declared.bounds → j < size_of w.declared.bounds → ¬ (v.first + i ≡ w.first + j)
found_apart m n v w h k [] f g i j x y e = absurd f
found_apart m n v w h k (d ∷ ds) (inl f) (inl g) i j x y e =
    let same : m ≡ n = same_bytes_eq m d.name f.0 ∙ sym (same_bytes_eq n d.name g.0) in
    false≢true (sym h ∙ rw same (same_bytes_refl n))
found_apart m n v w h k (d ∷ ds) (inl f) (inr g) i j x y e =
    let lies = placed_first v k d f.1 in
    omega (arith, found_above n w (k + size_of d.bounds) ds g)
found_apart m n v w h k (d ∷ ds) (inr f) (inl g) i j x y e =
    let lies = placed_first w k d g.1 in
    omega (arith, found_above m v (k + size_of d.bounds) ds f)
found_apart m n v w h k (d ∷ ds) (inr f) (inr g) i j x y e = found_apart m n v w h (k + size_of d.bounds) ds f g i j x y e

-- ---- how many cells

-- the cells of all declarations
total : List Declared → ℕ
total [] = 0
total (d ∷ ds) = size_of d.bounds + total ds

-- joined lists have the cells of both
total_append : (cs ds : List Declared) → total (cs ++ ds) ≡ total cs + total ds
unfolding total
total_append [] ds = omega arith
total_append (d ∷ cs) ds = omega (arith, total_append cs ds)

-- the list of cells is as long
cells_total : (k : ℕ) (ds : List Declared) → length (cells_of (placed k ds)) ≡ total ds
unfolding cells_of placed total
cells_total k [] = refl
cells_total k (d ∷ ds) = simp (length-append, length-replicate, cells_total (k + size_of d.bounds) ds)

-- a variable that is found ends among them
found_inside : (n : Name) (v : Variable) (k : ℕ) (ds : List Declared) → Found n v k ds → v.first + size_of v.declared.bounds ≤ k + total ds
unfolding total
found_inside n v k [] f = absurd f
found_inside n v k (d ∷ ds) (inl f) = let lies = placed_first v k d f.1 in omega arith
found_inside n v k (d ∷ ds) (inr f) = omega (arith, found_inside n v (k + size_of d.bounds) ds f)

-- of the three kinds, a declaration has one
pub one_kind : (x : Kind) (s : ℕ) → cond (same_kind Input x) s 0 + cond (same_kind Output x) s 0 + cond (same_kind Other x) s 0 ≡ s
one_kind Input s = omega arith
one_kind Output s = omega arith
one_kind Other s = omega arith

-- what one declaration adds to the cells of a kind
total_of_kind : (x : Kind) (d : Declared) (ds : List Declared)
    → total (of_kind x (d ∷ ds)) ≡ cond (same_kind x d.kind) (size_of d.bounds) 0 + total (of_kind x ds)
unfolding of_kind total
total_of_kind x d ds = go (same_kind x d.kind)
  where
    go : (b : Bool) → total (cond b (d ∷ of_kind x ds) (of_kind x ds)) ≡ cond b (size_of d.bounds) 0 + total (of_kind x ds)
    go true = refl
    go false = omega arith

-- so the printed order leaves none out and none twice
total_kinds : (ds : List Declared) → total (of_kind Input ds) + total (of_kind Output ds) + total (of_kind Other ds) ≡ total ds
unfolding of_kind total
total_kinds [] = refl
total_kinds (d ∷ ds) =
    omega (arith, total_of_kind Input d ds, total_of_kind Output d ds, total_of_kind Other d ds, one_kind d.kind (size_of d.bounds), total_kinds ds)

total_printed : (ds : List Declared) → total (printed ds) ≡ total ds
unfolding printed
total_printed ds = simp total_append (total_kinds ds)

-- declarations without a fault, behind n cells: there is no 65th
no_65th : (before : List Name) (n : ℕ) (ds : List Declared) → n ≤ 64 → declaration_faults before n ds ≡ [] → n + total ds ≤ 64
unfolding declaration_faults total
no_65th before n [] k h = omega arith
no_65th before n (d ∷ ds) k h =
    let m : ℕ = n + size_of d.bounds in
    let other : Bool = is_among d.name before || reversed d.bounds in
    let (own, rest) = no_fault (at d.place (other || ltb 64 m)) (declaration_faults (d.name ∷ before) m ds) h in
    let fits : m ≤ 64 = ltb-false 64 m (or_false other (ltb 64 m) (no_fault_at d.place (other || ltb 64 m) own)).1 in
    omega (arith, no_65th (d.name ∷ before) m ds fits rest)

-- ---- of a program's variables

module _ (ds : List Declared) where
  -- a cell of a variable has its info
  pub find_info : (n : Name) (v : Variable) → find n (variables_of ds) ≡ some v
      → (c : Cell) → CellOf v c → get_elem? (cells_of (variables_of ds)) c.0 ≡ some (info_of v)
  unfolding variables_of
  find_info n v f c h = found_info n v 0 (printed ds) (found n v 0 (printed ds) f) c.0 h.at h.inside (omega (arith, h.is))

  -- the cells of a variable are among all
  pub find_inside : (n : Name) (v : Variable) → find n (variables_of ds) ≡ some v
      → v.first + size_of v.declared.bounds ≤ length (cells_of (variables_of ds))
  unfolding variables_of
  find_inside n v f = omega (arith, found_inside n v 0 (printed ds) (found n v 0 (printed ds) f), cells_total 0 (printed ds))

  -- cells of variables with different names are apart
  pub find_apart : (m n : Name) (v w : Variable) → find m (variables_of ds) ≡ some v → find n (variables_of ds) ≡ some w
      → same_bytes m n ≡ false
      → (c d : Cell) → CellOf v c → CellOf w d → ¬ (c.0 ≡ d.0)
  unfolding variables_of
  find_apart m n v w f g h c d x y e =
      found_apart m n v w h 0 (printed ds) (found m v 0 (printed ds) f) (found n w 0 (printed ds) g) x.at y.at x.inside y.inside
      (sym x.is ∙ e ∙ y.is)

  -- without a fault in the declarations there are at most 64 cells
  pub few_cells : declaration_faults [] 0 ds ≡ [] → length (cells_of (variables_of ds)) ≤ 64
  unfolding variables_of
  few_cells h = omega (arith, cells_total 0 (printed ds), total_printed ds, no_65th [] 0 ds (omega arith) h)
