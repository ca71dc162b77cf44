-- A cell by the first variable that has it.
use mathlib.Core.Path.{◌≡◌, refl, sym, ap, ◌∙◌}
use mathlib.Core.Bool.{Bool, true, false, cond, ◌&&◌}
use mathlib.Core.List.{List, [], ◌∷◌, ◌++◌}
use Prim.Native.Nat.{ℕ, zero, suc, ◌+◌, ◌-◌, ◌/◌, ◌≤◌, ◌<◌}
use native.Mathlib.Numerals.{add-one}
use native.Mathlib.Omega.{arith}
use borrow.Author.Tests.{eqb-true, eqb-false, leb-true}
use lib.Dec.{eqb, leb}
use lib.ListN.{length, get_or, drop, length-append, get_or-append}
use lib.Seq.{drop-cons, drop-length, get_or_at}
use Rattle.paper.specs.Source.{Bounds, single, array}
use Rattle.paper.specs.Names.{Variable, is_array}
use Rattle.paper.specs.Printing.{put, natural, cell, cell_of_variable}
use Rattle.tree.specs.Nodes.{word_of, kind_of, child_of}
use Rattle.tree.specs.Trees.{wide, place_at}
use Rattle.variables.specs.Table.{bounds_in, node_in, name_in, listed_to, listed_in}
use Rattle.print.specs.Parts.{variable_at, holds, subscript}

-- ---- the variables one by one

module _ (t p tab : List ℕ) where
  listed_length : (n : ℕ) → length (listed_to t p tab n) ≡ n
  unfolding listed_to
  listed_length zero = refl
  listed_length (suc n) = length-append (listed_to t p tab n) (variable_at t p tab n ∷ []) ∙ omega (arith, listed_length n)

  listed_at : (d : Variable) (n v : ℕ) → v < n → get_or (listed_to t p tab n) v d ≡ variable_at t p tab v
  unfolding listed_to
  listed_at d zero v l = absurd (omega arith)
  listed_at d (suc n) v l = go (eqb v n) refl (λ m. listed_at d n v m)
    where
      go : (b : Bool) → eqb v n ≡ b → (v < n → get_or (listed_to t p tab n) v d ≡ variable_at t p tab v)
          → get_or (listed_to t p tab n ++ variable_at t p tab n ∷ []) v d ≡ variable_at t p tab v
      go true e next =
          rw (eqb-true v n e) (get_or_at (listed_to t p tab n) (variable_at t p tab n) [] d n (listed_length n))
      go false e next =
          let l : v < n = omega (arith, eqb-false v n e) in
          let s : v < length (listed_to t p tab n) = rw (listed_length n) l in
          get_or-append (listed_to t p tab n) (variable_at t p tab n ∷ []) d v s ∙ next l

  -- those from v on
  abbrev pub rest : ℕ → List Variable
  rest v = drop v (listed_in t p tab)

  rest_cons : (v : ℕ) → v < length tab / 4 → rest v ≡ variable_at t p tab v ∷ rest (v + 1)
  unfolding listed_in
  rest_cons v l =
      let d = variable_at t p tab v in
      let s : v < length (listed_to t p tab (length tab / 4)) = rw (listed_length (length tab / 4)) l in
      drop-cons (listed_to t p tab (length tab / 4)) v d s
      ∙ rw (listed_at d (length tab / 4) v l, add-one v)

  rest_none : rest (length tab / 4) ≡ []
  unfolding listed_in
  rest_none = ap (λ n. drop n (listed_to t p tab (length tab / 4))) (sym (listed_length (length tab / 4))) ∙ drop-length (listed_to t p tab (length tab / 4))

  module _ (c : ℕ) (k : List ℕ) where
    pub passed : (v : ℕ) → v < length tab / 4 → holds p tab c v ≡ false → cell (rest v) c k ≡ cell (rest (v + 1)) c k
    unfolding cell
    passed v l e = ap (λ vs. cell vs c k) (rest_cons v l) ∙ rw (e, cell)

    pub found : (v : ℕ) → v < length tab / 4 → holds p tab c v ≡ true → cell (rest v) c k ≡ cell_of_variable (variable_at t p tab v) c k
    unfolding cell
    found v l e = ap (λ vs. cell vs c k) (rest_cons v l) ∙ rw (e, cell)

    pub missing : cell (rest (length tab / 4)) c k ≡ k
    unfolding cell
    missing = ap (λ vs. cell vs c k) rest_none

-- ---- which variable has a cell

pub holds_from : (p tab : List ℕ) (c v : ℕ) → holds p tab c v ≡ true → word_of tab v 2 ≤ c
holds_from p tab c v = go (leb (word_of tab v 2) c) refl _
  where
    go : (b : Bool) → leb (word_of tab v 2) c ≡ b → (x : Bool) → (b && x) ≡ true → word_of tab v 2 ≤ c
    go true e x h = leb-true (word_of tab v 2) c e
    go false e x h = let z : ◌≡◌ {A = ℕ} 0 1 = cc in absurd (omega arith)

-- ---- its print

pub no_subscript : (b : Bounds) (o : ℕ) (k : List ℕ) → is_array b ≡ false → subscript b o k ≡ k
no_subscript single o k e = refl
no_subscript (array p lo q hi) o k e = cc

a_subscript : (t : Bool) (p lo q hi o : ℕ) (k : List ℕ) → is_array (cond t (array p lo q hi) single) ≡ true
    → subscript (cond t (array p lo q hi) single) o k ≡ put "[" (natural (lo + o) (put "]" k))
a_subscript true p lo q hi o k e = refl
a_subscript false p lo q hi o k e = cc

pub some_subscript : (p : List ℕ) (j o i a lo : ℕ) (k : List ℕ) → is_array (bounds_in p j) ≡ true → i ≡ child_of p (child_of p j 2) 1 → a ≡ child_of p i 1
    → lo ≡ wide p a → subscript (bounds_in p j) o k ≡ put "[" (natural (lo + o) (put "]" k))
some_subscript p j o i a lo k e x y z =
    let b = child_of p (child_of p j 2) 1 in
    rw (z, y, x)
    (a_subscript (eqb (kind_of p b) 34) (place_at p (child_of p b 1)) (wide p (child_of p b 1)) (place_at p (child_of p b 2)) (wide p (child_of p b 2)) o k e)

of_variable : (v : Variable) (c : ℕ) (k : List ℕ) → cell_of_variable v c k ≡ v.declared.name ++ subscript v.declared.bounds (c - v.first) k
of_variable v c k = go v.declared.bounds
  where
    go : (b : Bounds) → elim b [
      | single ↦ v.declared.name ++ k
      | array p lo q hi ↦ v.declared.name ++ put "[" (natural (lo + (c - v.first)) (put "]" k))
    ] ≡ v.declared.name ++ subscript b (c - v.first) k
    go single = refl
    go (array p lo q hi) = refl

pub variable_cell_lem : (t p tab : List ℕ) (v c j f : ℕ) (k : List ℕ) → j ≡ node_in p (word_of tab v 1) → f ≡ word_of tab v 2
    → cell_of_variable (variable_at t p tab v) c k ≡ name_in t tab v ++ subscript (bounds_in p j) (c - f) k
variable_cell_lem t p tab v c j f k d e = rw (d, e) (of_variable (variable_at t p tab v) c k)
