-- Names looked up among the variables of the table, and among places.
use mathlib.Core.Path.{◌≡◌, refl, sym, ap, ◌∙◌}
use mathlib.Core.Bool.{Bool, true, false, ◌||◌, or-true}
use mathlib.Core.Option.{none, some}
use mathlib.Core.List.{List, [], ◌∷◌, ◌++◌, append_assoc, append-nil}
use Prim.Native.Nat.{ℕ, zero, suc, ◌+◌, ◌/◌, ◌<◌}
use native.Mathlib.Omega.{arith}
use borrow.Author.Tests.{eqb-true, eqb-false}
use lib.Dec.{eqb}
use lib.ListN.{length, get_or}
use Rattle.paper.specs.Words.{same_bytes}
use Rattle.paper.specs.Source.{Name, Declared}
use Rattle.paper.specs.Names.{Variable, size_of, placed, find, is_among}
use Rattle.tree.specs.Nodes.{word_of}
use Rattle.tree.specs.Trees.{name_at}
use Rattle.variables.specs.Table.{name_in, entry_at, entries, variables_in, listed_to, listed_in, names_to}

-- ---- variables

module _ (s : Name) where
  -- what has another name is passed over
  find_next : (n : ℕ) (d : Declared) (ds : List Declared) → same_bytes s d.name ≡ false
      → find s (placed n (d ∷ ds)) ≡ find s (placed (n + size_of d.bounds) ds)
  unfolding find placed
  find_next n d ds h = rw (h, find)

  find_here : (n : ℕ) (d : Declared) (ds : List Declared) → same_bytes s d.name ≡ true
      → find s (placed n (d ∷ ds)) ≡ some (record { declared = d; first = n })
  unfolding find placed
  find_here n d ds h = rw (h, find)

  find_none : (n : ℕ) → find s (placed n []) ≡ none
  unfolding find placed
  find_none n = refl

  find_other : (v : Variable) (vs : List Variable) → same_bytes s v.declared.name ≡ false → find s (v ∷ vs) ≡ find s vs
  unfolding find
  find_other v vs h = rw (h, find)

  find_this : (v : Variable) (vs : List Variable) → same_bytes s v.declared.name ≡ true → find s (v ∷ vs) ≡ some v
  unfolding find
  find_this v vs h = rw (h, find)

  find_nothing : find s [] ≡ none
  unfolding find
  find_nothing = refl

module _ (t tab : List ℕ) (place : ℕ) where
  abbrev Other : ℕ → Type 0
  Other k = same_bytes (name_at t place) (name_in t tab k) ≡ false

  -- none of the first n has the name
  abbrev pub NoneTo : ℕ → Type 0
  NoneTo n = (k : ℕ) → k < n → Other k

  pub none_next : (n : ℕ) → NoneTo n → Other n → NoneTo (n + 1)
  none_next n h e k l = go (eqb k n) refl
    where
      go : (b : Bool) → eqb k n ≡ b → Other k
      go true q = rw (eqb-true k n q) e
      go false q = h k (omega (arith, eqb-false k n q))

  module _ (p : List ℕ) where
    abbrev s : Name
    s = name_at t place

    -- the first n are passed over
    passed : (n m : ℕ) (ds : List Declared) → NoneTo n → (k : ℕ) × (find s (placed m (entries t p tab n ++ ds)) ≡ find s (placed k ds))
    unfolding entries
    passed zero m ds h = (m, refl)
    passed (suc n) m ds h =
        let e = entry_at t p tab n in
        let q = passed n m (e ∷ ds) (λ k l. h k (omega arith)) in (
          q.0 + size_of e.bounds,
          ap (λ xs. find s (placed m xs)) (append_assoc (entries t p tab n) (e ∷ []) ds) ∙ q.1 ∙ find_next s q.0 e ds (h n (omega arith)),
        )

    -- the first n, the next, and others
    split : (n r : ℕ) → r < n → (ds : List Declared) × (entries t p tab n ≡ entries t p tab r ++ entry_at t p tab r ∷ ds)
    unfolding entries
    split zero r h = absurd (omega arith)
    split (suc n) r h = go (eqb r n) refl (λ l. split n r l)
      where
        go : (b : Bool) → eqb r n ≡ b → (r < n → (ds : List Declared) × (entries t p tab n ≡ entries t p tab r ++ entry_at t p tab r ∷ ds))
            → (ds : List Declared) × (entries t p tab (suc n) ≡ entries t p tab r ++ entry_at t p tab r ∷ ds)
        go true e next = ([], ap (λ k. entries t p tab k ++ entry_at t p tab k ∷ []) (sym (eqb-true r n e)))
        go false e next =
            let q = next (omega (arith, eqb-false r n e)) in (
              q.0 ++ entry_at t p tab n ∷ [],
              ap (λ xs. xs ++ entry_at t p tab n ∷ []) q.1 ∙ append_assoc (entries t p tab r) (entry_at t p tab r ∷ q.0) (entry_at t p tab n ∷ []),
            )

    pub found_at : (r : ℕ) → r < length tab / 4 → NoneTo r → same_bytes s (name_in t tab r) ≡ true
        → (m : ℕ) × (find s (variables_in t p tab) ≡ some (record { declared = entry_at t p tab r; first = m }))
    unfolding variables_in
    found_at r l h e =
        let (ds, is) = split (length tab / 4) r l in
        let q = passed r 0 (entry_at t p tab r ∷ ds) h in
        (q.0, ap (λ xs. find s (placed 0 xs)) is ∙ q.1 ∙ find_here s q.0 (entry_at t p tab r) ds e)

    pub found_none : NoneTo (length tab / 4) → find s (variables_in t p tab) ≡ none
    unfolding variables_in
    found_none h =
        let q = passed (length tab / 4) 0 [] h in
        ap (λ xs. find s (placed 0 xs)) (sym (append-nil (entries t p tab (length tab / 4)))) ∙ q.1 ∙ find_none s q.0

    -- ---- the same in the table as it stands

    abbrev listing : ℕ → Variable
    listing k = record { declared = entry_at t p tab k; first = word_of tab k 2 }

    passed_listed : (n : ℕ) (vs : List Variable) → NoneTo n → find s (listed_to t p tab n ++ vs) ≡ find s vs
    unfolding listed_to
    passed_listed zero vs h = refl
    passed_listed (suc n) vs h =
        ap (find s) (append_assoc (listed_to t p tab n) (listing n ∷ []) vs)
        ∙ passed_listed n (listing n ∷ vs) (λ k l. h k (omega arith))
        ∙ find_other s (listing n) vs (h n (omega arith))

    -- the first n are the first r, the next, and others
    split_listed : (n r : ℕ) → r < n → (vs : List Variable) × (listed_to t p tab n ≡ listed_to t p tab r ++ listing r ∷ vs)
    unfolding listed_to
    split_listed zero r h = absurd (omega arith)
    split_listed (suc n) r h = go (eqb r n) refl (λ l. split_listed n r l)
      where
        go : (b : Bool) → eqb r n ≡ b → (r < n → (vs : List Variable) × (listed_to t p tab n ≡ listed_to t p tab r ++ listing r ∷ vs))
            → (vs : List Variable) × (listed_to t p tab (suc n) ≡ listed_to t p tab r ++ listing r ∷ vs)
        go true e next = ([], ap (λ k. listed_to t p tab k ++ listing k ∷ []) (sym (eqb-true r n e)))
        go false e next =
            let q = next (omega (arith, eqb-false r n e)) in (
              q.0 ++ listing n ∷ [],
              ap (λ xs. xs ++ listing n ∷ []) q.1 ∙ append_assoc (listed_to t p tab r) (listing r ∷ q.0) (listing n ∷ []),
            )

    pub listed_at : (r : ℕ) → r < length tab / 4 → NoneTo r → same_bytes s (name_in t tab r) ≡ true → find s (listed_in t p tab) ≡ some (listing r)
    unfolding listed_in
    listed_at r l h e =
        let q = split_listed (length tab / 4) r l in
        ap (find s) q.1 ∙ passed_listed r (listing r ∷ q.0) h ∙ find_this s (listing r) q.0 e

    pub listed_none : NoneTo (length tab / 4) → find s (listed_in t p tab) ≡ none
    unfolding listed_in
    listed_none h =
        ap (find s) (sym (append-nil (listed_to t p tab (length tab / 4)))) ∙ passed_listed (length tab / 4) [] h ∙ find_nothing s

-- ---- places

module _ (t ps : List ℕ) (s : Name) where
  pub none_more : (n : ℕ) → is_among s (names_to t ps n) ≡ false → same_bytes s (name_at t (get_or ps n 0)) ≡ false → is_among s (names_to t ps (suc n)) ≡ false
  unfolding is_among names_to
  none_more n h e = rw (e, h)

  pub some_there : (n r : ℕ) → r < n → same_bytes s (name_at t (get_or ps r 0)) ≡ true → is_among s (names_to t ps n) ≡ true
  unfolding is_among names_to
  some_there zero r h e = absurd (omega arith)
  some_there (suc n) r h e = go (eqb r n) refl (λ l. some_there n r l e)
    where
      go : (b : Bool) → eqb r n ≡ b → (r < n → is_among s (names_to t ps n) ≡ true) → (same_bytes s (name_at t (get_or ps n 0)) || is_among s (names_to t ps n)) ≡ true
      go true q next = rw (← eqb-true r n q, e)
      go false q next = rw (next (omega (arith, eqb-false r n q))) (or-true (same_bytes s (name_at t (get_or ps n 0))))

  pub none_of_none : is_among s (names_to t ps 0) ≡ false
  unfolding is_among names_to
  none_of_none = refl
