-- Declared names: each once, in whatever order they stand.
use mathlib.Core.Path.{◌≡◌, refl}
use mathlib.Core.Bool.{Bool, true, false, cond, ◌||◌}
use mathlib.Core.List.{List, [], ◌∷◌, ◌++◌}
use Prim.Native.Nat.{ℕ, ◌+◌, ◌≤◌}
use native.Mathlib.Omega.{arith}
use borrow.Author.Tests.{le-ltb}
use lib.Dec.{ltb}
use lib.ListN.{length, length-append, length-replicate}
use Rattle.paper.specs.declared.Kind.{Kind}
use Rattle.paper.specs.declared.Kind.TheVariants.{Input, Output, Other}
use Rattle.paper.specs.Words.{same_bytes}
use Rattle.paper.specs.Source.{Name, Declared}
use Rattle.paper.specs.Names.{size_of, same_kind, of_kind, printed, placed, cells_of, at, is_among, reversed, declaration_faults}
use Rattle.demands.specs.InTypes.{All}
use Rattle.demands.proofs.Truths.{or_false, neither}
use Rattle.demands.proofs.Answers.{no_fault, no_fault_at}
use Rattle.demands.proofs.Cells.{same_bytes_eq, same_bytes_refl, one_kind}

-- 1 where the test holds
abbrev pub one_if : Bool → ℕ
one_if true = 1
one_if false = 0

-- how often a name stands in a list
unfoldable pub times : Name → List Name → ℕ
times s [] = 0
times s (n ∷ ns) = one_if (same_bytes s n) + times s ns

-- how often it is declared
unfoldable pub declared_times : Name → List Declared → ℕ
declared_times s [] = 0
declared_times s (d ∷ ds) = one_if (same_bytes s d.name) + declared_times s ds

abbrev pub Distinct : List Declared → Type 0
Distinct ds = (s : Name) → declared_times s ds ≤ 1

-- ---- a name among others

among_none : (s : Name) (ns : List Name) → is_among s ns ≡ false → times s ns ≡ 0
unfolding is_among times
among_none s [] h = refl
among_none s (n ∷ ns) h = let (a, b) = or_false (same_bytes s n) (is_among s ns) h in rw a (let k = among_none s ns b in omega arith)

none_among : (s : Name) (ns : List Name) → times s ns ≡ 0 → is_among s ns ≡ false
unfolding is_among times
none_among s [] h = refl
none_among s (n ∷ ns) h = go (same_bytes s n) refl h (none_among s ns)
  where
    go : (b : Bool) → same_bytes s n ≡ b → one_if b + times s ns ≡ 0 → (times s ns ≡ 0 → is_among s ns ≡ false)
        → (same_bytes s n || is_among s ns) ≡ false
    go true e k ih = absurd (omega arith)
    go false e k ih = neither e (ih (omega arith))

-- ---- from declarations without faults

module _ (before : List Name) (n : ℕ) (d : Declared) (ds : List Declared) (h : declaration_faults before n (d ∷ ds) ≡ []) where
  abbrev known : Bool
  known = is_among d.name before

  abbrev cells : ℕ
  cells = n + size_of d.bounds

  parts_faultless : (at d.place (known || reversed d.bounds || ltb 64 cells) ≡ []) × (declaration_faults (d.name ∷ before) cells ds ≡ [])
  unfolding declaration_faults
  parts_faultless = no_fault (at d.place (known || reversed d.bounds || ltb 64 cells)) (declaration_faults (d.name ∷ before) cells ds) h

  own_faultless : (known ≡ false) × (reversed d.bounds ≡ false)
  own_faultless =
      let both = (or_false (known || reversed d.bounds) (ltb 64 cells) (no_fault_at d.place _ parts_faultless.0)).0 in
      or_false known (reversed d.bounds) both

-- a new name in front
times_new : (s n : Name) (before : List Name) → is_among n before ≡ false → times s before ≤ 1 → times s (n ∷ before) ≤ 1
unfolding times
times_new s n before h k = go (same_bytes s n) refl
  where
    go : (b : Bool) → same_bytes s n ≡ b → one_if b + times s before ≤ 1
    go true e =
        let none_before : times s before ≡ 0 = rw (same_bytes_eq s n e) (among_none n before h) in
        omega arith
    go false e = omega arith

distinct_from : (before : List Name) (n : ℕ) (ds : List Declared) → ((s : Name) → times s before ≤ 1) → declaration_faults before n ds ≡ []
    → (s : Name) → times s before + declared_times s ds ≤ 1
unfolding times declared_times
distinct_from before n [] h f s = let k = h s in omega arith
distinct_from before n (d ∷ ds) h f s =
    let new = (own_faultless before n d ds f).0 in
    let k = distinct_from (d.name ∷ before) (n + size_of d.bounds) ds (λ t. times_new t d.name before new (h t)) (parts_faultless before n d ds f).1 s in
    omega arith

pub distinct : (ds : List Declared) → declaration_faults [] 0 ds ≡ [] → Distinct ds
unfolding times
distinct ds f s = let k = distinct_from [] 0 ds (λ t. omega arith) f s in omega arith

pub none_reversed : (before : List Name) (n : ℕ) (ds : List Declared) → declaration_faults before n ds ≡ [] → All (λ d. reversed d.bounds ≡ false) ds
none_reversed before n [] f = tt
none_reversed before n (d ∷ ds) f =
    ((own_faultless before n d ds f).1, none_reversed (d.name ∷ before) (n + size_of d.bounds) ds (parts_faultless before n d ds f).1)

-- ---- to declarations without faults

to_faultless : (before : List Name) (n : ℕ) (ds : List Declared) → ((s : Name) → times s before + declared_times s ds ≤ 1)
    → All (λ d. reversed d.bounds ≡ false) ds → n + length (cells_of (placed n ds)) ≤ 64 → declaration_faults before n ds ≡ []
unfolding declaration_faults times declared_times cells_of placed
to_faultless before n [] h r l = refl
to_faultless before n (d ∷ ds) h r l =
    let m = n + size_of d.bounds in
    let long : length (cells_of (placed n (d ∷ ds))) ≡ size_of d.bounds + length (cells_of (placed m ds)) =
    simp (length-append, length-replicate) refl in
    let own : one_if (same_bytes d.name d.name) ≡ 1 = rw (same_bytes_refl d.name) refl in
    let once = h d.name in
    let new : is_among d.name before ≡ false = none_among d.name before (omega arith) in
    rw (
      new,
      r.0,
      le-ltb 64 m (omega arith),
      to_faultless (d.name ∷ before) m ds (λ s. let k = h s in omega arith) r.1 (omega arith),
    ) refl

pub faultless : (ds : List Declared) → Distinct ds → All (λ d. reversed d.bounds ≡ false) ds → length (cells_of (placed 0 ds)) ≤ 64
    → declaration_faults [] 0 ds ≡ []
unfolding times
faultless ds h r l = to_faultless [] 0 ds (λ s. let k = h s in omega arith) r (omega arith)

-- ---- in printed order

times_append : (s : Name) (cs ds : List Declared) → declared_times s (cs ++ ds) ≡ declared_times s cs + declared_times s ds
unfolding declared_times
times_append s [] ds = omega arith
times_append s (d ∷ cs) ds = omega (arith, times_append s cs ds)

times_of_kind : (s : Name) (x : Kind) (d : Declared) (ds : List Declared)
    → declared_times s (of_kind x (d ∷ ds)) ≡ cond (same_kind x d.kind) (one_if (same_bytes s d.name)) 0 + declared_times s (of_kind x ds)
unfolding of_kind declared_times
times_of_kind s x d ds = go (same_kind x d.kind)
  where
    go : (b : Bool) → declared_times s (cond b (d ∷ of_kind x ds) (of_kind x ds)) ≡ cond b (one_if (same_bytes s d.name)) 0 + declared_times s (of_kind x ds)
    go true = refl
    go false = omega arith

times_kinds : (s : Name) (ds : List Declared)
    → declared_times s (of_kind Input ds) + declared_times s (of_kind Output ds) + declared_times s (of_kind Other ds) ≡ declared_times s ds
unfolding of_kind declared_times
times_kinds s [] = refl
times_kinds s (d ∷ ds) =
    omega (
      arith,
      times_of_kind s Input d ds,
      times_of_kind s Output d ds,
      times_of_kind s Other d ds,
      one_kind d.kind (one_if (same_bytes s d.name)),
      times_kinds s ds,
    )

pub distinct_printed : (ds : List Declared) → Distinct ds → Distinct (printed ds)
unfolding printed
distinct_printed ds h s = simp times_append (let k = h s in let m = times_kinds s ds in omega arith)
