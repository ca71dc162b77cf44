-- The table as it stands lists the program's variables, where they have few cells.
use mathlib.Core.Path.{◌≡◌, refl, sym, ap, ap₂, ◌∙◌}
use mathlib.Core.List.{List, [], ◌∷◌, ◌++◌}
use Prim.Native.Nat.{ℕ, zero, suc, ◌+◌, ◌*◌, ◌/◌, ◌%◌, ◌≤◌, ◌<◌}
use native.Mathlib.Omega.{arith}
use lib.ListN.{length, get_or, take, replicate, length-append, length-replicate}
use lib.Seq.{length-take-le, get_or-take}
use Rattle.paper.specs.declared.Kind.TheVariants.{Input}
use Rattle.paper.specs.Source.{Declared, Program}
use Rattle.paper.specs.Names.{Info, same_kind, size_of, placed, variables_of, cells_of}
use Rattle.tree.specs.Nodes.{word_of}
use Rattle.variables.specs.Table.{entry_at, entries, listed_to, listed_in}
use Rattle.names.specs.declared.Named.{Named}
use Rattle.names.specs.Declares.{cells_with}
use Rattle.names.specs.Fills.{firsts_of}
use Rattle.names.specs.Judged.{Judges}
use Rattle.names.proofs.Filling.{entries_kept, entries_length, entries_take}

-- one variable more stands behind the cells of those before it
placed_more : (m : ℕ) (ds : List Declared) (d : Declared)
    → placed m (ds ++ d ∷ []) ≡ placed m ds ++ record { declared = d; first = cells_with m ds } ∷ []
unfolding placed cells_with
placed_more m [] d = refl
placed_more m (e ∷ ds) d = ap (λ vs. record { declared = e; first = m } ∷ vs) (placed_more (m + size_of e.bounds) ds d)

-- the first cell of the k-th is the number of cells before it
first_is : (m : ℕ) (ds : List Declared) (k : ℕ) → k < length ds → get_or (firsts_of (placed m ds)) k 0 ≡ cells_with m (take k ds)
unfolding placed cells_with
first_is m [] k l = absurd (omega arith)
first_is m (d ∷ ds) zero l = refl
first_is m (d ∷ ds) (suc k) l = first_is (m + size_of d.bounds) ds k (omega arith)

-- cells before are no more than all
cells_grow : (m : ℕ) (ds : List Declared) → m ≤ cells_with m ds
unfolding cells_with
cells_grow m [] = omega arith
cells_grow m (d ∷ ds) = omega (arith, cells_grow (m + size_of d.bounds) ds)

cells_before : (m : ℕ) (ds : List Declared) (k : ℕ) → cells_with m (take k ds) ≤ cells_with m ds
unfolding cells_with
cells_before m ds zero = cells_grow m ds
cells_before m [] (suc k) = omega arith
cells_before m (d ∷ ds) (suc k) = cells_before (m + size_of d.bounds) ds k

pub cells_all : (m : ℕ) (ds : List Declared) → cells_with m ds ≡ m + length (cells_of (placed m ds))
unfolding cells_with placed cells_of
cells_all m [] = omega arith
cells_all m (d ∷ ds) =
    let n = m + size_of d.bounds in
    let info : Info = record { ty = d.ty; is_input = same_kind Input d.kind } in
    let own = replicate (size_of d.bounds) info in
    cells_all n ds ∙ omega (arith, length-append own (cells_of (placed n ds)), length-replicate (size_of d.bounds) info)

module _ (t p : List ℕ) where
  listed_placed : (tab : List ℕ) (n : ℕ) → ((k : ℕ) → k < n → word_of tab k 2 ≡ cells_with 0 (entries t p tab k)) → listed_to t p tab n ≡ placed 0 (entries t p tab n)
  unfolding listed_to entries placed
  listed_placed tab zero h = refl
  listed_placed tab (suc n) h =
      ap₂ (λ vs c. vs ++ record { declared = entry_at t p tab n; first = c } ∷ []) (listed_placed tab n (λ k l. h k (omega arith))) (h n (omega arith))
      ∙ sym (placed_more 0 (entries t p tab n) (entry_at t p tab n))

  pub listed_all : (tab : List ℕ) (pr : Program) (r : Named) → Judges t p tab pr r → 4 * r.count ≤ length tab
      → length (cells_of (variables_of pr.declared)) ≤ 64 → listed_in t p (take (4 * r.count) tab) ≡ variables_of pr.declared
  unfolding listed_in
  listed_all tab pr r is l few =
      let n = r.count in
      let part = take (4 * n) tab in
      let ds = entries t p tab n in
      let long : length part / 4 ≡ n = omega (arith, length-take-le (4 * n) tab l) in
      let kept : (k : ℕ) → k ≤ n → entries t p part k ≡ entries t p tab k =
      λ k m. entries_kept t p k tab part (λ j s. get_or-take (4 * n) tab j 0 (omega arith)) in
      let few-here : length (cells_of (placed 0 ds)) ≤ 64 = rw is.variables few in
      let total : cells_with 0 ds ≤ 64 = omega (arith, cells_all 0 ds) in
      let first : (k : ℕ) → k < n → word_of part k 2 ≡ cells_with 0 (entries t p part k) =
      λ k m.
      let c = cells_with 0 (take k ds) in
      let small : c % 65536 ≡ c = omega (arith, cells_before 0 ds k, total) in
      get_or-take (4 * n) tab (4 * k + 2) 0 (omega arith)
      ∙ is.firsts k m
      ∙ ap (λ vs. get_or (firsts_of vs) k 0 % 65536) (sym is.variables)
      ∙ ap (λ c. c % 65536) (first_is 0 ds k (omega (arith, entries_length t p tab n)))
      ∙ small
      ∙ ap (cells_with 0) (entries_take t p tab n k (omega arith) ∙ sym (kept k (omega arith))) in
      ap (listed_to t p part) long ∙ listed_placed part n first ∙ ap (placed 0) (kept n (omega arith)) ∙ is.variables
