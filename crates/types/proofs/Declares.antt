-- The faults of declarations, from those of one.
use mathlib.Core.Path.{◌≡◌, sym, ap, ap₂, ◌∙◌}
use mathlib.Core.List.{List, [], ◌∷◌, ◌++◌}
use Prim.Native.Nat.{ℕ, ◌<◌}
use native.Mathlib.Omega.{arith}
use Rattle.std.specs.Prelude.{Option}
use Rattle.paper.specs.declared.Ty.{Ty}
use Rattle.paper.specs.declared.Kind.{Kind}
use Rattle.paper.specs.Source.{Bounds, Initial, Named, Declared}
use Rattle.paper.specs.Reading.{declare}
use Rattle.paper.specs.Typing as T
use Rattle.tree.specs.Nodes.{child_of}
use Rattle.tree.specs.Trees.{names_at, declaration_at, declared_at}
use Rattle.tree.proofs.Frames.{stepped, names_step, names_node, names_nil, declared_step, declared_node, declared_nil}
use Rattle.faults.specs.Soonest.{soonest, sooner}
use Rattle.faults.proofs.Soonest.{sooner_none, sooner_same, sooner_comm, sooner_assoc, soonest_none, soonest_append}
use Rattle.variables.specs.Table.{type_at, section_at, bounds_in, initial_in}
use Rattle.types.specs.Statements.{IsDeclaration, IsDeclarations}

-- ---- declarations

module _ (k : Kind) (u : Ty) (b : Bounds) (v : Initial) where
  abbrev own : Option ℕ
  own = sooner (soonest (T.bounds_faults b)) (soonest (T.initial_faults u v))

  shared : (n : Named) (ns : List Named) → soonest (T.declaration_faults (declare k u b v (n ∷ ns))) ≡ own
  unfolding T.declaration_faults declare
  shared n [] =
      soonest_append (T.bounds_faults b ++ T.initial_faults u v) []
      ∙ ap₂ sooner (soonest_append (T.bounds_faults b) (T.initial_faults u v)) soonest_none
      ∙ sooner_none own
  shared n (m ∷ ns) =
      soonest_append (T.bounds_faults b ++ T.initial_faults u v) (T.declaration_faults (declare k u b v (m ∷ ns)))
      ∙ ap₂ sooner (soonest_append (T.bounds_faults b) (T.initial_faults u v)) (shared m ns)
      ∙ sooner_same own

names_some : (t p : List ℕ) (i : ℕ) → 0 < i → (n : Named) × (ns : List Named) × (names_at t p i ≡ n ∷ ns)
names_some t p i s = go (names_at t p (child_of p i 1)) _ (stepped (names_at t p) (λ j. names_step t p j (names_at t p)) (names_node t p) i s)
  where
    go : (xs : List Named) (m : Named) → names_at t p i ≡ xs ++ m ∷ [] → (n : Named) × (ns : List Named) × (names_at t p i ≡ n ∷ ns)
    go [] m e = (m, [], e)
    go (x ∷ xs) m e = (x, xs ++ m ∷ [], e)

module _ (p : List ℕ) (j : ℕ) (best : Option ℕ) where
  pub nothing_declared : child_of p j 1 ≡ 0 → IsDeclaration p j best best
  unfolding T.declaration_faults declare
  nothing_declared e t =
      sym (ap (λ ns. sooner best (soonest (T.declaration_faults (declare (section_at p j) (type_at p j) (bounds_in p j) (initial_in p j) ns)))) (ap (names_at t p) e ∙ names_nil t p)
      ∙ ap (sooner best) soonest_none
      ∙ sooner_none best)

  pub one_declared : (child_of p j 1 ≡ 0 → ⊥) → (r x y : Option ℕ) → x ≡ soonest (T.bounds_faults (bounds_in p j)) → y ≡ soonest (T.initial_faults (type_at p j) (initial_in p j))
      → r ≡ sooner best (sooner x y) → IsDeclaration p j best r
  one_declared e r x y hx hy hr t =
      let (n, ns, is) = names_some t p (child_of p j 1) (omega (arith, e)) in
      hr ∙ ap (sooner best)
      (ap₂ sooner hx hy
      ∙ sym (ap (λ ms. soonest (T.declaration_faults (declare (section_at p j) (type_at p j) (bounds_in p j) (initial_in p j) ms))) is ∙ shared (section_at p j) (type_at p j) (bounds_in p j) (initial_in p j) n ns))

append_faults : (xs ys : List Declared) → soonest (T.declaration_faults (xs ++ ys)) ≡ sooner (soonest (T.declaration_faults xs)) (soonest (T.declaration_faults ys))
unfolding T.declaration_faults
append_faults [] ys = sym (ap (λ n. sooner n (soonest (T.declaration_faults ys))) soonest_none)
append_faults (x ∷ xs) ys =
    let own = T.bounds_faults x.bounds ++ T.initial_faults x.ty x.initial in
    soonest_append own (T.declaration_faults (xs ++ ys))
    ∙ ap (sooner (soonest own)) (append_faults xs ys)
    ∙ sym (sooner_assoc (soonest own) (soonest (T.declaration_faults xs)) (soonest (T.declaration_faults ys)))
    ∙ ap (λ n. sooner n (soonest (T.declaration_faults ys))) (sym (soonest_append own (T.declaration_faults xs)))

module _ (p : List ℕ) (d : ℕ) (best : Option ℕ) where
  pub no_declarations : d ≡ 0 → IsDeclarations p d best best
  unfolding T.declaration_faults
  no_declarations e t =
      sym (ap (λ ds. sooner best (soonest (T.declaration_faults ds))) (ap (declared_at t p) e ∙ declared_nil t p) ∙ ap (sooner best) soonest_none ∙ sooner_none best)

  -- the last declaration first
  pub more_declarations : (x : Option ℕ) → 0 < d → IsDeclaration p (child_of p d 2) best x → (t : List ℕ)
      → sooner x (soonest (T.declaration_faults (declared_at t p (child_of p d 1)))) ≡ sooner best (soonest (T.declaration_faults (declared_at t p d)))
  more_declarations x s hx t =
      let before = soonest (T.declaration_faults (declared_at t p (child_of p d 1))) in
      let last = soonest (T.declaration_faults (declaration_at t p (child_of p d 2))) in
      let node = stepped (declared_at t p) (λ j. declared_step t p j (declared_at t p)) (declared_node t p) d s in
      ap (λ n. sooner n before) (hx t)
      ∙ sooner_assoc best last before
      ∙ ap (sooner best)
      (sooner_comm last before
      ∙ sym (ap (λ ds. soonest (T.declaration_faults ds)) node ∙ append_faults (declared_at t p (child_of p d 1)) (declaration_at t p (child_of p d 2))))
