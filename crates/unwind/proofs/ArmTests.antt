-- The test of a CASE arm, weighed: refused, too heavy, or written where there is room for all its nodes.
use mathlib.Core.Path.{◌≡◌, sym, ap, ap₂, subst, ◌∙◌}
use mathlib.Core.Bool.{false}
use mathlib.Core.List.{List, [], ◌∷◌}
use Prim.Native.Nat.{ℕ, ◌+◌, ◌*◌, ◌≤◌, ◌<◌, min}
use native.Mathlib.Omega.{arith}
use lib.ListN.{length}
use Rattle.paper.specs.declared.Ty.TheVariants.{Bool as BOOL, Dint as DINT}
use Rattle.paper.specs.declared.Op.TheVariants.{Or}
use Rattle.std.specs.Prelude.{Result, Ok}
use Rattle.paper.specs.declared.Refusal.{Refusal}
use Rattle.paper.specs.Refusals.{given}
use Rattle.paper.specs.Source as S
use Rattle.paper.specs.Source.{Label, one, range}
use Rattle.paper.specs.Names.{Variable}
use Rattle.paper.specs.Typing.{type_in}
use Rattle.paper.specs.Plain.{Expr, State, truth, binary, parts}
use Rattle.paper.specs.Unwinding.{Selector, test_of, or_tests, tests_of, plain_of}
use Rattle.tree.specs.Nodes.{Same}
use Rattle.tree.specs.Trees.{labels_at}
use Rattle.tree.proofs.Decodes.{same_less, same_trans}
use Rattle.tree.proofs.Frames.{labels_nil}
use Rattle.plain.specs.Flat.{expr_at}
use Rattle.plain.proofs.Forms.{put_truth}
use Rattle.unwind.specs.declared.parts.Part.{Part}
use Rattle.unwind.specs.declared.lists.Walk.{Walk}
use Rattle.unwind.specs.declared.cases.Selector as Stand
use Rattle.unwind.specs.Parts.{Holds, Emitted, Inside, Ends, Parted, PartDid}
use Rattle.unwind.specs.Walks.{TestsParts, Spelt, selects, nodes_of, or_nodes, tests_nodes}
use Rattle.unwind.specs.Arms.{selecting, ArmTestDid}
use Rattle.unwind.proofs.Emits.{ends_of}
use Rattle.unwind.proofs.Tests.{labels_some}
use Rattle.unwind.proofs.Walking.{weighs, parts_some}

-- ---- as many nodes as parts are enough, the selector's once

module _ (s : Selector) where
  label_bound : (l : Label) → nodes_of l + parts s.plain ≤ parts (test_of s l)
  unfolding parts
  label_bound (one p a) = omega arith
  label_bound (range p a q b) = omega arith

  or_bound : (e : Expr) (n : ℕ) (ls : List Label) → n + parts s.plain ≤ parts e → or_nodes n ls + parts s.plain ≤ parts (or_tests s e ls)
  unfolding or_nodes or_tests parts
  or_bound e n [] h = h
  or_bound e n (l ∷ ls) h = or_bound (binary Or BOOL e (test_of s l)) (n + nodes_of l + 1) ls (omega (arith, label_bound l))

  tests_bound : (l : Label) (ls : List Label) → tests_nodes (l ∷ ls) + parts s.plain ≤ parts (tests_of s (l ∷ ls))
  unfolding tests_nodes tests_of
  tests_bound l ls = or_bound (test_of s l) (nodes_of l) ls (label_bound l)

-- ---- no labels

module _ (p : List ℕ) (i : ℕ) (nil : i ≡ 0) where
  no_tests : (s : Selector) → tests_of s (labels_at p i) ≡ truth false
  unfolding tests_of
  no_tests s = ap (tests_of s) (ap (labels_at p) nil ∙ labels_nil p)

  one_part : (s : Selector) → parts (tests_of s (labels_at p i)) ≡ 1
  unfolding parts
  one_part s = ap parts (no_tests s)

-- ---- the arm

module _ (vs : List Variable) (env : State) (old mid : List ℕ) (sel : Stand.Selector) (e : S.Expr) (p : List ℕ) (i n w : ℕ) where
  abbrev tests : Expr → Expr
  tests x = tests_of (selecting sel x) (labels_at p i)

  abbrev Did : List ℕ → Result Walk Refusal → Type 0
  Did new r = ArmTestDid vs env old new sel e (labels_at p i) n w r

  -- the selector as it was walked
  abbrev Looked : Result Part Refusal → Type 0
  Looked r = PartDid vs (length env) old mid n (plain_of vs env DINT e) (type_in vs DINT e) r

  module _ (v : Part) (d : Looked (Ok v)) (k : ℕ) (counted : TestsParts p v.parts i k) where
    walked : Inside (length env) vs → (x : Expr) → plain_of vs env DINT e ≡ given x → Ends mid n x v
    walked ins x h = subst (λ o. Parted mid n o (Ok v)) (d.is ins ∙ h) d.parted

    size : (x : Expr) → Ends mid n x v → k ≡ min 3001 (parts (tests x))
    size x h = counted.1 (selecting sel x) h.counted

    module _ (new : List ℕ) (m z : ℕ) (ez : z ≡ w + k) (light : z ≤ 3000) where
      -- the node m is the test's, and two nodes are spared
      abbrev Stands : Type 0
      Stands = (x : Expr) → Ends mid n x v → k ≡ parts (tests x) → (n ≤ m) × (m + 2 ≤ n + 4 * k) × (expr_at new m ≡ tests x)

      light_did : length new ≡ length mid → Same n mid new → Stands → Did new (Ok (record { count = m; root = m; weight = z }))
      light_did long same stands =
          record {
            long = long ∙ d.long;
            same = same_trans old mid new n d.same same;
            goes =
                let g = ends_of mid n d.own v d.parted in
                let s = stands g.0 g.2 (exact g.0 g.2) in
                (omega arith, omega arith, omega arith, omega arith, omega arith);
            tested = λ ins x h.
                let q = walked ins x h in
                let s = stands x q (exact x q) in
                rw (weighs sel.place (parts (tests x)) w (omega (arith, exact x q))) (ez ∙ ap (λ j. w + j) (exact x q), s.2);
          }
        where
          exact : (x : Expr) → Ends mid n x v → k ≡ parts (tests x)
          exact x h = omega (arith, size x h)

      module _ (few : n ≤ 4 * w) (room : 48016 ≤ length old) where
        pub arm_none : i ≡ 0 → Emitted mid new n 3 0 0 0 m → Did new (Ok (record { count = m; root = m; weight = z }))
        arm_none nil emitted =
            light_did emitted.long emitted.same
            (λ x h ek.
            let fits : Holds mid (n + 1) = omega (arith, d.long) in
            let wrote = emitted.wrote fits in
            let last : m ≡ n + 1 = wrote.0 in
            let single : k ≡ 1 = ek ∙ one_part p i nil (selecting sel x) in (
              omega arith,
              omega arith,
              ap₂ expr_at wrote.1 last ∙ put_truth mid (n + 1) 0 0 0 (omega arith) fits false ∙ sym (no_tests p i nil (selecting sel x)),
            ))

        pub arm_some : 0 < i
            → Spelt mid new v.count (tests_nodes (labels_at p i)) (tests_of (selects mid sel v.count) (labels_at p i)) m
            → Did new (Ok (record { count = m; root = m; weight = z }))
        arm_some some spelt =
            light_did spelt.long (same_less mid new v.count n spelt.same d.part.more)
            (λ x h ek.
            let bound = labels_some p i some (λ ls. tests_nodes ls + parts x ≤ parts (tests_of (selecting sel x) ls)) (tests_bound (selecting sel x)) in
            let before = h.ends (omega (arith, d.long, bound, ek)) in
            let at : v.count ≡ n + parts x = before.0 in
            let behind = spelt.ends (omega (arith, d.long, bound, ek)) in
            let last : m ≡ v.count + tests_nodes (labels_at p i) = behind.0 in
            let same : selects mid sel v.count ≡ selecting sel x = rw before.1 in (
              omega arith,
              omega (arith, bound, ek, parts_some x),
              behind.1 ∙ ap (λ s. tests_of s (labels_at p i)) same,
            ))
