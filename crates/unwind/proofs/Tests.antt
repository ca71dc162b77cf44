-- The tests of a CASE arm: one more label behind those so far, and how many parts they have.
use mathlib.Core.Path.{◌≡◌, refl, sym, ap, ◌∙◌}
use mathlib.Core.Bool.{Bool, true, false, cond}
use mathlib.Core.List.{List, [], ◌∷◌, ◌++◌}
use Prim.Native.Nat.{ℕ, suc, ◌+◌, ◌*◌, ◌<◌, min}
use native.Mathlib.Omega.{arith}
use lib.Dec.{eqb}
use Rattle.paper.specs.declared.Ty.TheVariants.{Bool as BOOL}
use Rattle.paper.specs.declared.Op.TheVariants.{Or}
use Rattle.paper.specs.Source.{Label, one, range}
use Rattle.paper.specs.Plain.{Expr, binary, parts}
use Rattle.paper.specs.Unwinding.{Selector, test_of, or_tests, tests_of}
use Rattle.tree.specs.Nodes.{word_of, child_of}
use Rattle.tree.specs.Trees.{label_at, labels_at, place_at, whole_at}
use Rattle.tree.proofs.Decodes.{stepped}
use Rattle.tree.proofs.Frames.{labels_step, labels_node, labels_nil}
use Rattle.unwind.specs.Walks.{TestsParts}

or_snoc : (s : Selector) (e : Expr) (ls : List Label) (l : Label) → or_tests s e (ls ++ l ∷ []) ≡ binary Or BOOL (or_tests s e ls) (test_of s l)
unfolding or_tests
or_snoc s e [] l = refl
or_snoc s e (m ∷ ls) l = or_snoc s (binary Or BOOL e (test_of s m)) ls l

-- the first label, and one more behind others
pub tests_one : (s : Selector) (l : Label) → tests_of s (l ∷ []) ≡ test_of s l
unfolding tests_of or_tests
tests_one s l = refl

pub tests_snoc : (s : Selector) (m : Label) (ls : List Label) (l : Label) → tests_of s ((m ∷ ls) ++ l ∷ []) ≡ binary Or BOOL (tests_of s (m ∷ ls)) (test_of s l)
unfolding tests_of
tests_snoc s m ls l = or_snoc s (test_of s m) ls l

-- ---- at a node

module _ (p : List ℕ) (i : ℕ) (some : 0 < i) where
  pub labels_at_lem : labels_at p i ≡ labels_at p (child_of p i 1) ++ label_at p (child_of p i 2) ∷ []
  labels_at_lem = stepped (labels_at p) (λ j. labels_step p j (labels_at p)) (labels_node p) i some

  -- so that there is one
  pub labels_some : (Q : List Label → Type 0) → ((m : Label) (ls : List Label) → Q (m ∷ ls)) → Q (labels_at p i)
  labels_some Q f = go (labels_at p (child_of p i 1)) labels_at_lem
    where
      go : (ls : List Label) → labels_at p i ≡ ls ++ label_at p (child_of p i 2) ∷ [] → Q (labels_at p i)
      go [] e = rw e (f _ _)
      go (m ∷ ls) e = rw e (f _ _)

module _ (s : Selector) (p : List ℕ) (i : ℕ) (some : 0 < i) where
  pub tests_first : child_of p i 1 ≡ 0 → tests_of s (labels_at p i) ≡ test_of s (label_at p (child_of p i 2))
  tests_first e =
      ap (tests_of s) (labels_at_lem p i some ∙ ap (λ ls. ls ++ label_at p (child_of p i 2) ∷ []) (ap (labels_at p) e ∙ labels_nil p))
      ∙ tests_one s (label_at p (child_of p i 2))

  pub tests_more : 0 < child_of p i 1
      → tests_of s (labels_at p i) ≡ binary Or BOOL (tests_of s (labels_at p (child_of p i 1))) (test_of s (label_at p (child_of p i 2)))
  tests_more l =
      ap (tests_of s) (labels_at_lem p i some)
      ∙ labels_some p (child_of p i 1) l (λ ls. tests_of s (ls ++ label_at p (child_of p i 2) ∷ []) ≡ binary Or BOOL (tests_of s ls) (test_of s (label_at p (child_of p i 2))))
      (λ m ls. tests_snoc s m ls (label_at p (child_of p i 2)))

-- ---- how many parts

pub test_size : (s : Selector) (p : List ℕ) (i : ℕ)
    → parts (test_of s (label_at p i)) ≡ cond (eqb (word_of p i 0) 31) (2 * parts s.plain + 5) (parts s.plain + 2)
unfolding parts
test_size s p i = go (eqb (word_of p i 0) 31)
  where
    go : (b : Bool)
        → parts (test_of s (cond b (range (place_at p (child_of p i 1)) (whole_at p (child_of p i 1)) (place_at p (child_of p i 2)) (whole_at p (child_of p i 2))) (one (place_at p i) (whole_at p i))))
        ≡ cond b (2 * parts s.plain + 5) (parts s.plain + 2)
    go true = omega arith
    go false = omega arith

-- of a label, from that of the selector cut at 3001
cut : (b : Bool) (n m k : ℕ) → n ≡ min 3001 m → k ≡ cond b (2 * n + 5) (n + 2) → min 3001 k ≡ min 3001 (cond b (2 * m + 5) (m + 2))
cut true n m k e h = omega arith
cut false n m k e h = omega arith

module _ (p : List ℕ) (n i : ℕ) where
  pub parts_none : i ≡ 0 → TestsParts p n i 1
  unfolding tests_of parts
  parts_none e = (omega arith, λ s h. sym (ap (λ j. min 3001 (parts (tests_of s (labels_at p j)))) e ∙ ap (λ ls. min 3001 (parts (tests_of s ls))) (labels_nil p)))

  module _ (some : 0 < i) (k : ℕ) (ek : k ≡ cond (eqb (word_of p (child_of p i 2) 0) 31) (2 * n + 5) (n + 2)) where
    label_size : (s : Selector) → n ≡ min 3001 (parts s.plain) → min 3001 k ≡ min 3001 (parts (test_of s (label_at p (child_of p i 2))))
    label_size s h = cut (eqb (word_of p (child_of p i 2) 0) 31) n (parts s.plain) k h ek ∙ ap (min 3001) (sym (test_size s p (child_of p i 2)))

    pub parts_first : child_of p i 1 ≡ 0 → (r : ℕ) → r ≡ min 3001 k → TestsParts p n i r
    parts_first e r er =
        (omega arith, λ s h. er ∙ label_size s h ∙ ap (λ x. min 3001 (parts x)) (sym (tests_first s p i some e)))

    pub parts_more : 0 < child_of p i 1 → (m r : ℕ) → TestsParts p n (child_of p i 1) m → r ≡ min 3001 (m + k + 1) → TestsParts p n i r
    unfolding parts
    parts_more l m r d er = (
      omega arith,
      λ s h.
          let a = d.1 s h in
          let b = label_size s h in
          let size : min 3001 (m + k + 1) ≡ min 3001 (suc (parts (tests_of s (labels_at p (child_of p i 1))) + parts (test_of s (label_at p (child_of p i 2))))) = omega (arith, a, b) in
          er ∙ size ∙ ap (λ x. min 3001 (parts x)) (sym (tests_more s p i some l)),
    )
