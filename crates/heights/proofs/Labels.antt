-- The labels of an arm: their tests joined by OR, and the first one, from the node before.
use mathlib.Core.Path.{◌≡◌, refl, sym, ap, ◌∙◌}
use mathlib.Core.List.{List, [], ◌∷◌, ◌++◌}
use Prim.Native.Nat.{ℕ, suc, ◌+◌, ◌≤◌, ◌<◌, max}
use native.Mathlib.Omega.{arith}
use Rattle.paper.specs.Source.{Label, one, range}
use Rattle.paper.specs.Heights.{too_high, test_height, joined_height, arm_faults}
use Rattle.tree.specs.Nodes.{child_of}
use Rattle.tree.specs.Trees.{label_at, labels_at}
use Rattle.tree.proofs.Frames.{stepped, labels_step, labels_node, labels_nil}
use Rattle.heights.specs.Measured.{first_place, arm_height, IsJoined}

pub test_most : (h : ℕ) (l : Label) → test_height h l ≤ h + 2
test_most h (one p a) = omega arith
test_most h (range p a q b) = omega arith

-- one label more, to the right of the others
joined_more : (h n : ℕ) (ls : List Label) (l : Label) → joined_height h n (ls ++ l ∷ []) ≡ suc (max (joined_height h n ls) (test_height h l))
unfolding joined_height
joined_more h n [] l = refl
joined_more h n (k ∷ ls) l = joined_more h (suc (max n (test_height h k))) ls l

-- a list that isn't empty
pub record Some (ls : List Label) : Type 0 where
  pub first : Label
  pub more : List Label
  pub is : ls ≡ first ∷ more

some_more : (ls : List Label) (l : Label) → Some (ls ++ l ∷ [])
some_more [] l = record { first = l; more = []; is = refl }
some_more (k ∷ ls) l = record { first = k; more = ls ++ l ∷ []; is = refl }

arm_more : (h : ℕ) (ls : List Label) (l : Label) → Some ls → arm_height h (ls ++ l ∷ []) ≡ suc (max (arm_height h ls) (test_height h l))
unfolding arm_height
arm_more h ls l s = rw s.is (joined_more h (test_height h s.first) s.more l)

first_more : (ls : List Label) (l : Label) → Some ls → first_place (ls ++ l ∷ []) ≡ first_place ls
first_more ls l s = rw s.is

-- an arm with labels
pub arm_tests : (h : ℕ) (ls : List Label) → Some ls → arm_faults h ls ≡ too_high (first_place ls) (arm_height h ls)
unfolding arm_height
arm_tests h ls s = rw s.is

module _ (p : List ℕ) (i : ℕ) (some : 0 < i) where
  abbrev before : List Label
  before = labels_at p (child_of p i 1)

  abbrev last : Label
  last = label_at p (child_of p i 2)

  node : labels_at p i ≡ before ++ last ∷ []
  node = stepped (labels_at p) (λ j. labels_step p j (labels_at p)) (labels_node p) i some

  pub some_labels : Some (labels_at p i)
  some_labels = rw node (some_more before last)

  pub one_label : child_of p i 1 ≡ 0 → labels_at p i ≡ last ∷ []
  one_label e = node ∙ ap (λ ls. ls ++ last ∷ []) (ap (labels_at p) e ∙ labels_nil p)

  pub one_joined : (h t : ℕ) → child_of p i 1 ≡ 0 → t ≡ test_height h last → IsJoined p h i t
  unfolding arm_height joined_height
  one_joined h t e g =
      record { height = g ∙ sym (ap (arm_height h) (one_label e)); low = omega (arith, test_most h last) }

module _ (p : List ℕ) (i : ℕ) (some : 0 < i) (other : 0 < child_of p i 1) where
  pub more_joined : (h n t r : ℕ) → child_of p i 1 < i → IsJoined p h (child_of p i 1) n
      → t ≡ test_height h (last p i some) → r ≡ max n t + 1 → IsJoined p h i r
  more_joined h n t r l j g e =
      let s = some_labels p (child_of p i 1) other in
      let a : arm_height h (labels_at p i) ≡ suc (max (arm_height h (before p i some)) (test_height h (last p i some))) =
      ap (arm_height h) (node p i some) ∙ arm_more h (before p i some) (last p i some) s in
      record {
        height = rw (a, ← j.height, ← g) (omega arith);
        low = omega (arith, j.low, test_most h (last p i some));
      }

  pub more_first : first_place (labels_at p (child_of p i 1)) ≡ first_place (labels_at p i)
  more_first =
      sym (ap first_place (node p i some) ∙ first_more (before p i some) (last p i some) (some_labels p (child_of p i 1) other))
