-- One list behind another: what a node puts in front of a list is its own list, and what figure and cells make of it.
use mathlib.Core.Path.{◌≡◌, refl, sym, ap, ◌∙◌}
use mathlib.Core.Bool.{◌||◌, or_assoc}
use mathlib.Core.List.{List}
use Prim.Native.Nat.{ℕ, zero, suc, ◌+◌, ◌-◌, ◌<◌}
use native.Mathlib.Omega.{arith}
use lib.ListN.{get_or}
use Rattle.paper.specs.Plain.{Stmts, done, assign, choice, figure, assigns, ◌⨾◌}
use Rattle.tree.specs.Nodes.{word_of, child_of}
use Rattle.tree.proofs.Decodes.{All, none, ◌&◌, each}
use Rattle.plain.specs.Flat.{cell_at, expr_at, FrontForm, skip, front_forms, front_from, front_at, list_at}
use Rattle.plain.proofs.Frames.{front_form, front_nil}

pub join_assoc : (p q r : Stmts) → (p ⨾ q) ⨾ r ≡ p ⨾ (q ⨾ r)
unfolding ◌⨾◌
join_assoc done q r = refl
join_assoc (assign c e k) q r = ap (assign c e) (join_assoc k q r)
join_assoc (choice c a b k) q r = ap (choice c a b) (join_assoc k q r)

pub join_done : (p : Stmts) → p ⨾ done ≡ p
unfolding ◌⨾◌
join_done done = refl
join_done (assign c e k) = ap (assign c e) (join_done k)
join_done (choice c a b k) = ap (choice c a b) (join_done k)

pub figure_join : (p q : Stmts) → figure (p ⨾ q) ≡ figure p + figure q
unfolding figure ◌⨾◌
figure_join done q = omega arith
figure_join (assign c e k) q = let h : figure (k ⨾ q) ≡ figure k + figure q = figure_join k q in omega arith
figure_join (choice c a b k) q = let h : figure (k ⨾ q) ≡ figure k + figure q = figure_join k q in omega arith

pub assigns_join : (p q : Stmts) (i : ℕ) → assigns (p ⨾ q) i ≡ assigns p i || assigns q i
unfolding assigns ◌⨾◌
assigns_join done q i = refl
assigns_join (assign c e k) q i = rw (assigns_join k q i, or_assoc)
assigns_join (choice c a b k) q i = rw (assigns_join k q i) (sym (or_assoc (assigns a i || assigns b i) (assigns k i) (assigns q i)))

-- ---- a reading that puts its own list in front

abbrev Fronts : (Stmts → Stmts) → Type 0
Fronts f = (k : Stmts) → f k ≡ f done ⨾ k

abbrev FrontsForm : FrontForm → Type 0
FrontsForm f = (p : List ℕ) (i : ℕ) (sub : ℕ → Stmts → Stmts) → ((j : ℕ) → Fronts (sub j)) → Fronts (f p i sub)

-- two of them, one behind the other
both_fronts : (f g : Stmts → Stmts) → Fronts f → Fronts g → Fronts (λ k. f (g k))
both_fronts f g x y k =
    x (g k)
    ∙ ap (λ l. f done ⨾ l) (y k)
    ∙ sym (join_assoc (f done) (g done) k)
    ∙ ap (λ l. l ⨾ k) (sym (x (g done)))

skip_fronts : FrontsForm skip
unfolding ◌⨾◌
skip_fronts p i sub h k = refl

forms_front : All FrontsForm front_forms
unfolding front_forms ◌⨾◌
forms_front =
    (λ p i sub h k. refl)
    & (λ p i sub h k. refl)
    & skip_fronts
    & skip_fronts
    & (λ p i sub h. both_fronts (sub (child_of p i 1)) (sub (child_of p i 2)) (h _) (h _))
    & none

from_fronts : (f : ℕ) (p : List ℕ) (i : ℕ) → Fronts (front_from f p i)
unfolding front_from ◌⨾◌
from_fronts zero p i k = refl
from_fronts (suc f) p zero k = refl
from_fronts (suc f) p (suc i) k =
    each FrontsForm skip skip_fronts front_forms forms_front (word_of p (suc i) 0 - 40) p (suc i) (front_from f p) (from_fronts f p) k

pub front_list : (p : List ℕ) (i : ℕ) (k : Stmts) → front_at p i k ≡ list_at p i ⨾ k
unfolding front_at
front_list p i k = from_fronts i p i k

-- ---- the list of a node, by its kind

pub list_nil : (p : List ℕ) → list_at p 0 ≡ done
list_nil p = front_nil p done

-- any other kind puts nothing
other_form : (w : ℕ) → 1 < w → (w ≡ 4 → ⊥) → get_or front_forms w skip ≡ skip
unfolding front_forms
other_form zero l h = absurd (omega arith)
other_form (suc zero) l h = absurd (omega arith)
other_form (suc (suc zero)) l h = refl
other_form (suc (suc (suc zero))) l h = refl
other_form (suc (suc (suc (suc zero)))) l h = absurd (h refl)
other_form (suc (suc (suc (suc (suc w))))) l h = refl

module _ (p : List ℕ) (i : ℕ) (some : 0 < i) where
  by_form : (f : FrontForm) → get_or front_forms (word_of p i 0 - 40) skip ≡ f → list_at p i ≡ f p i (front_at p) done
  by_form f e = front_form p i (word_of p i 0) f done some refl e

  pub list_assign : word_of p i 0 < 41 → list_at p i ≡ assign (cell_at p i) (expr_at p (child_of p i 2)) done
  unfolding front_forms
  list_assign l =
      let e : word_of p i 0 - 40 ≡ 0 = omega arith in
      by_form _ (ap (λ w. get_or front_forms w skip) e)

  pub list_choice : word_of p i 0 ≡ 41 → list_at p i ≡ choice (expr_at p (child_of p i 1)) (list_at p (child_of p i 2)) (list_at p (child_of p i 3)) done
  unfolding front_forms
  list_choice e = by_form _ (ap (λ w. get_or front_forms (w - 40) skip) e)

  pub list_both : word_of p i 0 ≡ 44 → list_at p i ≡ list_at p (child_of p i 1) ⨾ list_at p (child_of p i 2)
  unfolding front_forms
  list_both e =
      by_form _ (ap (λ w. get_or front_forms (w - 40) skip) e)
      ∙ front_list p (child_of p i 1) (list_at p (child_of p i 2))

  pub list_other : 41 < word_of p i 0 → (word_of p i 0 ≡ 44 → ⊥) → list_at p i ≡ done
  list_other l h = by_form skip (other_form (word_of p i 0 - 40) (omega arith) (λ e. h (omega arith)))
