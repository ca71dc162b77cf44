-- The tests of a CASE arm, written behind the nodes of the selector.
use mathlib.Core.Path.{◌≡◌, refl, sym, ap, ap₂, subst, ◌∙◌}
use mathlib.Core.Bool.{Bool, true, false, cond}
use mathlib.Core.List.{List, [], ◌∷◌, ◌++◌}
use Prim.Native.Nat.{ℕ, ◌+◌, ◌*◌, ◌-◌, ◌≤◌, ◌<◌}
use native.Mathlib.Omega.{arith}
use borrow.Author.Tests.{eq-eqb, ne_eqb}
use lib.Dec.{eqb}
use lib.IntN.{pos, neg_ℤ}
use lib.ListN.{get_or}
use Rattle.paper.specs.declared.Ty.{Ty}
use Rattle.paper.specs.declared.Ty.TheVariants.{Bool as BOOL}
use Rattle.paper.specs.declared.Op.{Op}
use Rattle.paper.specs.declared.Op.TheVariants.{Le, Ge, And, Or}
use Rattle.paper.specs.Source.{Label, one, range}
use Rattle.paper.specs.Types.{tag}
use Rattle.paper.specs.Plain.{Expr, number, binary}
use Rattle.paper.specs.Unwinding.{test_of, tests_of}
use Rattle.tree.specs.Nodes.{word_of, child_of, written}
use Rattle.tree.specs.Trees.{types, operators, place_at, whole_at, label_at, labels_at}
use Rattle.tree.proofs.Decodes.{same_less, same_trans}
use Rattle.tree.proofs.Forms.{whole}
use Rattle.plain.specs.Flat.{expr_at}
use Rattle.plain.proofs.Frames.{expr_same}
use Rattle.plain.proofs.Forms.{put_number, put_truth, put_binary}
use Rattle.unwind.specs.declared.cases.Selector.{Selector}
use Rattle.unwind.specs.Parts.{Holds, Emitted}
use Rattle.unwind.specs.Walks.{Spelt, selects, compared_with, label_nodes, nodes_of, or_nodes, tests_nodes}
use Rattle.tree.proofs.Frames.{labels_nil}
use Rattle.unwind.proofs.Emits.{type_tag, spelt_one}
use Rattle.unwind.proofs.Tests.{labels_at_lem, labels_some, tests_first, tests_more}

-- one more behind an expression
pub spelt_more : (old mid new : List ℕ) (n m s k a b c r : ℕ) (y x : Expr) → Spelt old mid n m y s → Emitted mid new s k a b c r
    → (Holds mid (s + 1) → expr_at mid s ≡ y → expr_at (written mid (s + 1) k a b c) (s + 1) ≡ x) → Spelt old new n (m + 1) x r
spelt_more old mid new n m s k a b c r y x d e put =
    record {
      more = omega (arith, d.more, e.more);
      most = omega (arith, d.most, e.most);
      holds = e.holds;
      long = e.long ∙ d.long;
      same = same_trans old mid new n d.same (same_less mid new s n e.same d.more);
      ends = λ h.
          let before = d.ends (omega arith) in
          let at : s ≡ n + m = before.0 in
          let room : Holds mid (s + 1) = omega (arith, d.long) in
          let w = e.wrote room in
          let last : r ≡ s + 1 = w.0 in
          (omega arith, ap₂ expr_at w.1 last ∙ put room before.1);
    }

-- ---- a number

-- of the kind k in two words
pub spelt_whole : (old new : List ℕ) (n k a b c r : ℕ) (t : Ty) → c ≡ tag t → 0 < k → k < 3 → Emitted old new n k a b c r
    → Spelt old new n 1 (number t (whole k a b)) r
spelt_whole old new n k a b c r t ec s l e =
    spelt_one old new n k a b c r (number t (whole k a b)) e
    (λ f. put_number old (n + 1) a b c (omega arith) f k s l ∙ ap (λ u. number u (whole k a b)) (ap (λ m. get_or types m BOOL) ec ∙ type_tag t))

-- that of a label
module _ (old new : List ℕ) (n a b c r : ℕ) (q : List ℕ) (i : ℕ) (t : Ty) (ea : a ≡ word_of q i 1) (eb : b ≡ word_of q i 2) (ec : c ≡ tag t) where
  spelt_number : (k : ℕ) → 0 < k → k < 3 → eqb (word_of q i 0) 2 ≡ eqb k 2 → Emitted old new n k a b c r → Spelt old new n 1 (number t (whole_at q i)) r
  spelt_number k s l h e =
      subst (λ z. Spelt old new n 1 (number t z) r)
      (ap₂ (whole k) ea eb
      ∙ ap (λ b. cond b (neg_ℤ (pos (word_of q i 1 + 65536 * word_of q i 2))) (pos (word_of q i 1 + 65536 * word_of q i 2))) (sym h))
      (spelt_whole old new n k a b c r t ec s l e)

  pub spelt_negative : (k : ℕ) → k ≡ word_of q i 0 → k ≡ 2 → Emitted old new n 2 a b c r → Spelt old new n 1 (number t (whole_at q i)) r
  spelt_negative k ek e = spelt_number 2 (omega arith) (omega arith) (eq-eqb _ 2 (sym ek ∙ e))

  pub spelt_positive : (k : ℕ) → k ≡ word_of q i 0 → (k ≡ 2 → ⊥) → Emitted old new n 1 a b c r → Spelt old new n 1 (number t (whole_at q i)) r
  spelt_positive k ek e = spelt_number 1 (omega arith) (omega arith) (ne_eqb _ 2 (λ z. e (ek ∙ z)))

-- ---- an operator over two expressions that stand

put_operator : (p : List ℕ) (m k a b c : ℕ) (t : Ty) → 10 < k → k < 25 → c ≡ tag t → 0 < m → Holds p m → a < m → b < m
    → expr_at (written p m k a b c) m ≡ binary (get_or operators (k - 11) Or) t (expr_at p a) (expr_at p b)
put_operator p m k a b c t l h ec s f x y =
    let e : k ≡ 11 + (k - 11) = omega arith in
    ap (λ k. expr_at (written p m k a b c) m) e
    ∙ put_binary p m a b c s f (k - 11) (omega arith) x y
    ∙ ap (λ u. binary (get_or operators (k - 11) Or) u (expr_at p a) (expr_at p b)) (ap (λ m. get_or types m BOOL) ec ∙ type_tag t)

pub spelt_compared : (old mid new : List ℕ) (p : List ℕ) (n s k c r i : ℕ) (o : Op) (sel : Selector) (root : ℕ) → root ≤ n → k < 14 → get_or operators k Or ≡ o → c ≡ tag sel.ty
    → Spelt old mid n 1 (number sel.ty (whole_at p i)) s → Emitted mid new s (11 + k) root s c r → Spelt old new n 2 (compared_with old p sel root o i) r
spelt_compared old mid new p n s k c r i o sel root l few eo ec d e =
    spelt_more old mid new n 1 s (11 + k) root s c r _ _ d e
    (λ f h.
    let x : root < s + 1 = omega (arith, d.more) in
    put_binary mid (s + 1) root s c (omega arith) f k few x (omega arith)
    ∙ ap₂ (λ o u. binary o u (expr_at mid root) (expr_at mid s)) eo (ap (λ m. get_or types m BOOL) ec ∙ type_tag sel.ty)
    ∙ ap₂ (binary o sel.ty) (expr_same old mid n root d.same l) h)

-- two expressions, and the operator of the kind k over them, on BOOL
spelt_joined : (old m₁ m₂ new : List ℕ) (n u v a b r : ℕ) (low high : Expr) (k : ℕ) → 10 < k → k < 25 → Spelt old m₁ n u low a → Spelt m₁ m₂ a v high b
    → Emitted m₂ new b k a b 0 r → Spelt old new n (u + v + 1) (binary (get_or operators (k - 11) Or) BOOL low high) r
spelt_joined old m₁ m₂ new n u v a b r low high k lo hi d₁ d₂ e =
    record {
      more = omega (arith, d₁.more, d₂.more, e.more);
      most = omega (arith, d₁.most, d₂.most, e.most);
      holds = e.holds;
      long = e.long ∙ d₂.long ∙ d₁.long;
      same = same_trans old m₁ new n d₁.same
          (same_trans m₁ m₂ new n (same_less m₁ m₂ a n d₂.same d₁.more) (same_less m₂ new b n e.same (omega (arith, d₁.more, d₂.more))));
      ends = λ h.
          let first = d₁.ends (omega arith) in
          let at : a ≡ n + u = first.0 in
          let second = d₂.ends (omega (arith, d₁.long)) in
          let at₂ : b ≡ a + v = second.0 in
          let room : Holds m₂ (b + 1) = omega (arith, d₁.long, d₂.long) in
          let w = e.wrote room in
          let last : r ≡ b + 1 = w.0 in (
            omega arith,
            ap₂ expr_at w.1 last
                ∙ put_operator m₂ (b + 1) k a b 0 BOOL lo hi refl (omega arith) room (omega arith) (omega arith)
                ∙ ap₂ (binary (get_or operators (k - 11) Or) BOOL) (expr_same m₁ m₂ a a d₂.same (omega arith) ∙ first.1) second.1,
          );
    }

-- ---- a label

module _ (p : List ℕ) (i : ℕ) (sel : Selector) (root : ℕ) (old : List ℕ) (n : ℕ) (inside : root ≤ n) where
  pub spelt_range : (m₁ m₂ new : List ℕ) (a b x y r : ℕ) → eqb (word_of p i 0) 31 ≡ true → x ≡ child_of p i 1 → y ≡ child_of p i 2
      → Spelt old m₁ n 2 (compared_with old p sel root Ge x) a → Spelt m₁ m₂ a 2 (compared_with m₁ p sel root Le y) b → Emitted m₂ new b 22 a b 0 r
      → Spelt old new n (label_nodes p i) (test_of (selects old sel root) (label_at p i)) r
  spelt_range m₁ m₂ new a b x y r h ex ey d₁ d₂ e =
      let low = compared_with old p sel root Ge x in
      let high = compared_with old p sel root Le y in
      let moved : compared_with m₁ p sel root Le y ≡ high =
      ap (λ s. binary Le sel.ty s (number sel.ty (whole_at p y))) (expr_same old m₁ n root d₁.same inside) in
      let all : Spelt old new n 5 (binary And BOOL low high) r = spelt_joined old m₁ m₂ new n 2 2 a b r low high 22 (omega arith) (omega arith) d₁ (subst (λ z. Spelt m₁ m₂ a 2 z b) moved d₂) e in
      rw (h, ← ex, ← ey) all

-- ---- labels joined by OR

label_nodes_lem : (p : List ℕ) (i : ℕ) → label_nodes p i ≡ nodes_of (label_at p i)
label_nodes_lem p i = go (eqb (word_of p i 0) 31)
  where
    go : (b : Bool)
        → cond b 5 2 ≡ nodes_of (cond b (range (place_at p (child_of p i 1)) (whole_at p (child_of p i 1)) (place_at p (child_of p i 2)) (whole_at p (child_of p i 2))) (one (place_at p i) (whole_at p i)))
    go true = refl
    go false = refl

or_nodes_lem : (n : ℕ) (ls : List Label) (l : Label) → or_nodes n (ls ++ l ∷ []) ≡ or_nodes n ls + nodes_of l + 1
unfolding or_nodes
or_nodes_lem n [] l = refl
or_nodes_lem n (m ∷ ls) l = or_nodes_lem (n + nodes_of m + 1) ls l

module _ (p : List ℕ) (i : ℕ) (some : 0 < i) where
  nodes_first : child_of p i 1 ≡ 0 → tests_nodes (labels_at p i) ≡ label_nodes p (child_of p i 2)
  unfolding tests_nodes or_nodes
  nodes_first e =
      ap tests_nodes (labels_at_lem p i some ∙ ap (λ ls. ls ++ label_at p (child_of p i 2) ∷ []) (ap (labels_at p) e ∙ labels_nil p))
      ∙ sym (label_nodes_lem p (child_of p i 2))

  nodes_more : 0 < child_of p i 1 → tests_nodes (labels_at p i) ≡ tests_nodes (labels_at p (child_of p i 1)) + label_nodes p (child_of p i 2) + 1
  unfolding tests_nodes
  nodes_more l =
      ap tests_nodes (labels_at_lem p i some)
      ∙ labels_some p (child_of p i 1) l (λ ls. tests_nodes (ls ++ label_at p (child_of p i 2) ∷ []) ≡ tests_nodes ls + nodes_of (label_at p (child_of p i 2)) + 1)
      (λ m ls. or_nodes_lem (nodes_of m) ls (label_at p (child_of p i 2)))
      ∙ ap (λ n. tests_nodes (labels_at p (child_of p i 1)) + n + 1) (sym (label_nodes_lem p (child_of p i 2)))

  module _ (sel : Selector) (root : ℕ) (old : List ℕ) (n : ℕ) (inside : root ≤ n) where
    pub tests_single : (new : List ℕ) (x y r : ℕ) → x ≡ child_of p i 1 → x ≡ 0 → y ≡ child_of p i 2
        → Spelt old new n (label_nodes p y) (test_of (selects old sel root) (label_at p y)) r
        → Spelt old new n (tests_nodes (labels_at p i)) (tests_of (selects old sel root) (labels_at p i)) r
    tests_single new x y r ex e ey d =
        rw (nodes_first (sym ex ∙ e), tests_first (selects old sel root) p i some (sym ex ∙ e))
        (subst (λ y. Spelt old new n (label_nodes p y) (test_of (selects old sel root) (label_at p y)) r) ey d)

    pub tests_joined : (m₁ m₂ new : List ℕ) (x y a b r : ℕ) → x ≡ child_of p i 1 → 0 < x → y ≡ child_of p i 2
        → Spelt old m₁ n (tests_nodes (labels_at p x)) (tests_of (selects old sel root) (labels_at p x)) a
        → Spelt m₁ m₂ a (label_nodes p y) (test_of (selects m₁ sel root) (label_at p y)) b
        → Emitted m₂ new b 24 a b 0 r → Spelt old new n (tests_nodes (labels_at p i)) (tests_of (selects old sel root) (labels_at p i)) r
    tests_joined m₁ m₂ new x y a b r ex l ey d₁ d₂ e =
        let moved : test_of (selects m₁ sel root) (label_at p y) ≡ test_of (selects old sel root) (label_at p y) =
        ap (λ s. test_of (record { place = sel.place; plain = s; ty = sel.ty }) (label_at p y)) (expr_same old m₁ n root d₁.same inside) in
        let s : 0 < child_of p i 1 = subst (λ j. 0 < j) ex l in
        rw (nodes_more s, tests_more (selects old sel root) p i some s)
        (spelt_joined old m₁ m₂ new n _ _ a b r _ _ 24 (omega arith) (omega arith)
        (subst (λ x. Spelt old m₁ n (tests_nodes (labels_at p x)) (tests_of (selects old sel root) (labels_at p x)) a) ex d₁)
        (subst (λ y. Spelt m₁ m₂ a (label_nodes p y) (test_of (selects old sel root) (label_at p y)) b) ey (subst (λ z. Spelt m₁ m₂ a (label_nodes p y) z b) moved d₂)) e)

pub tests_none : (p : List ℕ) (i : ℕ) (sel : Selector) (root : ℕ) (old new : List ℕ) (n r : ℕ) → i ≡ 0 → Emitted old new n 3 0 0 0 r
    → Spelt old new n (tests_nodes (labels_at p i)) (tests_of (selects old sel root) (labels_at p i)) r
unfolding tests_nodes tests_of
tests_none p i sel root old new n r e d =
    rw (ap (labels_at p) e ∙ labels_nil p) (spelt_one old new n 3 0 0 0 r _ d (λ f. put_truth old (n + 1) 0 0 0 (omega arith) f false))
