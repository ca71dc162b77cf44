-- What a node just written stands for, one law a form.
use mathlib.Core.Path.{◌≡◌, refl, ap, ap₂, ◌∙◌}
use mathlib.Core.Bool.{Bool, true, false, cond}
use mathlib.Core.List.{List, [], ◌∷◌, ◌++◌, map}
use Prim.Native.Nat.{ℕ, zero, suc, ◌+◌, ◌*◌, ◌-◌, ◌/◌, ◌%◌, ◌≤◌, ◌<◌}
use native.Mathlib.Omega.{arith}
use lib.Dec.{eqb}
use lib.IntN.{ℤ, pos, neg_ℤ}
use lib.ListN.{length, get_or, take}
use lib.Seq.{get_or-append-add}
use borrow.Author.Tests.{ne_eqb}
use Rattle.paper.specs.declared.Ty.TheVariants.{Bool as BOOL}
use Rattle.paper.specs.declared.Kind.TheVariants.{Other}
use Rattle.paper.specs.declared.Op.TheVariants.{Or}
use Rattle.paper.specs.Source.{Expr, number, truth, variable, element, minus, complement, binary, conversion, brackets, range, Stmts, done, assign, choice, select, arm, loop, array, value, flag}
use Rattle.paper.specs.Reading.{declare}
use Rattle.tree.specs.Nodes.{word_of, kind_of, child_of, written}
use Rattle.tree.specs.Trees.{name_at, types, operators, kinds, wide, whole_at, place_at, ExprForm, number_form, binary_form, expr_forms, expr_at, label_at, labels_at, ArmsForm, arms_forms, FrontForm, front_forms, front_at, arms_at, names_at, bounds_at, initial_at, declaration_at, declared_at, program_at}
use Rattle.tree.proofs.Frames.{Framed, stepped, child_is, child_most, first_same, second_same, place_same, wide_same, whole_same, nil_form, expr_form, expr_same, label_same, labels_step, labels_node, labels_same, no_arms, arms_form, arms_below, arms_same, skip, front_form, list_same, names_step, names_node, names_same, bounds_same, initial_same, declaration_same, declared_step, declared_node, declared_same}
use Rattle.tree.proofs.Puts.{written_same, written_word0, written_word1, written_word2, written_word3}

-- the whole number in two words of a node of the kind k
abbrev pub whole : ℕ → ℕ → ℕ → ℤ
whole k a b = cond (eqb k 2) (neg_ℤ (pos (a + 65536 * b))) (pos (a + 65536 * b))

-- ---- the words of a written node, as they are read

module _ (p : List ℕ) (n k a b c : ℕ) (fits : 4 * n + 4 ≤ length p) where
  abbrev pool : List ℕ
  pool = written p n k a b c

  kind : 0 < n → kind_of pool n ≡ k
  kind s = ap (λ t. cond t 0 (word_of pool n 0)) (ne_eqb n 0 (λ e. omega arith)) ∙ written_word0 p n k a b c fits

  pub put_place : place_at pool n ≡ c
  put_place = written_word3 p n k a b c fits

  -- what is read of a child is what was read before
  put_child : {X : Type 0} (f : List ℕ → ℕ → X) → Framed f → (j v : ℕ) → word_of pool n j ≡ v → v < n → f pool (child_of pool n j) ≡ f p v
  put_child f g j v e l = ap (f pool) (child_is pool n j v e l) ∙ g p pool v v (written_same p n k a b c v l) (omega arith)

  pub put_first : {X : Type 0} (f : List ℕ → ℕ → X) → Framed f → a < n → f pool (child_of pool n 1) ≡ f p a
  put_first f g l = put_child f g 1 a (written_word1 p n k a b c fits) l

  pub put_second : {X : Type 0} (f : List ℕ → ℕ → X) → Framed f → b < n → f pool (child_of pool n 2) ≡ f p b
  put_second f g l = put_child f g 2 b (written_word2 p n k a b c fits) l

  pub put_third : {X : Type 0} (f : List ℕ → ℕ → X) → Framed f → c < n → f pool (child_of pool n 3) ≡ f p c
  put_third f g l = put_child f g 3 c put_place l

  -- the node by the form of its kind
  expr_put : (t : List ℕ) (f : ExprForm) → 0 < n → get_or expr_forms k nil_form ≡ f
      → expr_at t pool n ≡ f t pool n (expr_at t pool (child_of pool n 1)) (expr_at t pool (child_of pool n 2))
  expr_put t f s e = expr_form t pool n k f s (written_word0 p n k a b c fits) e

  front_put : (t : List ℕ) (f : FrontForm) (l : Stmts) → 0 < n → get_or front_forms (k - 40) skip ≡ f
      → front_at t pool n l ≡ f t pool n (front_at t pool) l
  front_put t f l s e = front_form t pool n k f l s (written_word0 p n k a b c fits) e

  arms_put : (t : List ℕ) (f : ArmsForm) → 0 < n → get_or arms_forms (k - 48) no_arms ≡ f
      → arms_at t pool n ≡ f pool n (front_at t pool) (arms_at t pool)
  arms_put t f s e = arms_form t pool n k f s (written_word0 p n k a b c fits) e

-- ---- readings that need no text

module _ (p : List ℕ) (n a b c : ℕ) (some : 0 < n) (fits : 4 * n + 4 ≤ length p) where
  pub put_wide : (k : ℕ) → wide (written p n k a b c) n ≡ a + 65536 * b
  put_wide k = ap₂ (λ x y. x + 65536 * y) (written_word1 p n k a b c fits) (written_word2 p n k a b c fits)

  pub put_whole : (k : ℕ) → whole_at (written p n k a b c) n ≡ whole k a b
  put_whole k = rw (written_word0 p n k a b c fits, put_wide k)

  pub put_range : a < n → b < n → label_at (written p n 31 a b c) n ≡ range (place_at p a) (whole_at p a) (place_at p b) (whole_at p b)
  put_range x y =
      rw (
        put_first p n 31 a b c fits place_at place_same x,
        put_first p n 31 a b c fits whole_at whole_same x,
        put_second p n 31 a b c fits place_at place_same y,
        put_second p n 31 a b c fits whole_at whole_same y,
        written_word0 p n 31 a b c fits,
      )

  pub put_labels : a < n → b < n → labels_at (written p n 32 a b c) n ≡ labels_at p a ++ label_at p b ∷ []
  put_labels x y =
      let q = written p n 32 a b c in
      stepped (labels_at q) (λ i. labels_step q i (labels_at q)) (labels_node q) n some
      ∙ ap₂ (λ ls m. ls ++ m ∷ []) (put_first p n 32 a b c fits labels_at labels_same x) (put_second p n 32 a b c fits label_at label_same y)

  pub put_bounds : a < n → b < n → bounds_at (written p n 34 a b c) n ≡ array (place_at p a) (wide p a) (place_at p b) (wide p b)
  put_bounds x y =
      rw (
        put_first p n 34 a b c fits place_at place_same x,
        put_first p n 34 a b c fits wide wide_same x,
        put_second p n 34 a b c fits place_at place_same y,
        put_second p n 34 a b c fits wide wide_same y,
        kind p n 34 a b c fits some,
      )

  pub put_value : a < n → initial_at (written p n 35 a b c) n ≡ value c (place_at p a) (whole_at p a)
  put_value x =
      rw (
        put_first p n 35 a b c fits place_at place_same x,
        put_first p n 35 a b c fits whole_at whole_same x,
        kind p n 35 a b c fits some,
        put_place p n 35 a b c fits,
      )

  pub put_flag : (v : Bool) → initial_at (written p n (cond v 37 36) a b c) n ≡ flag c v
  put_flag true = rw (kind p n 37 a b c fits some, put_place p n 37 a b c fits)
  put_flag false = rw (kind p n 36 a b c fits some, put_place p n 36 a b c fits)

-- the form of an operator
pub map_at : {A B : Type 0} (f : A → B) (xs : List A) (i : ℕ) (d : B) (z : A) → i < length xs → get_or (map f xs) i d ≡ f (get_or xs i z)
map_at f [] i d z l = absurd (omega arith)
map_at f (x ∷ xs) zero d z l = refl
map_at f (x ∷ xs) (suc i) d z l = map_at f xs i d z (omega arith)

pub binary_form_lem : (o : ℕ) → o < 14 → get_or expr_forms (11 + o) nil_form ≡ binary_form (get_or operators o Or)
unfolding expr_forms
binary_form_lem o l =
    get_or-append-add (take 11 expr_forms) (map binary_form operators) o nil_form ∙ map_at binary_form operators o _ Or l

truth_form : (v : Bool) → get_or expr_forms (cond v 4 3) nil_form ≡ (λ t p i x y. truth (place_at p i) v)
unfolding expr_forms
truth_form true = refl
truth_form false = refl

module _ (t p : List ℕ) (n a b c : ℕ) (some : 0 < n) (fits : 4 * n + 4 ≤ length p) where
  -- ---- expressions

  number_put : (k : ℕ) → get_or expr_forms k nil_form ≡ number_form → expr_at t (written p n k a b c) n ≡ number c (whole k a b)
  number_put k e =
      expr_put p n k a b c fits t _ some e
      ∙ ap₂ number (put_place p n k a b c fits) (put_whole p n a b c some fits k)

  pub put_number : expr_at t (written p n 1 a b c) n ≡ number c (pos (a + 65536 * b))
  unfolding expr_forms
  put_number = number_put 1 refl

  pub put_negative : expr_at t (written p n 2 a b c) n ≡ number c (neg_ℤ (pos (a + 65536 * b)))
  unfolding expr_forms
  put_negative = number_put 2 refl

  pub put_truth : (v : Bool) → expr_at t (written p n (cond v 4 3) a b c) n ≡ truth c v
  put_truth v =
      expr_put p n (cond v 4 3) a b c fits t _ some (truth_form v)
      ∙ ap (λ q. truth q v) (put_place p n (cond v 4 3) a b c fits)

  pub put_variable : expr_at t (written p n 5 a b c) n ≡ variable c (name_at t c)
  unfolding expr_forms
  put_variable = expr_put p n 5 a b c fits t _ some refl ∙ ap (λ q. variable q (name_at t q)) (put_place p n 5 a b c fits)

  -- b is the place of `[`
  pub put_element : a < n → expr_at t (written p n 6 a b c) n ≡ element c (name_at t c) b (expr_at t p a)
  unfolding expr_forms
  put_element x =
      expr_put p n 6 a b c fits t _ some refl
      ∙ rw (put_first p n 6 a b c fits (expr_at t) (expr_same t) x, written_word2 p n 6 a b c fits, put_place p n 6 a b c fits)

  -- a form of one child and its place
  unary_put : (k : ℕ) (f : ℕ → Expr → Expr) → get_or expr_forms k nil_form ≡ (λ t p i x y. f (place_at p i) x) → a < n
      → expr_at t (written p n k a b c) n ≡ f c (expr_at t p a)
  unary_put k f e x =
      expr_put p n k a b c fits t _ some e
      ∙ ap₂ f (put_place p n k a b c fits) (put_first p n k a b c fits (expr_at t) (expr_same t) x)

  pub put_minus : a < n → expr_at t (written p n 7 a b c) n ≡ minus c (expr_at t p a)
  unfolding expr_forms
  put_minus x = unary_put 7 minus refl x

  pub put_complement : a < n → expr_at t (written p n 8 a b c) n ≡ complement c (expr_at t p a)
  unfolding expr_forms
  put_complement x = unary_put 8 complement refl x

  pub put_brackets : a < n → expr_at t (written p n 9 a b c) n ≡ brackets c (expr_at t p a)
  unfolding expr_forms
  put_brackets x = unary_put 9 brackets refl x

  pub put_conversion : (u v : ℕ) → u < 5 → v < 5 → b ≡ 8 * u + v → a < n → expr_at t (written p n 10 a b c) n ≡ conversion c (get_or types u BOOL) (get_or types v BOOL) (expr_at t p a)
  unfolding expr_forms
  put_conversion u v hu hv e x =
      let d : b / 8 ≡ u = omega arith in
      let m : b % 8 ≡ v = omega arith in
      expr_put p n 10 a b c fits t _ some refl
      ∙ rw (put_first p n 10 a b c fits (expr_at t) (expr_same t) x, written_word2 p n 10 a b c fits, put_place p n 10 a b c fits, d, m)

  pub put_binary : (o : ℕ) → o < 14 → a < n → b < n → expr_at t (written p n (11 + o) a b c) n ≡ binary c (get_or operators o Or) (expr_at t p a) (expr_at t p b)
  put_binary o h x y =
      expr_put p n (11 + o) a b c fits t _ some (binary_form_lem o h)
      ∙ rw (
        put_first p n (11 + o) a b c fits (expr_at t) (expr_same t) x,
        put_second p n (11 + o) a b c fits (expr_at t) (expr_same t) y,
        put_place p n (11 + o) a b c fits,
      )

  -- ---- statements, in front of a list k

  pub put_assign : (k : Stmts) → a < n → b < n → front_at t (written p n 40 a b c) n k ≡ assign (expr_at t p a) c (expr_at t p b) k
  unfolding front_forms
  put_assign k x y =
      front_put p n 40 a b c fits t _ k some refl
      ∙ rw (
        put_first p n 40 a b c fits (expr_at t) (expr_same t) x,
        put_second p n 40 a b c fits (expr_at t) (expr_same t) y,
        put_place p n 40 a b c fits,
      )

  -- b is the node of its two lists
  pub put_choice : (k : Stmts) → a < n → b < n
      → front_at t (written p n 41 a b c) n k
      ≡ choice c (place_at p b) (expr_at t p a) (front_at t p (child_of p b 1) done) (front_at t p (child_of p b 2) done) k
  unfolding front_forms
  put_choice k x y =
      front_put p n 41 a b c fits t _ k some refl
      ∙ rw (
        put_first p n 41 a b c fits (expr_at t) (expr_same t) x,
        put_second p n 41 a b c fits (λ q j. front_at t q (child_of q j 1) done) (first_same _ (list_same t done)) y,
        put_second p n 41 a b c fits (λ q j. front_at t q (child_of q j 2) done) (second_same _ (list_same t done)) y,
        put_second p n 41 a b c fits place_at place_same y,
        put_place p n 41 a b c fits,
      )

  pub put_select : (k : Stmts) → a < n → b < n → front_at t (written p n 42 a b c) n k ≡ select c (expr_at t p a) (arms_at t p b) k
  unfolding front_forms
  put_select k x y =
      let q = written p n 42 a b c in
      front_put p n 42 a b c fits t _ k some refl
      ∙ rw (
        arms_below t q n (child_of q n 2) (child_most q n 2),
        put_first p n 42 a b c fits (expr_at t) (expr_same t) x,
        put_second p n 42 a b c fits (arms_at t) (arms_same t) y,
        put_place p n 42 a b c fits,
      )

  -- a is its head, whose first child are its bounds
  pub put_loop : (k : Stmts) → a < n → b < n
      → front_at t (written p n 43 a b c) n k
      ≡ loop c (place_at p a) (name_at t (place_at p a)) (expr_at t p (child_of p (child_of p a 1) 1)) (expr_at t p (child_of p (child_of p a 1) 2)) (expr_at t p (child_of p a 2)) (front_at t p b done) k
  unfolding front_forms
  put_loop k x y =
      front_put p n 43 a b c fits t _ k some refl
      ∙ rw (
        put_first p n 43 a b c fits _ (first_same _ (first_same (expr_at t) (expr_same t))) x,
        put_first p n 43 a b c fits _ (first_same _ (second_same (expr_at t) (expr_same t))) x,
        put_first p n 43 a b c fits _ (second_same (expr_at t) (expr_same t)) x,
        put_first p n 43 a b c fits place_at place_same x,
        put_second p n 43 a b c fits _ (list_same t done) y,
        put_place p n 43 a b c fits,
      )

  pub put_list : (k : Stmts) → a < n → b < n → front_at t (written p n 44 a b c) n k ≡ front_at t p a (front_at t p b k)
  unfolding front_forms
  put_list k x y =
      front_put p n 44 a b c fits t _ k some refl
      ∙ rw (put_second p n 44 a b c fits _ (list_same t k) y, put_first p n 44 a b c fits _ (list_same t (front_at t p b k)) x)

  -- c is what follows the arm
  pub put_arm : a < n → b < n → c < n → arms_at t (written p n 48 a b c) n ≡ arm (labels_at p a) (front_at t p b done) (arms_at t p c)
  unfolding arms_forms
  put_arm x y z =
      arms_put p n 48 a b c fits t _ some refl
      ∙ rw (
        put_first p n 48 a b c fits labels_at labels_same x,
        put_second p n 48 a b c fits _ (list_same t done) y,
        put_third p n 48 a b c fits (arms_at t) (arms_same t) z,
      )

  pub put_else : a < n → arms_at t (written p n 49 a b c) n ≡ front_at t p a done
  unfolding arms_forms
  put_else x = arms_put p n 49 a b c fits t _ some refl ∙ put_first p n 49 a b c fits _ (list_same t done) x

  -- ---- declarations

  pub put_names : a < n → names_at t (written p n 33 a b c) n ≡ names_at t p a ++ record { place = c; name = name_at t c } ∷ []
  put_names x =
      let q = written p n 33 a b c in
      stepped (names_at t q) (λ i. names_step t q i (names_at t q)) (names_node t q) n some
      ∙ ap₂ (λ ns m. ns ++ record { place = m; name = name_at t m } ∷ []) (put_first p n 33 a b c fits (names_at t) (names_same t) x) (put_place p n 33 a b c fits)

  -- b is the node of its type
  pub put_declaration : a < n → b < n
      → declaration_at t (written p n 38 a b c) n
      ≡ declare (get_or kinds c Other) (get_or types (word_of p b 3) BOOL) (bounds_at p (child_of p b 1)) (initial_at p (child_of p b 2)) (names_at t p a)
  put_declaration x y =
      rw (
        put_first p n 38 a b c fits (names_at t) (names_same t) x,
        put_second p n 38 a b c fits _ (first_same bounds_at bounds_same) y,
        put_second p n 38 a b c fits _ (second_same initial_at initial_same) y,
        put_second p n 38 a b c fits place_at place_same y,
        put_place p n 38 a b c fits,
      )

  pub put_declared : a < n → b < n → declared_at t (written p n 39 a b c) n ≡ declared_at t p a ++ declaration_at t p b
  put_declared x y =
      let q = written p n 39 a b c in
      stepped (declared_at t q) (λ i. declared_step t q i (declared_at t q)) (declared_node t q) n some
      ∙ ap₂ (λ ds es. ds ++ es) (put_first p n 39 a b c fits (declared_at t) (declared_same t) x) (put_second p n 39 a b c fits (declaration_at t) (declaration_same t) y)

  pub put_program : (k : ℕ) → a < n → b < n
      → program_at t (written p n k a b c) n ≡ record { name = name_at t c; declared = declared_at t p a; body = front_at t p b done }
  unfolding program_at
  put_program k x y =
      rw (
        put_first p n k a b c fits (declared_at t) (declared_same t) x,
        put_second p n k a b c fits _ (list_same t done) y,
        put_place p n k a b c fits,
      )
