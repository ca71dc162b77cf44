-- What a node just written stands for, one law a form.
use mathlib.Core.Path.{◌≡◌, refl, ap, ap₂, ◌∙◌}
use mathlib.Core.Bool.{Bool, true, false, cond}
use mathlib.Core.List.{List, map}
use Prim.Native.Nat.{ℕ, zero, suc, ◌+◌, ◌*◌, ◌-◌, ◌/◌, ◌%◌, ◌≤◌, ◌<◌}
use native.Mathlib.Omega.{arith}
use lib.ListN.{length, get_or, take}
use lib.Seq.{get_or-append-add}
use Rattle.paper.specs.declared.Ty.TheVariants.{Bool as BOOL}
use Rattle.paper.specs.declared.Op.TheVariants.{Or}
use Rattle.paper.specs.Plain.{number, truth, read, minus, complement, binary, conversion, Stmts, done, assign, choice}
use Rattle.tree.specs.Nodes.{word_of, child_of, written}
use Rattle.tree.specs.Trees.{types, operators, whole_at}
use Rattle.tree.proofs.Puts.{written_word0, written_word1, written_word2, written_word3}
use Rattle.tree.proofs.Forms.{whole, map_at, put_first, put_second, put_third, put_whole}
use Rattle.plain.specs.Flat.{type_at, ExprForm, nil_form, number_form, binary_form, expr_forms, expr_at, FrontForm, skip, front_forms, front_at, list_at}
use Rattle.plain.proofs.Frames.{expr_form, expr_same, front_form, list_same}

-- ---- the form of a kind

pub number_form_lem : (k : ℕ) → 0 < k → k < 3 → get_or expr_forms k nil_form ≡ number_form
unfolding expr_forms
number_form_lem zero s l = absurd (omega arith)
number_form_lem (suc zero) s l = refl
number_form_lem (suc (suc zero)) s l = refl
number_form_lem (suc (suc (suc k))) s l = absurd (omega arith)

truth_form : (v : Bool) → get_or expr_forms (cond v 4 3) nil_form ≡ (λ p i x y. truth v)
unfolding expr_forms
truth_form true = refl
truth_form false = refl

pub binary_form_lem : (o : ℕ) → o < 14 → get_or expr_forms (11 + o) nil_form ≡ binary_form (get_or operators o Or)
unfolding expr_forms
binary_form_lem o l =
    get_or-append-add (take 11 expr_forms) (map binary_form operators) o nil_form ∙ map_at binary_form operators o _ Or l

-- ---- the node n of the pool p, by its kind k

module _ (p : List ℕ) (n k a b c : ℕ) (some : 0 < n) (fits : 4 * n + 4 ≤ length p) where
  abbrev pool : List ℕ
  pool = written p n k a b c

  expr_put : (f : ExprForm) → get_or expr_forms k nil_form ≡ f → expr_at pool n ≡ f pool n (expr_at pool (child_of pool n 1)) (expr_at pool (child_of pool n 2))
  expr_put f e = expr_form pool n k f some (written_word0 p n k a b c fits) e

  front_put : (f : FrontForm) (l : Stmts) → get_or front_forms (k - 40) skip ≡ f → front_at pool n l ≡ f pool n (front_at pool) l
  front_put f l e = front_form pool n k f l some (written_word0 p n k a b c fits) e

  type_put : type_at pool n ≡ get_or types c BOOL
  type_put = ap (λ w. get_or types w BOOL) (written_word3 p n k a b c fits)

  first_put : a < n → expr_at pool (child_of pool n 1) ≡ expr_at p a
  first_put x = put_first p n k a b c fits expr_at expr_same x

  second_put : b < n → expr_at pool (child_of pool n 2) ≡ expr_at p b
  second_put y = put_second p n k a b c fits expr_at expr_same y

-- ---- expressions

module _ (p : List ℕ) (n a b c : ℕ) (some : 0 < n) (fits : 4 * n + 4 ≤ length p) where
  -- of the kind 1, and 2 for a negative one; of a node's own first three words this is its whole number, `whole_at`
  pub put_number : (k : ℕ) → 0 < k → k < 3 → expr_at (written p n k a b c) n ≡ number (get_or types c BOOL) (whole k a b)
  put_number k s l =
      expr_put p n k a b c some fits _ (number_form_lem k s l)
      ∙ ap₂ number (type_put p n k a b c some fits) (put_whole p n a b c some fits k)

  pub put_truth : (v : Bool) → expr_at (written p n (cond v 4 3) a b c) n ≡ truth v
  put_truth v = expr_put p n (cond v 4 3) a b c some fits _ (truth_form v)

  -- a is the cell
  pub put_read : expr_at (written p n 5 a b c) n ≡ read (record { 0 = a })
  unfolding expr_forms
  put_read = expr_put p n 5 a b c some fits _ refl ∙ ap (λ w. read (record { 0 = w })) (written_word1 p n 5 a b c fits)

  pub put_minus : a < n → expr_at (written p n 7 a b c) n ≡ minus (get_or types c BOOL) (expr_at p a)
  unfolding expr_forms
  put_minus x =
      expr_put p n 7 a b c some fits _ refl
      ∙ ap₂ minus (type_put p n 7 a b c some fits) (first_put p n 7 a b c some fits x)

  pub put_complement : a < n → expr_at (written p n 8 a b c) n ≡ complement (expr_at p a)
  unfolding expr_forms
  put_complement x = expr_put p n 8 a b c some fits _ refl ∙ ap complement (first_put p n 8 a b c some fits x)

  -- b holds the two types, eight times the first and the second
  pub put_conversion : a < n → expr_at (written p n 10 a b c) n ≡ conversion (get_or types (b / 8) BOOL) (get_or types (b % 8) BOOL) (expr_at p a)
  unfolding expr_forms
  put_conversion x =
      expr_put p n 10 a b c some fits _ refl
      ∙ rw (first_put p n 10 a b c some fits x, written_word2 p n 10 a b c fits)

  pub put_binary : (o : ℕ) → o < 14 → a < n → b < n
      → expr_at (written p n (11 + o) a b c) n ≡ binary (get_or operators o Or) (get_or types c BOOL) (expr_at p a) (expr_at p b)
  put_binary o h x y =
      expr_put p n (11 + o) a b c some fits _ (binary_form_lem o h)
      ∙ rw (first_put p n (11 + o) a b c some fits x, second_put p n (11 + o) a b c some fits y, type_put p n (11 + o) a b c some fits)

  -- ---- statements, in front of a list k

  -- a is the cell
  pub put_assign : (k : Stmts) → b < n → front_at (written p n 40 a b c) n k ≡ assign (record { 0 = a }) (expr_at p b) k
  unfolding front_forms
  put_assign k y =
      front_put p n 40 a b c some fits _ k refl
      ∙ rw (second_put p n 40 a b c some fits y, written_word1 p n 40 a b c fits)

  pub put_choice : (k : Stmts) → a < n → b < n → c < n
      → front_at (written p n 41 a b c) n k ≡ choice (expr_at p a) (list_at p b) (list_at p c) k
  unfolding front_forms
  put_choice k x y z =
      front_put p n 41 a b c some fits _ k refl
      ∙ rw (
        first_put p n 41 a b c some fits x,
        put_second p n 41 a b c fits _ (list_same done) y,
        put_third p n 41 a b c fits _ (list_same done) z,
      )

  pub put_list : (k : Stmts) → a < n → b < n → front_at (written p n 44 a b c) n k ≡ front_at p a (front_at p b k)
  unfolding front_forms
  put_list k x y =
      front_put p n 44 a b c some fits _ k refl
      ∙ rw (put_second p n 44 a b c fits _ (list_same k) y, put_first p n 44 a b c fits _ (list_same (front_at p b k)) x)

-- a number copied word by word from another pool, with its type
pub put_copied : (p : List ℕ) (n : ℕ) (q : List ℕ) (i c : ℕ) → 0 < n → 4 * n + 4 ≤ length p → 0 < word_of q i 0 → word_of q i 0 < 3
    → expr_at (written p n (word_of q i 0) (word_of q i 1) (word_of q i 2) c) n ≡ number (get_or types c BOOL) (whole_at q i)
put_copied p n q i c some fits s l = put_number p n (word_of q i 1) (word_of q i 2) c some fits (word_of q i 0) s l
