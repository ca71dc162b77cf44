-- What the last node of a statement stands for, from the parts read before it.
use mathlib.Core.Path.{◌≡◌, ap, fun_ext, ◌∙◌}
use mathlib.Core.List.{List}
use Prim.Native.Nat.{ℕ, ◌+◌, ◌*◌, ◌≤◌}
use native.Mathlib.Omega.{arith}
use lib.ListN.{length}
use Rattle.paper.specs.Source.{Stmts, done, choice, select, arm, loop}
use Rattle.tree.specs.Nodes.{Same, written}
use Rattle.tree.specs.Trees.{expr_at, front_at, arms_at, labels_at, place_at}
use Rattle.tree.proofs.Frames.{expr_same, list_same, labels_same, place_same, first_same, second_same}
use Rattle.tree.proofs.Forms.{put_choice, put_select, put_loop, put_arm, put_else, put_first, put_second, put_place}
use Rattle.statements.specs.Lists.{two_at, Head, head_at, list_at}

-- the loop of a head
abbrev pub looped : ℕ → Head → Stmts → Stmts → Stmts
looped p h b k = loop p h.place h.name h.from h.to h.by b k

-- the node m + 1 of the pool `mid`, whose first part was read in `old`, with n nodes
module _ (t old mid new : List ℕ) (n m a b c : ℕ) (h : Same n old mid) (la : a ≤ n) (am : a ≤ m) (bm : b ≤ m) (fits : 4 * (m + 1) + 4 ≤ length mid) where
  pub choice_node : (q : ℕ) → place_at mid b ≡ q → new ≡ written mid (m + 1) 41 a b c
      → front_at t new (m + 1) ≡ choice c q (expr_at t old a) (two_at t mid b).first (two_at t mid b).second
  choice_node q e w =
      fun_ext (λ k. ap (λ p. front_at t p (m + 1) k) w ∙ put_choice t mid (m + 1) a b c (omega arith) fits k (omega arith) (omega arith)
      ∙ rw (e, expr_same t old mid n a h la))

  pub select_node : new ≡ written mid (m + 1) 42 a b c → front_at t new (m + 1) ≡ select c (expr_at t old a) (arms_at t mid b)
  select_node w =
      fun_ext (λ k. ap (λ p. front_at t p (m + 1) k) w ∙ put_select t mid (m + 1) a b c (omega arith) fits k (omega arith) (omega arith)
      ∙ rw (expr_same t old mid n a h la))

  pub two_node : new ≡ written mid (m + 1) 45 a b c → two_at t new (m + 1) ≡ record { first = list_at t old a; second = list_at t mid b }
  two_node w =
      ap (λ p. two_at t p (m + 1)) w
      ∙ rw (put_first mid (m + 1) 45 a b c fits (λ p i. front_at t p i done) (list_same t done) (omega arith), put_second mid (m + 1) 45 a b c fits (λ p i. front_at t p i done) (list_same t done) (omega arith), list_same t done old mid n a h la)

  pub two_place : new ≡ written mid (m + 1) 45 a b c → place_at new (m + 1) ≡ c
  two_place w = ap (λ p. place_at p (m + 1)) w ∙ put_place mid (m + 1) 45 a b c fits

  pub loop_node : new ≡ written mid (m + 1) 43 a b c → front_at t new (m + 1) ≡ looped c (head_at t old a) (list_at t mid b)
  loop_node w =
      fun_ext (λ k. ap (λ p. front_at t p (m + 1) k) w ∙ put_loop t mid (m + 1) a b c (omega arith) fits k (omega arith) (omega arith)
      ∙ rw (
        first_same _ (first_same (expr_at t) (expr_same t)) old mid n a h la,
        first_same _ (second_same (expr_at t) (expr_same t)) old mid n a h la,
        second_same (expr_at t) (expr_same t) old mid n a h la,
        place_same old mid n a h la,
      ))

  -- b is read in the pool `mid2`, with j nodes
  pub arm_node : (mid2 : List ℕ) (j : ℕ) → Same j mid2 mid → b ≤ j → c ≤ m → new ≡ written mid (m + 1) 48 a b c
      → arms_at t new (m + 1) ≡ arm (labels_at old a) (list_at t mid2 b) (arms_at t mid c)
  arm_node mid2 j g lb cm w =
      ap (λ p. arms_at t p (m + 1)) w ∙ put_arm t mid (m + 1) a b c (omega arith) fits (omega arith) (omega arith) (omega arith)
      ∙ rw (labels_same old mid n a h la, list_same t done mid2 mid j b g lb)

-- the ELSE list of a CASE
pub else_node : (t mid new : List ℕ) (m a : ℕ) → a ≤ m → 4 * (m + 1) + 4 ≤ length mid → new ≡ written mid (m + 1) 49 a 0 0 → arms_at t new (m + 1) ≡ list_at t mid a
else_node t mid new m a am fits w =
    ap (λ p. arms_at t p (m + 1)) w ∙ put_else t mid (m + 1) a 0 0 (omega arith) fits (omega arith)
