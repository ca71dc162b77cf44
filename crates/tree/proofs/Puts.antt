-- What a written node leaves in the pool.
use mathlib.Core.Path.{◌≡◌, ◌∙◌}
use mathlib.Core.List.{List}
use Prim.Native.Nat.{ℕ, ◌+◌, ◌*◌, ◌≤◌, ◌<◌}
use native.Mathlib.Nat.{add-zero}
use native.Mathlib.Omega.{arith}
use lib.ListN.{length, set, length-set}
use lib.Seq.{get_or-set_same, get_or-set_other}
use Rattle.tree.specs.Nodes.{word_of, written, Same}

module _ (p : List ℕ) (n k a b c : ℕ) where
  abbrev p1 : List ℕ
  p1 = set p (4 * n) k

  abbrev p2 : List ℕ
  p2 = set p1 (4 * n + 1) a

  abbrev p3 : List ℕ
  p3 = set p2 (4 * n + 2) b

  -- the pool is as long as it was
  pub written_length : length (written p n k a b c) ≡ length p
  written_length = simp length-set

  -- the nodes before it stand
  pub written_same : (m : ℕ) → m < n → Same m p (written p n k a b c)
  written_same m l j h =
      get_or-set_other p3 (4 * n + 3) j c 0 (omega arith)
      ∙ get_or-set_other p2 (4 * n + 2) j b 0 (omega arith)
      ∙ get_or-set_other p1 (4 * n + 1) j a 0 (omega arith)
      ∙ get_or-set_other p (4 * n) j k 0 (omega arith)

  -- its four words
  pub written_word0 : 4 * n + 4 ≤ length p → word_of (written p n k a b c) n 0 ≡ k
  written_word0 fits =
      get_or-set_other p3 (4 * n + 3) (4 * n + 0) c 0 (omega arith)
      ∙ get_or-set_other p2 (4 * n + 2) (4 * n + 0) b 0 (omega arith)
      ∙ get_or-set_other p1 (4 * n + 1) (4 * n + 0) a 0 (omega arith)
      ∙ rw (add-zero (4 * n)) (get_or-set_same p (4 * n) k 0 (omega arith))

  pub written_word1 : 4 * n + 4 ≤ length p → word_of (written p n k a b c) n 1 ≡ a
  written_word1 fits =
      get_or-set_other p3 (4 * n + 3) (4 * n + 1) c 0 (omega arith)
      ∙ get_or-set_other p2 (4 * n + 2) (4 * n + 1) b 0 (omega arith)
      ∙ get_or-set_same p1 (4 * n + 1) a 0 (simp length-set (omega arith))

  pub written_word2 : 4 * n + 4 ≤ length p → word_of (written p n k a b c) n 2 ≡ b
  written_word2 fits =
      get_or-set_other p3 (4 * n + 3) (4 * n + 2) c 0 (omega arith)
      ∙ get_or-set_same p2 (4 * n + 2) b 0 (simp length-set (omega arith))

  pub written_word3 : 4 * n + 4 ≤ length p → word_of (written p n k a b c) n 3 ≡ c
  written_word3 fits = get_or-set_same p3 (4 * n + 3) c 0 (simp length-set (omega arith))
