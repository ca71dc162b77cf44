-- A node: four words of a flat pool, the kind and three more. Nodes are numbered from 1, and 0 is nil.
use Rattle.std.specs.Prelude.{◌≡◌, cond, List, ℕ, ◌+◌, ◌*◌, ◌<◌, ltb, eqb, get_or, set}

-- the word k of the node i
abbrev pub word_of : List ℕ → ℕ → ℕ → ℕ
word_of p i k = get_or p (4 * i + k) 0

-- the kind of the node i, and 0 of nil
abbrev pub kind_of : List ℕ → ℕ → ℕ
kind_of p i = cond (eqb i 0) 0 (word_of p i 0)

-- the word k of the node i as an earlier node, and nil where it is none
abbrev pub child_of : List ℕ → ℕ → ℕ → ℕ
child_of p i k = cond (ltb (word_of p i k) i) (word_of p i k) 0

-- the pool with the node n written
abbrev pub written : List ℕ → ℕ → ℕ → ℕ → ℕ → ℕ → List ℕ
written p n k a b c = set (set (set (set p (4 * n) k) (4 * n + 1) a) (4 * n + 2) b) (4 * n + 3) c

-- the nodes up to n stand as they were
abbrev pub Same : ℕ → List ℕ → List ℕ → Type 0
Same n old new = (k : ℕ) → k < 4 * n + 4 → get_or new k 0 ≡ get_or old k 0
