-- The print of an expression, cut into words.
use mathlib.Core.Path.{◌≡◌, refl}
use mathlib.Core.Bool.{Bool, true, false}
use mathlib.Core.List.{List, ◌∷◌, ◌++◌}
use Prim.Native.Nat.{ℕ, suc, ◌+◌, ◌-◌, ◌≤◌}
use native.Mathlib.Omega.{arith}
use borrow.Author.Tests.{leb-true, ne_eqb}
use lib.Dec.{leb}
use lib.IntN.{pos, negsuc, nat_abs}
use Rattle.paper.specs.declared.Ty.TheVariants.{Dint as DINT}
use Rattle.paper.specs.declared.Op.{Op}
use Rattle.paper.specs.declared.Op.TheVariants.{Mul, Div, Mod, Add, Sub, Lt, Gt, Le, Ge, Eq, Ne, And, Xor, Or}
use Rattle.paper.specs.declared.Cell.{Cell}
use Rattle.paper.specs.Types.{is_integer, same_ty}
use Rattle.paper.specs.Words as W
use Rattle.paper.specs.Words.{Word, bytes, words_from, piece_of, conversion_name}
use Rattle.paper.specs.Source.{Bounds, single, array}
use Rattle.paper.specs.Names.{Variable}
use Rattle.paper.specs.Printing as P
use Rattle.paper.specs.Plain.{Expr, number, truth, read, minus, complement, binary, conversion}
use Rattle.demands.proofs.Truths.{and_true}
use Rattle.again.proofs.Says.{key}
use Rattle.again.proofs.Wordings.{operator_word, cell_words, expression_words}
use Rattle.again.proofs.Spells.{Spells, step, Ends, run_above}
use Rattle.again.proofs.SpelledNumbers.{natural_word, whole_words_lem, natural_digit, fits_small}
use Rattle.again.proofs.SpelledNames.{run_word, true_word, false_word, conversion_word}
use Rattle.again.proofs.Printed.{Printed}
use Rattle.again.proofs.RereadExpressions.{Readable}

-- what is asked of numbers and conversions
abbrev pub Writable : Expr → Type 0
Writable (number t z) = nat_abs z ≤ 4294967295
Writable (truth b) = Unit {0}
Writable (read c) = Unit {0}
Writable (minus t e) = Writable e
Writable (complement e) = Writable e
Writable (binary o t l r) = Writable l × Writable r
Writable (conversion t u e) = ((is_integer t ≡ true) × (is_integer u ≡ true) × (same_ty t u ≡ false)) × Writable e

-- ---- signs

-- what doesn't make an opening bracket a comment's
abbrev NoStar : List ℕ → Type 0
NoStar s = W.begins (bytes "*") s ≡ false

above_star : (c : ℕ) (s : List ℕ) → 43 ≤ c → NoStar (c ∷ s)
unfolding W.begins bytes
above_star c s h = rw (ne_eqb 42 c (omega arith)) refl

opening : (k : List ℕ) (ws : List Word) → NoStar k → Spells k ws → Spells (P.put "(" k) (key "(" ∷ ws)
unfolding words_from piece_of bytes W.begins W.sign_piece W.signs
opening k ws n h p = rw (n, piece_of) (step p (h _))

closing : (k : List ℕ) (ws : List Word) → Spells k ws → Spells (P.put ")" k) (key ")" ∷ ws)
unfolding words_from piece_of bytes W.begins W.sign_piece W.signs
closing k ws h p = step p (h _)

-- a minus and its brackets
minus_opening : (k : List ℕ) (ws : List Word) → NoStar k → Spells k ws → Spells (P.put "(-(" k) (key "(" ∷ key "-" ∷ key "(" ∷ ws)
unfolding words_from piece_of bytes W.begins W.sign_piece W.signs
minus_opening k ws n h p = step p (step (suc p) (opening k ws n h _))

not_opening : (k : List ℕ) (ws : List Word) → Spells k ws → Spells (P.put "(NOT " k) (key "(" ∷ key "NOT" ∷ ws)
unfolding words_from piece_of bytes W.begins W.sign_piece W.signs W.run_of W.name_piece W.look_up W.reserved W.same_bytes W.parted W.type_name W.conversion_name
not_opening k ws h p = step p (step (suc p) (h _))

-- an operator between its blanks
between : (o : Op) (k : List ℕ) (ws : List Word) → Spells k ws → Spells (P.put (P.sign o) k) (operator_word o ∷ ws)
unfolding words_from piece_of bytes W.begins W.sign_piece W.signs W.run_of W.name_piece W.look_up W.reserved W.same_bytes W.parted W.type_name W.conversion_name
between Mul k ws h p = step (suc p) (h _)
between Div k ws h p = step (suc p) (h _)
between Mod k ws h p = step (suc p) (h _)
between Add k ws h p = step (suc p) (h _)
between Sub k ws h p = step (suc p) (h _)
between Lt k ws h p = step (suc p) (h _)
between Gt k ws h p = step (suc p) (h _)
between Le k ws h p = step (suc p) (h _)
between Ge k ws h p = step (suc p) (h _)
between Eq k ws h p = step (suc p) (h _)
between Ne k ws h p = step (suc p) (h _)
between And k ws h p = step (suc p) (h _)
between Xor k ws h p = step (suc p) (h _)
between Or k ws h p = step (suc p) (h _)

-- behind it a run ends
between_ends : (o : Op) (k : List ℕ) → Ends (P.put (P.sign o) k)
unfolding bytes
between_ends Mul k = refl
between_ends Div k = refl
between_ends Mod k = refl
between_ends Add k = refl
between_ends Sub k = refl
between_ends Lt k = refl
between_ends Gt k = refl
between_ends Le k = refl
between_ends Ge k = refl
between_ends Eq k = refl
between_ends Ne k = refl
between_ends And k = refl
between_ends Xor k = refl
between_ends Or k = refl

pub truth_words : (b : Bool) (k : List ℕ) (ws : List Word) → Ends k → Spells k ws → Spells (P.truth_value b k) (W.truth b ∷ ws)
truth_words true k ws e h = run_word (bytes "TRUE") k (W.truth true) true_word e h
truth_words false k ws e h = run_word (bytes "FALSE") k (W.truth false) false_word e h

-- ---- cells

module _ (vs : List Variable) where
  pub cell_words_lem : (c : Cell) (k : List ℕ) (ws : List Word) → Printed vs c → Ends k → Spells k ws
      → Spells (P.cell vs c.0 k) (cell_words vs c.0 ws)
  unfolding words_from piece_of bytes W.begins W.sign_piece W.signs
  cell_words_lem c k ws h e x = rw (h.words ws, h.print k) (go h.var.declared.bounds refl)
    where
      n : List ℕ
      n = h.var.declared.name

      go : (b : Bounds) → h.var.declared.bounds ≡ b
          → Spells
          (elim b [
            | single ↦ n ++ k
            | array p lo q hi ↦ n ++ P.put "[" (P.natural (lo + (c.0 - h.var.first)) (P.put "]" k))
          ])
          (elim b [
            | single ↦ W.name n ∷ ws
            | array p lo q hi ↦ W.name n ∷ key "[" ∷ W.number (lo + (c.0 - h.var.first)) ∷ key "]" ∷ ws
          ])
      go single i = run_word n k (W.name n) h.named e x
      go (array p lo q hi) i =
          let j = lo + (c.0 - h.var.first) in
          run_word n _ (W.name n) h.named refl
          (λ a. step a (natural_word j (P.put "]" k) (fits_small DINT (pos j) (h.small p lo q hi i)) refl (λ b. step b (x _)) _))

  -- a cell begins with a byte of its name
  cell_starts : (c : Cell) (k : List ℕ) → Printed vs c → NoStar (P.cell vs c.0 k)
  cell_starts c k h = rw (h.print k) (go h.var.declared.bounds)
    where
      start : (u : List ℕ) → NoStar (h.var.declared.name ++ u)
      start u =
          let low = run_above h.named.first h.named.run.0 in
          rw h.named.is (above_star h.named.first (h.named.rest ++ u) (omega arith))

      go : (b : Bounds)
          → NoStar (elim b [
            | single ↦ h.var.declared.name ++ k
            | array p lo q hi ↦ h.var.declared.name ++ P.put "[" (P.natural (lo + (c.0 - h.var.first)) (P.put "]" k))
          ])
      go single = start k
      go (array p lo q hi) = start _

  -- no expression begins with a star
  starts : (x : Expr) (k : List ℕ) → Readable vs x → Writable x → NoStar (P.expression vs x k)
  unfolding P.expression bytes W.begins
  starts (number t (pos n)) k r w =
      let x = natural_digit n k w in
      let low = leb-true 48 x.0 (and_true (leb 48 x.0) (leb x.0 57) x.3).0 in
      rw x.2 (above_star x.0 x.1 (omega arith))
  starts (number t (negsuc n)) k r w = refl
  starts (truth true) k r w = refl
  starts (truth false) k r w = refl
  starts (read c) k r w = cell_starts c k r
  starts (minus t e) k r w = refl
  starts (complement e) k r w = refl
  starts (binary o t l e) k r w = refl
  starts (conversion t u e) k r w =
      let x = conversion_word t u w.0.0 w.0.1 w.0.2 in
      let low = run_above x.first x.run.0 in
      rw x.is (above_star x.first (x.rest ++ P.put "(" (P.expression vs e (P.put ")" k))) (omega arith))

  -- ---- expressions

  pub expression_words_lem : (x : Expr) (k : List ℕ) (ws : List Word) → Readable vs x → Writable x → Ends k → Spells k ws
      → Spells (P.expression vs x k) (expression_words vs x ws)
  unfolding P.expression expression_words bytes
  expression_words_lem (number t z) k ws r w e h = whole_words_lem z k w e h
  expression_words_lem (truth b) k ws r w e h = truth_words b k ws e h
  expression_words_lem (read c) k ws r w e h = cell_words_lem c k ws r e h
  expression_words_lem (minus t x) k ws r w e h =
      let close = closing (P.put ")" k) _ (closing k ws h) in
      minus_opening _ _ (starts x _ r w) (expression_words_lem x (P.put "))" k) _ r w refl close)
  expression_words_lem (complement x) k ws r w e h =
      not_opening _ _ (expression_words_lem x (P.put ")" k) _ r.1 w refl (closing k ws h))
  expression_words_lem (binary o t l x) k ws r w e h =
      let right = expression_words_lem x (P.put ")" k) _ r.1 w.1 refl (closing k ws h) in
      let left = expression_words_lem l _ _ r.0 w.0 (between_ends o _) (between o _ _ right) in
      opening _ _ (starts l _ r.0 w.0) left
  expression_words_lem (conversion t u x) k ws r w e h =
      let inner = expression_words_lem x (P.put ")" k) _ r w.1 refl (closing k ws h) in
      run_word (conversion_name t u) _ (W.conversion t u) (conversion_word t u w.0.0 w.0.1 w.0.2) refl
      (opening _ _ (starts x _ r w.1) inner)
