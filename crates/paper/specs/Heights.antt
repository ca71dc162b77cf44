-- How high an expression is, and refusal 7.
use Rattle.std.specs.Prelude.{List, [], ◌∷◌, ◌++◌, ℕ, suc, max, ltb}
use Rattle.paper.specs.Source.{Expr, number, truth, variable, element, minus, complement, binary, conversion, brackets, Label, one, range, Stmts, done, assign, choice, select, arm, loop, Program}
use Rattle.paper.specs.Names.{at}

-- refusal 7: how many operators stand above one another, and one more; an element counts as a leaf
unfoldable pub height : Expr → ℕ
height (number p z) = 1
height (truth p b) = 1
height (variable p s) = 1
height (element p s q i) = 1
height (minus p e) = suc (height e)
height (complement p e) = suc (height e)
height (binary p o l r) = suc (max (height l) (height r))
height (conversion p t u e) = suc (height e)
height (brackets p e) = height e

-- the place of the first word
unfoldable pub first_word : Expr → ℕ
first_word (number p z) = p
first_word (truth p b) = p
first_word (variable p s) = p
first_word (element p s q i) = p
first_word (minus p e) = p
first_word (complement p e) = p
first_word (binary p o l r) = first_word l
first_word (conversion p t u e) = p
first_word (brackets p e) = p

abbrev pub too_high : ℕ → ℕ → List ℕ
too_high p h = at p (ltb 32 h)

-- refusal 7, 'by itself': a subscript is an expression of its own
unfoldable pub subscripts : Expr → List ℕ
subscripts (number p z) = []
subscripts (truth p b) = []
subscripts (variable p s) = []
subscripts (element p s q i) = too_high (first_word i) (height i) ++ subscripts i
subscripts (minus p e) = subscripts e
subscripts (complement p e) = subscripts e
subscripts (binary p o l r) = subscripts l ++ subscripts r
subscripts (conversion p t u e) = subscripts e
subscripts (brackets p e) = subscripts e

unfoldable pub measured : Expr → List ℕ
measured e = too_high (first_word e) (height e) ++ subscripts e

-- ---- tests, as spelled in ST0, of a selector of height h

abbrev pub test_height : ℕ → Label → ℕ
test_height h (one p a) = suc h
test_height h (range p a q b) = suc (suc h)

-- each further label puts one OR above what stands so far
unfoldable pub joined_height : ℕ → ℕ → List Label → ℕ
joined_height h n [] = n
joined_height h n (l ∷ ls) = joined_height h (suc (max n (test_height h l))) ls

abbrev pub label_place : Label → ℕ
label_place (one p a) = p
label_place (range p a q b) = p

-- the place of an arm is its first label
abbrev pub arm_faults : ℕ → List Label → List ℕ
arm_faults h [] = []
arm_faults h (l ∷ ls) = too_high (label_place l) (joined_height h (test_height h l) ls)

-- `h` is the height of the selector of the CASE around, and counts at an arm only
unfoldable pub statement_faults : Stmts → ℕ → List ℕ
statement_faults done h = []
statement_faults (assign x q e k) h = subscripts x ++ measured e ++ statement_faults k 1
statement_faults (choice p q c a b k) h = measured c ++ statement_faults a 1 ++ statement_faults b 1 ++ statement_faults k 1
statement_faults (select p s a k) h = subscripts s ++ statement_faults a (height s) ++ statement_faults k 1
statement_faults (arm ls a k) h = arm_faults h ls ++ statement_faults a 1 ++ statement_faults k h
statement_faults (loop p q v a b c body k) h =
    measured a ++ measured b ++ measured c ++ statement_faults body 1 ++ statement_faults k 1

unfoldable pub height_faults : Program → List ℕ
height_faults pr = statement_faults pr.body 1
