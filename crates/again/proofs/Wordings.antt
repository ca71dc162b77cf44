-- The print as words: what stands in it, spelling and places aside. Each function puts its words in front of `k`.
use mathlib.Core.Bool.{true, false, ◌&&◌}
use mathlib.Core.List.{List, [], ◌∷◌}
use Prim.Native.Nat.{ℕ, suc, ◌+◌, ◌-◌}
use Prim.Native.String.{String}
use lib.Dec.{leb, ltb}
use lib.IntN.{ℤ, pos, negsuc}
use Rattle.paper.specs.declared.Ty.{Ty}
use Rattle.paper.specs.declared.Ty.TheVariants.{Bool as BOOL, Int as INT, Uint as UINT, Dint as DINT, Udint as UDINT}
use Rattle.paper.specs.declared.Kind.{Kind}
use Rattle.paper.specs.declared.Kind.TheVariants.{Input, Output, Other}
use Rattle.paper.specs.declared.Op.{Op}
use Rattle.paper.specs.declared.Op.TheVariants.{Mul, Div, Mod, Add, Sub, Lt, Gt, Le, Ge, Eq, Ne, And, Xor, Or}
use Rattle.paper.specs.Words as W
use Rattle.paper.specs.Words.{Word}
use Rattle.paper.specs.Source.{Name, Bounds, single, array, Initial, nothing, value, flag, Declared}
use Rattle.paper.specs.Names.{Variable, size_of, of_kind}
use Rattle.paper.specs.Plain.{Expr, number, truth, read, minus, complement, binary, conversion, Stmts, done, assign, choice}
use Rattle.again.proofs.Says.{key}

abbrev pub whole_words : ℤ → List Word → List Word
whole_words (pos n) k = W.number n ∷ k
whole_words (negsuc n) k = key "-" ∷ W.number (suc n) ∷ k

-- a minus is a sign, any other operator is one word
abbrev pub operator_word : Op → Word
operator_word Mul = W.operator Mul
operator_word Div = W.operator Div
operator_word Mod = W.operator Mod
operator_word Add = W.operator Add
operator_word Sub = key "-"
operator_word Lt = W.operator Lt
operator_word Gt = W.operator Gt
operator_word Le = W.operator Le
operator_word Ge = W.operator Ge
operator_word Eq = W.operator Eq
operator_word Ne = W.operator Ne
operator_word And = W.operator And
operator_word Xor = W.operator Xor
operator_word Or = W.operator Or

-- a cell of the variable v
abbrev pub words_of_variable : Variable → ℕ → List Word → List Word
words_of_variable v i k =
    elim v.declared.bounds [
      | single ↦ W.name v.declared.name ∷ k
      | array p lo q hi ↦ W.name v.declared.name ∷ key "[" ∷ W.number (lo + (i - v.first)) ∷ key "]" ∷ k
    ]

unfoldable pub cell_words : List Variable → ℕ → List Word → List Word
cell_words [] i k = k
cell_words (v ∷ vs) i k =
    elim (leb v.first i && ltb i (v.first + size_of v.declared.bounds)) [ true ↦ words_of_variable v i k | false ↦ cell_words vs i k ]

-- a list without statements is one empty statement
abbrev pub or_semicolon : Stmts → List Word → List Word → List Word
or_semicolon done k s = key ";" ∷ k
or_semicolon (assign c e r) k s = s
or_semicolon (choice c a b r) k s = s

-- ELSE only where it holds something
abbrev pub else_words : Stmts → List Word → List Word → List Word
else_words done k s = k
else_words (assign c e r) k s = key "ELSE" ∷ s
else_words (choice c a b r) k s = key "ELSE" ∷ s

module _ (vs : List Variable) where
  unfoldable pub expression_words : Expr → List Word → List Word
  expression_words (number t z) k = whole_words z k
  expression_words (truth b) k = W.truth b ∷ k
  expression_words (read c) k = cell_words vs c.0 k
  expression_words (minus t e) k = key "(" ∷ key "-" ∷ key "(" ∷ expression_words e (key ")" ∷ key ")" ∷ k)
  expression_words (complement e) k = key "(" ∷ key "NOT" ∷ expression_words e (key ")" ∷ k)
  expression_words (binary o t l r) k = key "(" ∷ expression_words l (operator_word o ∷ expression_words r (key ")" ∷ k))
  expression_words (conversion t u e) k = W.conversion t u ∷ key "(" ∷ expression_words e (key ")" ∷ k)

  unfoldable pub statement_words : Stmts → List Word → List Word
  statement_words done k = k
  statement_words (assign c e r) k = cell_words vs c.0 (key ":=" ∷ expression_words e (key ";" ∷ statement_words r k))
  statement_words (choice c a b r) k =
      let end = key "END_IF" ∷ key ";" ∷ statement_words r k in
      let otherwise = else_words b end (statement_words b end) in
      key "IF" ∷ expression_words c (key "THEN" ∷ or_semicolon a otherwise (statement_words a otherwise))

-- ---- declarations

-- a value that was left out is 0 or FALSE
abbrev pub initial_words : Ty → Initial → List Word → List Word
initial_words BOOL nothing k = W.truth false ∷ k
initial_words INT nothing k = W.number 0 ∷ k
initial_words UINT nothing k = W.number 0 ∷ k
initial_words DINT nothing k = W.number 0 ∷ k
initial_words UDINT nothing k = W.number 0 ∷ k
initial_words t (value q p z) k = whole_words z k
initial_words t (flag q b) k = W.truth b ∷ k

abbrev pub declared_words : Kind → Bounds → Ty → Initial → List Word → List Word
declared_words Input b t v k = W.type t ∷ key ";" ∷ k
declared_words Output single t v k = W.type t ∷ key ":=" ∷ initial_words t v (key ";" ∷ k)
declared_words Other single t v k = W.type t ∷ key ":=" ∷ initial_words t v (key ";" ∷ k)
declared_words Output (array p lo q hi) t v k = k
declared_words Other (array p lo q hi) t v k =
    key "ARRAY" ∷ key "[" ∷ W.number lo ∷ key ".." ∷ W.number hi ∷ key "]" ∷ key "OF" ∷ W.type t ∷ key ";" ∷ k

unfoldable pub declaration_words : List Declared → List Word → List Word
declaration_words [] k = k
declaration_words (d ∷ ds) k =
    W.name d.name ∷ key ":" ∷ declared_words d.kind d.bounds d.ty d.initial (declaration_words ds k)

abbrev pub section_words : String → List Declared → List Word → List Word
section_words s [] k = k
section_words s (d ∷ ds) k = key s ∷ declaration_words (d ∷ ds) (key "END_VAR" ∷ k)

unfoldable pub sections_words : List Declared → List Word → List Word
sections_words ds k =
    section_words "VAR_INPUT" (of_kind Input ds)
    (section_words "VAR_OUTPUT" (of_kind Output ds)
    (section_words "VAR" (of_kind Other ds) k))

unfoldable pub program_words : Name → List Declared → List Variable → Stmts → List Word
program_words n ds vs p =
    let end = key "END_PROGRAM" ∷ W.ending ∷ [] in
    key "PROGRAM" ∷ W.name n ∷ sections_words ds (or_semicolon p end (statement_words vs p end))
