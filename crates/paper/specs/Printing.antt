-- 'ST0 in print': the bytes. Each function prints in front of `k`, what comes behind.
use Rattle.std.specs.Prelude.{Bool, true, false, ◌&&◌, List, [], ◌∷◌, ◌++◌, ℕ, zero, suc, ◌+◌, ◌-◌, ◌/◌, ◌%◌, ltb, leb, ℤ, pos, negsuc}
use Prim.Native.String.{String}
use Rattle.paper.specs.declared.Ty.{Ty}
use Rattle.paper.specs.declared.Ty.TheVariants.{Bool as BOOL, Int as INT, Uint as UINT, Dint as DINT, Udint as UDINT}
use Rattle.paper.specs.declared.Kind.{Kind}
use Rattle.paper.specs.declared.Kind.TheVariants.{Input, Output, Other}
use Rattle.paper.specs.declared.Op.{Op}
use Rattle.paper.specs.declared.Op.TheVariants.{Mul, Div, Mod, Add, Sub, Lt, Gt, Le, Ge, Eq, Ne, And, Xor, Or}
use Rattle.paper.specs.Words.{bytes, type_name, conversion_name}
use Rattle.paper.specs.Source.{Name, Bounds, single, array, Initial, nothing, value, flag, Declared}
use Rattle.paper.specs.Names.{Variable, size_of, of_kind}
use Rattle.paper.specs.Plain.{Expr, number, truth, read, minus, complement, binary, conversion, Stmts, done, assign, choice}

-- ---- words

abbrev pub put : String → List ℕ → List ℕ
put s k = bytes s ++ k

-- LF ends each line
abbrev pub line : String → List ℕ → List ℕ
line s k = put s (10 ∷ k)

-- the digits of n, of which no number here has more than ten
unfoldable pub digits : ℕ → ℕ → List ℕ → List ℕ
digits zero n k = k
digits (suc f) n k = elim (ltb n 10) [ true ↦ (48 + n) ∷ k | false ↦ digits f (n / 10) ((48 + n % 10) ∷ k) ]

abbrev pub natural : ℕ → List ℕ → List ℕ
natural n k = digits 10 n k

abbrev pub whole : ℤ → List ℕ → List ℕ
whole (pos n) k = natural n k
whole (negsuc n) k = put "-" (natural (suc n) k)

abbrev pub truth_value : Bool → List ℕ → List ℕ
truth_value true k = put "TRUE" k
truth_value false k = put "FALSE" k

-- the spelling between two operands; both spellings of AND print alike
abbrev pub sign : Op → String
sign Mul = " * "
sign Div = " / "
sign Mod = " MOD "
sign Add = " + "
sign Sub = " - "
sign Lt = " < "
sign Gt = " > "
sign Le = " <= "
sign Ge = " >= "
sign Eq = " = "
sign Ne = " <> "
sign And = " AND "
sign Xor = " XOR "
sign Or = " OR "

-- a cell by its variable's name; of an array, with the subscript as a number
abbrev pub cell_of_variable : Variable → ℕ → List ℕ → List ℕ
cell_of_variable v i k =
    elim v.declared.bounds [
      | single ↦ v.declared.name ++ k
      | array p lo q hi ↦ v.declared.name ++ put "[" (natural (lo + (i - v.first)) (put "]" k))
    ]

unfoldable pub cell : List Variable → ℕ → List ℕ → List ℕ
cell [] i k = k
cell (v ∷ vs) i k =
    elim (leb v.first i && ltb i (v.first + size_of v.declared.bounds)) [ true ↦ cell_of_variable v i k | false ↦ cell vs i k ]

-- a list without statements is one empty statement
abbrev pub or_empty : Stmts → List ℕ → List ℕ → List ℕ
or_empty done k s = line ";" k
or_empty (assign c e r) k s = s
or_empty (choice c a b r) k s = s

-- ELSE only where it holds something
abbrev pub else_of : Stmts → List ℕ → List ℕ → List ℕ
else_of done k s = k
else_of (assign c e r) k s = line "ELSE" s
else_of (choice c a b r) k s = line "ELSE" s

module _ (vs : List Variable) where
  -- ---- expressions and statements

  unfoldable pub expression : Expr → List ℕ → List ℕ
  expression (number t z) k = whole z k
  expression (truth b) k = truth_value b k
  expression (read c) k = cell vs c.0 k
  expression (minus t e) k = put "(-(" (expression e (put "))" k))
  expression (complement e) k = put "(NOT " (expression e (put ")" k))
  expression (binary o t l r) k = put "(" (expression l (put (sign o) (expression r (put ")" k))))
  expression (conversion t u e) k = conversion_name t u ++ put "(" (expression e (put ")" k))

  unfoldable pub statements : Stmts → List ℕ → List ℕ
  statements done k = k
  statements (assign c e r) k = cell vs c.0 (put " := " (expression e (line ";" (statements r k))))
  statements (choice c a b r) k =
      let end = line "END_IF;" (statements r k) in
      let otherwise = else_of b end (statements b end) in
      put "IF " (expression c (line " THEN" (or_empty a otherwise (statements a otherwise))))

-- ---- declarations

-- The text, 'given': a value that was left out
abbrev pub initial_of : Ty → Initial → List ℕ → List ℕ
initial_of BOOL nothing k = put "FALSE" k
initial_of INT nothing k = put "0" k
initial_of UINT nothing k = put "0" k
initial_of DINT nothing k = put "0" k
initial_of UDINT nothing k = put "0" k
initial_of t (value q p z) k = whole z k
initial_of t (flag q b) k = truth_value b k

-- ST0 in print, 'initial value': written for every variable that may have one
abbrev pub declaration_of : Kind → Bounds → Declared → List ℕ → List ℕ
declaration_of Input b d k = type_name d.ty ++ line ";" k
declaration_of Output single d k = type_name d.ty ++ put " := " (initial_of d.ty d.initial (line ";" k))
declaration_of Other single d k = type_name d.ty ++ put " := " (initial_of d.ty d.initial (line ";" k))
declaration_of Output (array p lo q hi) d k = k
declaration_of Other (array p lo q hi) d k =
    put "ARRAY[" (natural lo (put ".." (natural hi (put "] OF " (type_name d.ty ++ line ";" k)))))

unfoldable pub declarations : List Declared → List ℕ → List ℕ
declarations [] k = k
declarations (d ∷ ds) k = d.name ++ put " : " (declaration_of d.kind d.bounds d (declarations ds k))

-- a section stands only for declared variables
abbrev pub section : String → List Declared → List ℕ → List ℕ
section s [] k = k
section s (d ∷ ds) k = line s (declarations (d ∷ ds) (line "END_VAR" k))

unfoldable pub sections : List Declared → List ℕ → List ℕ
sections ds k =
    section "VAR_INPUT" (of_kind Input ds)
    (section "VAR_OUTPUT" (of_kind Output ds)
    (section "VAR" (of_kind Other ds) k))

unfoldable pub print : Name → List Declared → List Variable → Stmts → List ℕ
print n ds vs p =
    let end = line "END_PROGRAM" [] in
    put "PROGRAM " (n ++ 10 ∷ sections ds (or_empty p end (statements vs p end)))
