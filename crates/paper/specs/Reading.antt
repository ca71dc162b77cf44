-- The shape: from words to the program's tree, by 3 and 4. Each function reads from the front of the words that are left.
-- The first number of a function bounds how deep its calls go; a text's words bound it in turn.
use Rattle.std.specs.Prelude.{Bool, true, false, cond, ◌&&◌, List, [], ◌∷◌, ◌++◌, ℕ, zero, suc, ◌+◌, ◌*◌, leb, ltb, ℤ, pos, neg_ℤ, length}
use Rattle.std.proofs.Math.Option.{Option, none, some}
use Prim.Native.String.{String}
use Rattle.paper.specs.declared.Ty.{Ty}
use Rattle.paper.specs.declared.Kind.{Kind}
use Rattle.paper.specs.declared.Kind.TheVariants.{Input, Output, Other}
use Rattle.paper.specs.declared.Op.{Op}
use Rattle.paper.specs.declared.Op.TheVariants.{Mul, Div, Mod, Add, Sub, Lt, Gt, Le, Ge, Eq, Ne, And, Xor, Or}
use Rattle.paper.specs.declared.Why.TheVariants.{BadShape, TooDeep}
use Rattle.paper.specs.Refusals.{Answer, refused, given, ◌>>=◌}
use Rattle.paper.specs.Words as W
use Rattle.paper.specs.Words.{Word, Token, bytes, same_bytes}
use Rattle.paper.specs.Source.{Name, Expr, number, truth, variable, element, minus, complement, binary, conversion, brackets, Label, one, range, Stmts, done, assign, choice, select, arm, loop, Bounds, single, array, Initial, nothing, value, flag, Named, Declared, Program}

-- what has been read, and the words that are left
pub record Read (A : Type 0) : Type 0 where
  pub it : A
  pub rest : List Token

abbrev pub ok : {A : Type 0} → A → List Token → Answer (Read A)
ok a ts = given (record { it = a; rest = ts })

-- ---- the next word

abbrev pub next : List Token → Word
next [] = W.ending
next (t ∷ ts) = t.word

abbrev pub here : List Token → ℕ
here [] = 0
here (t ∷ ts) = t.place

abbrev pub behind : List Token → List Token
behind [] = []
behind (t ∷ ts) = ts

-- 3 at the next word
abbrev pub broken : {A : Type 0} → List Token → Answer A
broken ts = refused BadShape (here ts)

abbrev pub is_key : List ℕ → Word → Bool
is_key k (W.name s) = false
is_key k (W.number n) = false
is_key k (W.truth b) = false
is_key k (W.type t) = false
is_key k (W.conversion t u) = false
is_key k (W.operator o) = false
is_key k (W.key s) = same_bytes k s
is_key k W.ending = false

abbrev pub sees : String → List Token → Bool
sees k ts = is_key (bytes k) (next ts)

-- the words behind the key k, which must come next
abbrev pub expect : String → List Token → Answer (List Token)
expect k ts = elim (sees k ts) [ true ↦ given (behind ts) | false ↦ broken ts ]

-- what a word is, if it is one of its kind
abbrev pub a_name : Word → Option Name
a_name (W.name s) = some s
a_name (W.number n) = none
a_name (W.truth b) = none
a_name (W.type t) = none
a_name (W.conversion t u) = none
a_name (W.operator o) = none
a_name (W.key s) = none
a_name W.ending = none

abbrev pub a_number : Word → Option ℕ
a_number (W.name s) = none
a_number (W.number n) = some n
a_number (W.truth b) = none
a_number (W.type t) = none
a_number (W.conversion t u) = none
a_number (W.operator o) = none
a_number (W.key s) = none
a_number W.ending = none

abbrev pub a_truth : Word → Option Bool
a_truth (W.name s) = none
a_truth (W.number n) = none
a_truth (W.truth b) = some b
a_truth (W.type t) = none
a_truth (W.conversion t u) = none
a_truth (W.operator o) = none
a_truth (W.key s) = none
a_truth W.ending = none

abbrev pub a_type : Word → Option Ty
a_type (W.name s) = none
a_type (W.number n) = none
a_type (W.truth b) = none
a_type (W.type t) = some t
a_type (W.conversion t u) = none
a_type (W.operator o) = none
a_type (W.key s) = none
a_type W.ending = none

abbrev pub an_operator : Word → Option Op
an_operator (W.name s) = none
an_operator (W.number n) = none
an_operator (W.truth b) = none
an_operator (W.type t) = none
an_operator (W.conversion t u) = none
an_operator (W.operator o) = some o
an_operator (W.key s) = cond (same_bytes (bytes "-") s) (some Sub) none
an_operator W.ending = none

-- the word that must come next, of the kind that `kind` knows
abbrev pub taken : {A : Type 0} → (Word → Option A) → List Token → Answer (Read A)
taken kind ts = elim (kind (next ts)) [ none ↦ broken ts | some a ↦ ok a (behind ts) ]

-- a number with or without minus
abbrev pub signed_number : List Token → Answer (Read ℤ)
signed_number ts =
    elim (sees "-" ts) [
      | true ↦ (taken a_number (behind ts) >>= λ n. ok (neg_ℤ (pos n.it)) n.rest)
      | false ↦ (taken a_number ts >>= λ n. ok (pos n.it) n.rest)
    ]

-- ---- expressions

-- how tightly an operator binds
abbrev pub level : Op → ℕ
level Mul = 7
level Div = 7
level Mod = 7
level Add = 6
level Sub = 6
level Lt = 5
level Gt = 5
level Le = 5
level Ge = 5
level Eq = 4
level Ne = 4
level And = 3
level Xor = 2
level Or = 1

-- 4 where `nest` brackets are open already at the next word, an opening one
abbrev pub opened : ℕ → List Token → Answer (List Token)
opened nest ts = cond (ltb nest 64) (given (behind ts)) (refused TooDeep (here ts))

unfoldable mutual
  -- operand: at most one unary sign, and a primary; a minus before a number makes it negative
  pub operand : ℕ → ℕ → List Token → Answer (Read Expr)
  operand zero nest ts = broken ts
  operand (suc f) nest ts =
      elim (sees "-" ts) [
        | true ↦ elim (a_number (next (behind ts))) [
          | some n ↦ ok (number (here ts) (neg_ℤ (pos n))) (behind (behind ts))
          | none ↦ (primary f nest (behind ts) >>= λ e. ok (minus (here ts) e.it) e.rest)
        ]
        | false ↦ elim (sees "NOT" ts) [
          | true ↦ (primary f nest (behind ts) >>= λ e. ok (complement (here ts) e.it) e.rest)
          | false ↦ primary f nest ts
        ]
      ]

  -- primary: a number, a truth value, a name with or without subscript, a conversion, brackets
  pub primary : ℕ → ℕ → List Token → Answer (Read Expr)
  primary zero nest ts = broken ts
  primary (suc f) nest ts =
      elim (next ts) [
        | W.name s ↦ named f nest ts s
        | W.number n ↦ ok (number (here ts) (pos n)) (behind ts)
        | W.truth b ↦ ok (truth (here ts) b) (behind ts)
        | W.type t ↦ broken ts
        | W.conversion t u ↦ (bracketed f nest (behind ts) >>= λ e. ok (conversion (here ts) t u e.it) e.rest)
        | W.operator o ↦ broken ts
        | W.key k ↦ (bracketed f nest ts >>= λ e. ok (brackets (here ts) e.it) e.rest)
        | W.ending ↦ broken ts
      ]

  -- a name, here next, with one subscript or none
  pub named : ℕ → ℕ → List Token → Name → Answer (Read Expr)
  named zero nest ts s = broken ts
  named (suc f) nest ts s =
      elim (sees "[" (behind ts)) [
        | true ↦ do
          open' ← opened nest (behind ts)
          i ← expression f (suc nest) 1 open'
          close ← expect "]" i.rest
          ok (element (here ts) s (here (behind ts)) i.it) close
        | false ↦ ok (variable (here ts) s) (behind ts)
      ]

  -- ( expression )
  pub bracketed : ℕ → ℕ → List Token → Answer (Read Expr)
  bracketed zero nest ts = broken ts
  bracketed (suc f) nest ts =
      elim (sees "(" ts) [
        | true ↦ do
          open' ← opened nest ts
          e ← expression f (suc nest) 1 open'
          close ← expect ")" e.rest
          ok e.it close
        | false ↦ broken ts
      ]

  -- operands joined by operators that bind at least as tightly as `least`
  pub expression : ℕ → ℕ → ℕ → List Token → Answer (Read Expr)
  expression zero nest least ts = broken ts
  expression (suc f) nest least ts = operand f nest ts >>= λ e. joined f nest least e.it e.rest

  -- what follows the operand e: an operator of the same level takes what stands before it as its left side
  pub joined : ℕ → ℕ → ℕ → Expr → List Token → Answer (Read Expr)
  joined zero nest least e ts = broken ts
  joined (suc f) nest least e ts =
      elim (an_operator (next ts)) [
        | none ↦ ok e ts
        | some o ↦ elim (leb least (level o)) [
          | true ↦ (expression f nest (suc (level o)) (behind ts) >>= λ r. joined f nest least (binary (here ts) o e r.it) r.rest)
          | false ↦ ok e ts
        ]
      ]

-- ---- statements

-- what a statement begins with
pub data Start : Type 0 where
  at_name at_if at_case at_for at_empty : Start

abbrev pub start_of : List Token → Option Start
start_of ts =
    elim (a_name (next ts)) [
      | some s ↦ some at_name
      | none ↦
          cond (sees "IF" ts) (some at_if)
          (cond (sees "CASE" ts) (some at_case)
          (cond (sees "FOR" ts) (some at_for)
          (cond (sees ";" ts) (some at_empty)
          none)))
    ]

-- 3 at a word that starts no statement, else 4 where the statement is too deep
abbrev pub started : ℕ → List Token → Answer Start
started depth ts =
    elim (start_of ts) [
      | none ↦ broken ts
      | some s ↦ cond (leb depth 32) (given s) (refused TooDeep (here ts))
    ]

abbrev pub label : List Token → Answer (Read Label)
label ts = do
  a ← signed_number ts
  elim (sees ".." a.rest) [
    | true ↦ (signed_number (behind a.rest) >>= λ b. ok (range (here ts) a.it (here (behind a.rest)) b.it) b.rest)
    | false ↦ ok (one (here ts) a.it) a.rest
  ]

-- labels parted by commas
unfoldable pub labels : ℕ → List Token → Answer (Read (List Label))
labels zero ts = broken ts
labels (suc f) ts = do
  l ← label ts
  elim (sees "," l.rest) [
    | true ↦ (labels f (behind l.rest) >>= λ ls. ok (l.it ∷ ls.it) ls.rest)
    | false ↦ ok (l.it ∷ []) l.rest
  ]

-- target := expression, where the next word is a name
abbrev pub assignment : ℕ → List Token → Answer (Read (Stmts → Stmts))
assignment f ts = do
  x ← primary f 0 ts
  becomes ← expect ":=" x.rest
  e ← expression f 0 1 becomes
  ok (assign x.it (here x.rest) e.it) e.rest

-- c, or 1 at the FOR's place
abbrev pub step : ℕ → ℕ → List Token → Answer (Read Expr)
step f p ts = elim (sees "BY" ts) [ true ↦ expression f 0 1 (behind ts) | false ↦ ok (number p (pos 1)) ts ]

-- whether one more arm begins
abbrev pub starts_label : List Token → Bool
starts_label ts = elim (a_number (next ts)) [ some n ↦ true | none ↦ sees "-" ts ]

unfoldable mutual
  -- one or more statements, each ended by `;`
  pub list : ℕ → ℕ → List Token → Answer (Read Stmts)
  list zero depth ts = broken ts
  list (suc f) depth ts = do
    s ← statement f depth ts
    semicolon ← expect ";" s.rest
    r ← more f depth semicolon
    ok (s.it r.it) r.rest

  -- the rest of a list
  pub more : ℕ → ℕ → List Token → Answer (Read Stmts)
  more zero depth ts = broken ts
  more (suc f) depth ts = elim (start_of ts) [ none ↦ ok done ts | some s ↦ list f depth ts ]

  -- a statement, as what it puts in front of a list
  pub statement : ℕ → ℕ → List Token → Answer (Read (Stmts → Stmts))
  statement zero depth ts = broken ts
  statement (suc f) depth ts =
      started depth ts >>= λ s. elim s [
        | at_name ↦ assignment f ts
        | at_if ↦ branch f depth (here ts) (here ts) (behind ts)
        | at_case ↦ cases f depth (here ts) (behind ts)
        | at_for ↦ repeat f depth (here ts) (behind ts)
        | at_empty ↦ ok (λ k. k) ts
      ]

  -- behind IF or ELSIF at p: a condition, its list, and what follows; the IF stands at q
  pub branch : ℕ → ℕ → ℕ → ℕ → List Token → Answer (Read (Stmts → Stmts))
  branch zero depth p q ts = broken ts
  branch (suc f) depth p q ts = do
    c ← expression f 0 1 ts
    then ← expect "THEN" c.rest
    a ← list f (suc depth) then
    b ← otherwise f depth q a.rest
    ok (choice p q c.it a.it b.it) b.rest

  -- ELSIF, ELSE or nothing, up to END_IF; an ELSIF is an IF one deeper
  pub otherwise : ℕ → ℕ → ℕ → List Token → Answer (Read Stmts)
  otherwise zero depth q ts = broken ts
  otherwise (suc f) depth q ts =
      elim (sees "ELSIF" ts) [
        | true ↦ (branch f (suc depth) (here ts) q (behind ts) >>= λ s. ok (s.it done) s.rest)
        | false ↦ else_part f depth "END_IF" ts
      ]

  -- an ELSE list or nothing, and the closing word
  pub else_part : ℕ → ℕ → String → List Token → Answer (Read Stmts)
  else_part zero depth close ts = broken ts
  else_part (suc f) depth close ts = do
    b ← else_list f depth ts
    end ← expect close b.rest
    ok b.it end

  pub else_list : ℕ → ℕ → List Token → Answer (Read Stmts)
  else_list zero depth ts = broken ts
  else_list (suc f) depth ts =
      elim (sees "ELSE" ts) [ true ↦ list f (suc depth) (behind ts) | false ↦ ok done ts ]

  -- behind CASE
  pub cases : ℕ → ℕ → ℕ → List Token → Answer (Read (Stmts → Stmts))
  cases zero depth p ts = broken ts
  cases (suc f) depth p ts = do
    s ← expression f 0 1 ts
    of ← expect "OF" s.rest
    a ← arms f depth of
    ok (select p s.it a.it) a.rest

  -- an arm and what follows it
  pub arms : ℕ → ℕ → List Token → Answer (Read Stmts)
  arms zero depth ts = broken ts
  arms (suc f) depth ts = do
    ls ← labels f ts
    colon ← expect ":" ls.rest
    a ← list f (suc depth) colon
    b ← more_arms f depth a.rest
    ok (arm ls.it a.it b.it) b.rest

  -- the next arm, one deeper, or ELSE or nothing, up to END_CASE
  pub more_arms : ℕ → ℕ → List Token → Answer (Read Stmts)
  more_arms zero depth ts = broken ts
  more_arms (suc f) depth ts =
      elim (starts_label ts) [ true ↦ arms f (suc depth) ts | false ↦ else_part f depth "END_CASE" ts ]

  -- behind FOR
  pub repeat : ℕ → ℕ → ℕ → List Token → Answer (Read (Stmts → Stmts))
  repeat zero depth p ts = broken ts
  repeat (suc f) depth p ts = do
    v ← taken a_name ts
    becomes ← expect ":=" v.rest
    a ← expression f 0 1 becomes
    to ← expect "TO" a.rest
    b ← expression f 0 1 to
    c ← step f p b.rest
    do' ← expect "DO" c.rest
    body ← list f (suc depth) do'
    end ← expect "END_FOR" body.rest
    ok (loop p (here ts) v.it a.it b.it c.it body.it) end

-- ---- declarations

-- names parted by commas
unfoldable pub names : ℕ → List Token → Answer (Read (List Named))
names zero ts = broken ts
names (suc f) ts = do
  s ← taken a_name ts
  elim (sees "," s.rest) [
    | true ↦ (names f (behind s.rest) >>= λ r. ok (record { place = here ts; name = s.it } ∷ r.it) r.rest)
    | false ↦ ok (record { place = here ts; name = s.it } ∷ []) s.rest
  ]

-- [lo..hi] OF, behind ARRAY
abbrev pub bounds_of : List Token → Answer (Read Bounds)
bounds_of ts = do
  open' ← expect "[" ts
  lo ← taken a_number open'
  to ← expect ".." lo.rest
  hi ← taken a_number to
  close ← expect "]" hi.rest
  of ← expect "OF" close
  ok (array (here open') lo.it (here to) hi.it) of

-- a number with or without minus, TRUE or FALSE, behind the `:=` at p
abbrev pub initial_of : ℕ → List Token → Answer (Read Initial)
initial_of p ts =
    elim (a_truth (next ts)) [
      | some b ↦ ok (flag p b) (behind ts)
      | none ↦ (signed_number ts >>= λ z. ok (value p (here ts) z.it) z.rest)
    ]

-- in which kinds of section an array may stand, and a value
abbrev pub holds_arrays : Kind → Bool
holds_arrays Input = false
holds_arrays Output = false
holds_arrays Other = true

abbrev pub holds_values : Kind → Bounds → Bool
holds_values Input b = false
holds_values Output single = true
holds_values Output (array p lo q hi) = false
holds_values Other single = true
holds_values Other (array p lo q hi) = false

-- an array's bounds, if they come next
abbrev pub bounds_part : Kind → List Token → Answer (Read Bounds)
bounds_part k ts = elim (holds_arrays k && sees "ARRAY" ts) [ true ↦ bounds_of (behind ts) | false ↦ ok single ts ]

-- a declared value, if one comes next
abbrev pub initial_part : Kind → Bounds → List Token → Answer (Read Initial)
initial_part k b ts =
    elim (holds_values k b && sees ":=" ts) [ true ↦ initial_of (here ts) (behind ts) | false ↦ ok nothing ts ]

-- each of the names with what they share
unfoldable pub declare : Kind → Ty → Bounds → Initial → List Named → List Declared
declare k t b v [] = []
declare k t b v (n ∷ ns) =
    record { place = n.place; name = n.name; kind = k; ty = t; bounds = b; initial = v } ∷ declare k t b v ns

-- names : type [:= value];
unfoldable pub declaration : ℕ → Kind → List Token → Answer (Read (List Declared))
declaration f k ts = do
  ns ← names f ts
  colon ← expect ":" ns.rest
  b ← bounds_part k colon
  t ← taken a_type b.rest
  v ← initial_part k b.it t.rest
  semicolon ← expect ";" v.rest
  ok (declare k t.it b.it v.it ns.it) semicolon

-- one or more declarations, up to END_VAR
unfoldable pub section : ℕ → Kind → List Token → Answer (Read (List Declared))
section zero k ts = broken ts
section (suc f) k ts = do
  d ← declaration f k ts
  elim (sees "END_VAR" d.rest) [
    | true ↦ ok d.it (behind d.rest)
    | false ↦ (section f k d.rest >>= λ r. ok (d.it ++ r.it) r.rest)
  ]

abbrev pub kind_of : List Token → Option Kind
kind_of ts = cond (sees "VAR_INPUT" ts) (some Input) (cond (sees "VAR_OUTPUT" ts) (some Output) (cond (sees "VAR" ts) (some Other) none))

unfoldable pub sections : ℕ → List Token → Answer (Read (List Declared))
sections zero ts = broken ts
sections (suc f) ts = elim (kind_of ts) [
  | none ↦ ok [] ts
  | some k ↦ do
    d ← section f k (behind ts)
    r ← sections f d.rest
    ok (d.it ++ r.it) r.rest
]

abbrev pub is_ending : Word → Bool
is_ending (W.name s) = false
is_ending (W.number n) = false
is_ending (W.truth b) = false
is_ending (W.type t) = false
is_ending (W.conversion t u) = false
is_ending (W.operator o) = false
is_ending (W.key s) = false
is_ending W.ending = true

-- PROGRAM name, sections, one statement list, END_PROGRAM, nothing after
unfoldable pub program : ℕ → List Token → Answer Program
program f ts = do
  head ← expect "PROGRAM" ts
  n ← taken a_name head
  d ← sections f n.rest
  b ← list f 0 d.rest
  end ← expect "END_PROGRAM" b.rest
  elim (is_ending (next end)) [
    | true ↦ given (record { name = n.it; declared = d.it; body = b.it })
    | false ↦ broken end
  ]

-- between two words far fewer than 32 calls stand inside one another
unfoldable pub program_of : List Token → Answer Program
program_of ts = program (32 * length ts + 32) ts
