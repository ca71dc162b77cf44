-- What the answers of reading stand for: the tree in the pool is that of `paper`'s Reading, and the place is where its words go on.
use Rattle.std.specs.Prelude.{◌≡◌, List, ◌∷◌, false, cond, ℕ, ◌+◌, ◌*◌, ◌≤◌, ◌<◌, ◌/◌, ◌%◌, length, get_or, eqb, Option, Some, None, Result, MatchResult, IfOk}
use Rattle.std.proofs.Math.Option as M
use Prim.Native.String.{String}
use Rattle.paper.specs.declared.Op.{Op}
use Rattle.paper.specs.declared.Ty.{Ty}
use Rattle.paper.specs.declared.Ty.TheVariants.{Bool as BOOL}
use Rattle.paper.specs.declared.Refusal.{Refusal}
use Rattle.paper.specs.Refusals.{Answer, given, Gives, ◌>>=◌}
use Rattle.paper.specs.Words as W
use Rattle.paper.specs.Words.{Token, bytes}
use Rattle.paper.specs.Types.{tag}
use Rattle.paper.specs.Source as S
use Rattle.paper.specs.Source.{Name, Expr, Stmts, Label, Bounds, Initial, Named, Declared, Program}
use Rattle.paper.specs.Reading as R
use Rattle.paper.specs.Reading.{Read, ok}
use Rattle.words.specs.declared.Word.{Word}
use Rattle.words.specs.Denoted.{words_at, denoted, IsWord}
use Rattle.tree.specs.Nodes.{Same}
use Rattle.tree.specs.Trees.{types, expr_at, name_at}
use Rattle.expressions.specs.declared.Parsed.{Parsed}

-- where reading from `at`, with n nodes before it, can end
pub record Within (len at n : ℕ) (r : Parsed) : Type 0 where
  pub from : at ≤ r.at
  pub to : r.at ≤ len
  pub more : n ≤ r.count
  pub room : r.count + at ≤ n + r.at
  pub rooted : r.root ≤ r.count

-- a place from `at` on in a text of len bytes
pub record Between (at len p : ℕ) : Type 0 where
  pub from : at ≤ p
  pub to : p ≤ len

-- where reading ends, or is refused
abbrev pub Ends : ℕ → ℕ → ℕ → Result Parsed Refusal → Type 0
Ends len at n r = MatchResult r (Within len at n) (λ e. Between at len e.place)

-- D reads a node of the pool, and at least e of n words were taken
abbrev pub Took : {A : Type 0} → (ℕ → A) → List ℕ → ℕ → ℕ → Read A → Parsed → Type 0
Took D t e n x q = (D q.root ≡ x.it) × (words_at t q.at ≡ given x.rest) × (length x.rest + e ≤ n)

-- the answer r is what s says
abbrev pub Answered : {A : Type 0} → (ℕ → A) → List ℕ → ℕ → ℕ → Answer (Read A) → Result Parsed Refusal → Type 0
Answered D t e n s r = Gives (Took D t e n) s r

-- of any words from `at` on, the answer of s with any fuel above theirs; k is its rank among the functions that call each other
abbrev pub Runs : {A : Type 0} → (ℕ → A) → List ℕ → ℕ → ℕ → ℕ → (ℕ → List Token → Answer (Read A)) → Result Parsed Refusal → Type 0
Runs D t at e k s r =
    (ts : List Token) → words_at t at ≡ given ts → (f : ℕ) → 16 * length ts + k < f → Answered D t e (length ts) (s f ts) r

-- a function that reads from `at` on, e words at least, what began at `from`, by the definition s
pub record DidFrom {A : Type 0} (D : List ℕ → ℕ → A) (t old new : List ℕ) (from at n e k : ℕ) (s : ℕ → List Token → Answer (Read A)) (r : Result Parsed Refusal) : Type 0 where
  pub within : Ends (length t) from n r
  pub same : Same n old new
  pub runs : Runs (D new) t at e k s r

abbrev pub Did : {A : Type 0} → (List ℕ → ℕ → A) → List ℕ → List ℕ → List ℕ → ℕ → ℕ → ℕ → ℕ → (ℕ → List Token → Answer (Read A)) → Result Parsed Refusal → Type 0
Did D t old new at n e k s r = DidFrom D t old new at at n e k s r

-- ---- expressions

abbrev pub OperandDid : List ℕ → List ℕ → List ℕ → ℕ → ℕ → ℕ → Result Parsed Refusal → Type 0
OperandDid t old new at nest n r = Did (expr_at t) t old new at n 1 3 (λ f ts. R.operand f nest ts) r

abbrev pub PrimaryDid : List ℕ → List ℕ → List ℕ → ℕ → ℕ → ℕ → Result Parsed Refusal → Type 0
PrimaryDid t old new at nest n r = Did (expr_at t) t old new at n 1 1 (λ f ts. R.primary f nest ts) r

-- under a unary sign: kind 7 minus, 8 NOT
abbrev pub unary : ℕ → ℕ → Expr → Expr
unary k p e = cond (eqb k 7) (S.minus p e) (S.complement p e)

abbrev pub SignedDid : List ℕ → List ℕ → List ℕ → ℕ → ℕ → ℕ → ℕ → ℕ → Result Parsed Refusal → Type 0
SignedDid t old new at nest n k p r =
    DidFrom (expr_at t) t old new p at n 1 1 (λ f ts. R.primary f nest ts >>= λ e. ok (unary k p e.it) e.rest) r

-- in brackets: kind 9, or 10 for a conversion of the code b
abbrev pub wrapped : ℕ → ℕ → ℕ → Expr → Expr
wrapped k b p e = cond (eqb k 9) (S.brackets p e) (S.conversion p (get_or types (b / 8) BOOL) (get_or types (b % 8) BOOL) e)

abbrev pub WrappedDid : List ℕ → List ℕ → List ℕ → ℕ → ℕ → ℕ → ℕ → ℕ → ℕ → Result Parsed Refusal → Type 0
WrappedDid t old new at nest n k b p r =
    Did (expr_at t) t old new at n 1 0 (λ f ts. R.bracketed f nest ts >>= λ e. ok (wrapped k b p e.it) e.rest) r

-- the brackets leave room for a node of their own
abbrev pub BracketedDid : List ℕ → List ℕ → List ℕ → ℕ → ℕ → ℕ → Result Parsed Refusal → Type 0
BracketedDid t old new at nest n r =
    IfOk r (λ q. q.count + at < n + q.at) × Did (expr_at t) t old new at n 1 0 (λ f ts. R.bracketed f nest ts) r

-- behind the name at p
abbrev pub NamedDid : List ℕ → List ℕ → List ℕ → ℕ → ℕ → ℕ → ℕ → Result Parsed Refusal → Type 0
NamedDid t old new at p nest n r =
    DidFrom (expr_at t) t old new p at n 0 0
    (λ f ts. R.named f nest (record { word = W.name (name_at t p); place = p } ∷ ts) (name_at t p)) r

abbrev pub ExpressionDid : List ℕ → List ℕ → List ℕ → ℕ → ℕ → ℕ → ℕ → Result Parsed Refusal → Type 0
ExpressionDid t old new at least nest n r = Did (expr_at t) t old new at n 1 5 (λ f ts. R.expression f nest least ts) r

abbrev pub JoinedDid : List ℕ → List ℕ → List ℕ → ℕ → ℕ → ℕ → ℕ → ℕ → Result Parsed Refusal → Type 0
JoinedDid t old new at least nest n left r =
    Did (expr_at t) t old new at n 0 4 (λ f ts. R.joined f nest least (expr_at t old left) ts) r

-- ---- what a function needs: a text of at most 8,192 bytes, a pool of four words a byte and four more, no more nodes than bytes before

pub record Room (t p : List ℕ) (at n : ℕ) : Type 0 where
  pub short : length t ≤ 8192
  pub pool : 4 * length t + 4 ≤ length p
  pub inside : at ≤ length t
  pub few : n ≤ at

-- ---- words

-- an option as the definitions say it
abbrev pub maybe : {T : Type 0} → Option T → M.Option T
maybe None = M.none
maybe (Some x) = M.some x

-- a word of the class c is that operator, or none
abbrev pub IsOperator : ℕ → Option Op → Type 0
IsOperator c r = (s : List ℕ) (n : ℕ) → R.an_operator (denoted c s n) ≡ maybe r

-- how tightly an operator binds, 0 for none
abbrev pub level_of : Option Op → ℕ
level_of None = 0
level_of (Some o) = R.level o

-- the same of a type
abbrev pub IsType : ℕ → Option Ty → Type 0
IsType c r = (s : List ℕ) (n : ℕ) → R.a_type (denoted c s n) ≡ maybe r

-- a conversion's code
abbrev pub as_conversion : W.Word → Option ℕ
as_conversion (W.name s) = None
as_conversion (W.number n) = None
as_conversion (W.truth b) = None
as_conversion (W.type t) = None
as_conversion (W.conversion t u) = Some (8 * tag t + tag u)
as_conversion (W.operator o) = None
as_conversion (W.key s) = None
as_conversion W.ending = None

abbrev pub IsConversion : ℕ → Option ℕ → Type 0
IsConversion c r = (s : List ℕ) (n : ℕ) → r ≡ as_conversion (denoted c s n)

-- c is the class of the key s
abbrev pub KeyIs : String → ℕ → Type 0
KeyIs s c = (d : ℕ) (w : List ℕ) (n : ℕ) → R.is_key (bytes s) (denoted d w n) ≡ eqb d c

-- the words behind a key go on at that place
abbrev pub Passed : List ℕ → Answer (List Token) → Result ℕ Refusal → Type 0
Passed t s r = Gives (λ us p. words_at t p ≡ given us) s r

-- the word of a class came next, or the shape is broken there
pub record ExpectDid (t : List ℕ) (at c : ℕ) (r : Result ℕ Refusal) : Type 0 where
  pub within : MatchResult r (Between at (length t)) (λ e. Between at (length t) e.place)
  -- past a word of the text, of which 255 and 0 are no classes, or refused
  pub step : eqb c 255 ≡ false → eqb c 0 ≡ false → IfOk r (λ p. at < p)
  pub taken : (ts : List Token) → words_at t at ≡ given ts → (s : String) → KeyIs s c
      → Passed t (R.expect s ts) r

-- the same of any text and place where w is the next word
abbrev pub ExpectedDid : Word → ℕ → Result ℕ Refusal → Type 0
ExpectedDid w c r = (t : List ℕ) (at : ℕ) → IsWord t at w → ExpectDid t at c r
