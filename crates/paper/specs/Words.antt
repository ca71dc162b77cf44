-- 'The text': from bytes to words with their places. What is no word is refused with 2.
use Rattle.std.specs.Prelude.{Bool, true, false, not, cond, ◌&&◌, ◌||◌, List, [], ◌∷◌, ◌++◌, map, ℕ, zero, suc, ◌+◌, ◌*◌, ◌-◌, leb, eqb, length, drop}
use Rattle.std.proofs.Math.Option.{Option, none, some}
use Prim.Native.Char.{code}
use Prim.Native.String as S
use Prim.Native.String.{String}
use Rattle.paper.specs.declared.Ty.{Ty}
use Rattle.paper.specs.declared.Ty.TheVariants.{Bool as BOOL, Int as INT, Uint as UINT, Dint as DINT, Udint as UDINT}
use Rattle.paper.specs.declared.Op.{Op}
use Rattle.paper.specs.declared.Op.TheVariants.{Mul, Div, Mod, Add, Lt, Gt, Le, Ge, Eq, Ne, And, Xor, Or}
use Rattle.paper.specs.declared.Why.TheVariants.{NoWord}
use Rattle.paper.specs.Refusals.{Answer, refused, given, ◌>>=◌}

unfoldable pub bytes : String → List ℕ
bytes S.[] = []
bytes (S.◌∷◌ c s) = code c ∷ bytes s

unfoldable pub same_bytes : List ℕ → List ℕ → Bool
same_bytes [] [] = true
same_bytes [] (d ∷ t) = false
same_bytes (c ∷ s) [] = false
same_bytes (c ∷ s) (d ∷ t) = eqb c d && same_bytes s t

-- ---- what a word can be

pub data Word : Type 0 where
  name : List ℕ → Word
  number : ℕ → Word
  truth : Bool → Word
  type : Ty → Word
  conversion : Ty → Ty → Word
  -- a minus is a sign first, and an operator where an operand stands before it
  operator : Op → Word
  -- any other reserved word or sign, by its spelling
  key : List ℕ → Word
  -- behind the last word
  ending : Word

pub record Token : Type 0 where
  pub word : Word
  pub place : ℕ

-- ---- bytes

abbrev pub between : ℕ → ℕ → ℕ → Bool
between a b c = leb a c && leb c b

-- space, tab, CR and LF
abbrev pub is_blank : ℕ → Bool
is_blank c = eqb c 32 || eqb c 9 || eqb c 13 || eqb c 10

abbrev pub is_digit : ℕ → Bool
is_digit c = between 48 57 c

abbrev pub is_underscore : ℕ → Bool
is_underscore c = eqb c 95

abbrev pub is_letter : ℕ → Bool
is_letter c = between 65 90 c || between 97 122 c

-- what a run of one word is made of
abbrev pub in_run : ℕ → Bool
in_run c = is_letter c || is_digit c || is_underscore c

-- The text, 'case': a letter as a capital
abbrev pub capital : ℕ → ℕ
capital c = cond (between 97 122 c) (c - 32) c

-- ---- reserved words and signs

pub record Spelled : Type 0 where
  pub spelling : List ℕ
  pub word : Word

abbrev pub spelled : String → Word → Spelled
spelled s w = record { spelling = bytes s; word = w }

abbrev pub keyword : String → Spelled
keyword s = spelled s (key (bytes s))

unfoldable pub type_name : Ty → List ℕ
type_name BOOL = bytes "BOOL"
type_name INT = bytes "INT"
type_name UINT = bytes "UINT"
type_name DINT = bytes "DINT"
type_name UDINT = bytes "UDINT"

unfoldable pub conversion_name : Ty → Ty → List ℕ
conversion_name t u = type_name t ++ bytes "_TO_" ++ type_name u

abbrev typed : Ty → Spelled
typed t = record { spelling = type_name t; word = type t }

abbrev converting : Ty → Ty → Spelled
converting t u = record { spelling = conversion_name t u; word = conversion t u }

-- The text, 'reserved': words that are no names
unfoldable pub reserved : List Spelled
reserved =
    keyword "PROGRAM" ∷ keyword "END_PROGRAM" ∷ keyword "VAR_INPUT" ∷ keyword "VAR_OUTPUT" ∷ keyword "VAR"
    ∷ keyword "END_VAR" ∷ keyword "ARRAY" ∷ keyword "OF" ∷ keyword "IF" ∷ keyword "THEN" ∷ keyword "ELSIF"
    ∷ keyword "ELSE" ∷ keyword "END_IF" ∷ keyword "CASE" ∷ keyword "END_CASE" ∷ keyword "FOR" ∷ keyword "TO"
    ∷ keyword "BY" ∷ keyword "DO" ∷ keyword "END_FOR"
    ∷ typed BOOL ∷ typed INT ∷ typed UINT ∷ typed DINT ∷ typed UDINT
    ∷ keyword "NOT" ∷ spelled "MOD" (operator Mod) ∷ spelled "AND" (operator And) ∷ spelled "XOR" (operator Xor)
    ∷ spelled "OR" (operator Or) ∷ spelled "TRUE" (truth true) ∷ spelled "FALSE" (truth false)
    ∷ converting INT UINT ∷ converting INT DINT ∷ converting INT UDINT
    ∷ converting UINT INT ∷ converting UINT DINT ∷ converting UINT UDINT
    ∷ converting DINT INT ∷ converting DINT UINT ∷ converting DINT UDINT
    ∷ converting UDINT INT ∷ converting UDINT UINT ∷ converting UDINT DINT
    ∷ keyword "WHILE" ∷ keyword "END_WHILE" ∷ keyword "REPEAT" ∷ keyword "END_REPEAT" ∷ keyword "UNTIL"
    ∷ keyword "EXIT" ∷ keyword "RETURN" ∷ []

-- The text, 'longest': signs of two bytes stand before those of one
unfoldable pub signs : List Spelled
signs =
    keyword ":=" ∷ keyword ".." ∷ spelled "<=" (operator Le) ∷ spelled ">=" (operator Ge) ∷ spelled "<>" (operator Ne)
    ∷ keyword ":" ∷ keyword ";" ∷ keyword "," ∷ keyword "(" ∷ keyword ")" ∷ keyword "[" ∷ keyword "]"
    ∷ spelled "*" (operator Mul) ∷ spelled "/" (operator Div) ∷ spelled "+" (operator Add) ∷ keyword "-"
    ∷ spelled "<" (operator Lt) ∷ spelled ">" (operator Gt) ∷ spelled "=" (operator Eq) ∷ spelled "&" (operator And)
    ∷ []

-- ---- one word

-- what stands at a place: blanks and comments, a word, or no word. Each counts the bytes behind its first
pub data Piece : Type 0 where
  gap : ℕ → Piece
  word : ℕ → Word → Piece
  bad : Piece

unfoldable pub begins : List ℕ → List ℕ → Bool
begins [] s = true
begins (c ∷ w) [] = false
begins (c ∷ w) (d ∷ s) = eqb c d && begins w s

-- the bytes up to the end of a comment, of what stands behind its `(*`
unfoldable pub closed : List ℕ → Option ℕ
closed [] = none
closed (c ∷ s) = elim (begins (bytes "*)") (c ∷ s)) [
  | true ↦ some 2
  | false ↦ elim (closed s) [ none ↦ none | some n ↦ some (suc n) ]
]

abbrev comment_piece : Option ℕ → Piece
comment_piece none = bad
comment_piece (some n) = gap (suc n)

-- the longest beginning that one word's run can have
unfoldable pub run_of : List ℕ → List ℕ
run_of [] = []
run_of (c ∷ s) = elim (in_run c) [ true ↦ c ∷ run_of s | false ↦ [] ]

-- The text, 'underscores': each stands alone and before something
unfoldable pub parted : List ℕ → Bool
parted [] = true
parted (c ∷ []) = not (is_underscore c)
parted (c ∷ d ∷ s) = not (is_underscore c && is_underscore d) && parted (d ∷ s)

-- digits and underscores only
unfoldable pub all_digits : List ℕ → Bool
all_digits [] = true
all_digits (c ∷ s) = (is_digit c || is_underscore c) && all_digits s

-- the value of digits behind those worth n
unfoldable pub value_from : ℕ → List ℕ → ℕ
value_from n [] = n
value_from n (c ∷ s) = value_from (cond (is_underscore c) n (n * 10 + (c - 48))) s

-- the word with this spelling, else w
unfoldable pub look_up : List Spelled → List ℕ → Word → Word
look_up [] s w = w
look_up (e ∷ es) s w = elim (same_bytes e.spelling s) [ true ↦ e.word | false ↦ look_up es s w ]

-- a run that begins with a digit
unfoldable pub number_piece : List ℕ → Piece
number_piece s = cond (all_digits s && parted s && leb (value_from 0 s) 4294967295) (word (length s - 1) (number (value_from 0 s))) bad

-- any other run: a reserved word or a name of at most 24 bytes
unfoldable pub name_piece : List ℕ → Piece
name_piece s =
    let w = map capital s in
    cond (parted s && leb (length s) 24) (word (length s - 1) (look_up reserved w (name w))) bad

-- the first sign of the list that the bytes begin with
unfoldable pub sign_piece : List Spelled → List ℕ → Piece
sign_piece [] s = bad
sign_piece (e ∷ es) s = elim (begins e.spelling s) [ true ↦ word (length e.spelling - 1) e.word | false ↦ sign_piece es s ]

unfoldable pub piece_of : ℕ → List ℕ → Piece
piece_of c s =
    elim (is_blank c) [
      | true ↦ gap 0
      | false ↦ elim (begins (bytes "(*") (c ∷ s)) [
        | true ↦ comment_piece (closed (drop 1 s))
        | false ↦ elim (is_digit c) [
          | true ↦ number_piece (c ∷ run_of s)
          | false ↦ elim (in_run c) [ true ↦ name_piece (c ∷ run_of s) | false ↦ sign_piece signs (c ∷ s) ]
        ]
      ]
    ]

-- ---- a text

-- the words from a place on, `skip` bytes of the last piece being left
unfoldable pub words_from : ℕ → ℕ → List ℕ → Answer (List Token)
words_from skip p [] = given (record { word = ending; place = p } ∷ [])
words_from (suc n) p (c ∷ s) = words_from n (suc p) s
words_from zero p (c ∷ s) = elim (piece_of c s) [
  | gap n ↦ words_from n (suc p) s
  | word n w ↦ (words_from n (suc p) s >>= λ ts. given (record { word = w; place = p } ∷ ts))
  | bad ↦ refused NoWord p
]

unfoldable pub words_of : List ℕ → Answer (List Token)
words_of s = words_from 0 0 s
