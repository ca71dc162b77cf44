-- What the answers of this crate stand for, in the words of `paper`.
use Rattle.std.specs.Prelude.{◌≡◌, Bool, true, false, not, cond, ◌&&◌, ◌||◌, List, [], ◌∷◌, ◌++◌, map, ℕ, suc, ◌+◌, ◌-◌, ◌≤◌, ◌<◌, eqb, leb, length, get_or, take, drop, Option, Some, None, Result, Ok, Err}
use Rattle.std.proofs.Math.Option.{none, some}
use Rattle.paper.specs.declared.Why.TheVariants.{NoWord}
use Rattle.paper.specs.Refusals.{Answer, refused, given, ◌>>=◌}
use Rattle.paper.specs.Words as W
use Rattle.paper.specs.Words.{Token, Spelled, Piece, bytes, reserved, signs, same_bytes, between, in_run, is_underscore, is_blank, begins, closed, run_of, parted, all_digits, value_from, capital, look_up, number_piece, name_piece, sign_piece, piece_of, words_from, words_of}
use Rattle.words.specs.declared.Word.{Word}
use Rattle.words.specs.declared.runs.Run.{Run}

-- the bytes from a up to e, and the same in capitals
abbrev pub part : List ℕ → ℕ → ℕ → List ℕ
part t a e = take (e - a) (drop a t)

abbrev pub folded : List ℕ → ℕ → ℕ → List ℕ
folded t a e = map capital (part t a e)

-- the name at a place: the run there, at most 24 bytes of it; and in capitals
abbrev pub spelled_at : List ℕ → ℕ → List ℕ
spelled_at t p = take 24 (run_of (drop p t))

abbrev pub name_at : List ℕ → ℕ → List ℕ
name_at t p = map capital (spelled_at t p)

-- what is left of it behind i bytes
abbrev pub rest_at : List ℕ → ℕ → ℕ → List ℕ
rest_at t p i = map capital (take (24 - i) (run_of (drop (p + i) t)))

-- the name at a has n bytes
pub record HasLength (t : List ℕ) (a n : ℕ) : Type 0 where
  pub most : n ≤ 24
  pub inside : 0 < n → a + n ≤ length t
  pub all : (i : ℕ) → i < n → in_run (get_or t (a + i) 0) ≡ true
  pub behind : n < 24 → in_run (get_or t (a + n) 0) ≡ false

-- the last byte of the name at a, which has n, tells that the one at b is another
pub record EndsAlike (t : List ℕ) (a n b : ℕ) (r : Bool) : Type 0 where
  pub last : r ≡ (eqb n 0 || eqb (capital (get_or t (a + (n - 1)) 0)) (capital (get_or t (b + (n - 1)) 0)))
  pub apart : r ≡ false → same_bytes (name_at t a) (name_at t b) ≡ false

-- ---- classes

-- the reserved words and behind them the signs: the class of an entry is 3 more than its number
unfoldable pub entries : List Spelled
entries = reserved ++ signs

abbrev pub entry : ℕ → Spelled
entry i = get_or entries i (record { spelling = []; word = W.ending })

-- the word of a class, spelled s in capitals, with the value n
unfoldable pub denoted : ℕ → List ℕ → ℕ → W.Word
denoted c s n =
    cond (eqb c 0) W.ending
    (cond (eqb c 1) (W.name s)
    (cond (eqb c 2) (W.number n)
    (entry (c - 3)).word))

-- ---- the parts of a word

-- the place behind the comment's end, if it ends
abbrev pub CommentEnds : List ℕ → ℕ → Option ℕ → Type 0
CommentEnds t at r = elim (closed (drop at t)) [ none ↦ r ≡ None | some n ↦ (r ≡ Some (at + n)) × (at + n ≤ length t) ]

-- the words from a place on, in the text t
abbrev pub words_at : List ℕ → ℕ → Answer (List Token)
words_at t at = words_from 0 at (drop at t)

-- the words from there on are the words, and no blank or comment is next
abbrev pub Clear : List ℕ → ℕ → ℕ → Type 0
Clear t at i =
    (words_at t at ≡ words_at t i)
    × (i < length t → (is_blank (get_or t i 0) ≡ false) × (begins (bytes "(*") (drop i t) ≡ false))

-- an open comment is no word
abbrev pub Open : List ℕ → ℕ → ℕ → Type 0
Open t at i = words_at t at ≡ refused NoWord i

-- a place i from `at` on, where S holds
pub record Stops (t : List ℕ) (at i : ℕ) (S : Type 0) : Type 0 where
  pub from : at ≤ i
  pub to : i ≤ length t
  pub there : S

abbrev pub Skips : List ℕ → ℕ → Result ℕ ℕ → Type 0
Skips t at (Ok i) = Stops t at i (Clear t at i)
Skips t at (Err i) = Stops t at i (Open t at i)

pub record RunEnds (t : List ℕ) (at r : ℕ) : Type 0 where
  pub from : at ≤ r
  pub to : r ≤ length t
  pub run : run_of (drop at t) ≡ part t at r

-- a letter or a digit
abbrev pub is_part : ℕ → Bool
is_part c = in_run c && not (is_underscore c)

pub record IsRun (t : List ℕ) (at : ℕ) (r : Run) : Type 0 where
  pub ends : RunEnds t at r.end
  pub parted : r.parted ≡ parted (part t at r.end)

-- its value, if it is a number that fits
abbrev pub IsNumeral : List ℕ → Option ℕ → Type 0
IsNumeral s r = r ≡ cond (all_digits s && leb (value_from 0 s) 4294967295) (Some (value_from 0 s)) None

pub record IsRunClass (s : List ℕ) (c : ℕ) : Type 0 where
  pub low : 0 < c
  pub high : c < 54
  pub word : denoted c s 0 ≡ look_up reserved s (W.name s)

-- the answer k stands for the class c of the run s: for itself, but a name where reserved words aren't told for whatever class the run has
abbrev pub StandsBy : List ℕ → ℕ → ℕ → Bool → Type 0
StandsBy s k c true = IsRunClass s c
StandsBy s k c false = c ≡ k

abbrev pub Stands : Bool → List ℕ → ℕ → ℕ → Type 0
Stands told s k c = StandsBy s k c (not told && eqb k 1)

abbrev pub IsNameClass : Bool → List ℕ → ℕ → Type 0
IsNameClass told s k = (c : ℕ) → Stands told s k c → IsRunClass s c

-- what a class says of a sign, b being the byte behind its first, or 0
abbrev pub sign_of : ℕ → Piece
sign_of c = cond (eqb c 255) W.bad (W.word (length (entry (c - 3)).spelling - 1) (entry (c - 3)).word)

pub record IsSign (a b c : ℕ) : Type 0 where
  pub high : 53 < c
  pub sign : sign_piece signs (a ∷ b ∷ []) ≡ sign_of c

abbrev pub IsSignLength : ℕ → ℕ → Type 0
IsSignLength c n = 53 < c → c < 74 → n ≡ length (entry (c - 3)).spelling

-- ---- words

-- what a word says of the bytes from its place on
abbrev pub piece_in : List ℕ → Word → Piece
piece_in t r = cond (eqb r.class 255) W.bad (W.word (r.end - suc r.at) (denoted r.class (folded t r.at r.end) r.value))

pub record IsPiece (t : List ℕ) (at : ℕ) (p : Piece) (r : Word) : Type 0 where
  pub here : r.at ≡ at
  pub from : at ≤ r.end
  pub to : r.end ≤ length t
  pub moves : eqb r.class 255 ≡ false → at < r.end
  pub some_word : 0 < r.class
  pub known : eqb r.class 255 ≡ false → r.class < 74
  pub piece : p ≡ piece_in t r

abbrev pub IsNumberAt : List ℕ → ℕ → ℕ → Word → Type 0
IsNumberAt t a e r = (eqb r.class 1 ≡ false) × (a < e → IsPiece t a (number_piece (part t a e)) r)

abbrev pub IsNameAt : List ℕ → ℕ → ℕ → Word → Type 0
IsNameAt t a e r = a < e → IsPiece t a (name_piece (part t a e)) r

-- at a place where no blank and no comment starts
abbrev pub IsWordAt : List ℕ → ℕ → Word → Type 0
IsWordAt t at r =
    is_blank (get_or t at 0) ≡ false → begins (bytes "(*") (drop at t) ≡ false
    → IsPiece t at (piece_of (get_or t at 0) (drop (suc at) t)) r

-- and no run does
abbrev pub IsSignAt : List ℕ → ℕ → Word → Type 0
IsSignAt t at r = (eqb r.class 1 ≡ false) × (in_run (get_or t at 0) ≡ false → IsWordAt t at r)

-- a word with the class c instead of its own
abbrev pub classed : Word → ℕ → Word
classed r c = record { class = c; at = r.at; end = r.end; value = r.value }

abbrev pub StandsFor : Bool → List ℕ → Word → ℕ → Type 0
StandsFor told t r c = Stands told (folded t r.at r.end) r.class c

-- with each class that it stands for, it is the word there
abbrev pub IsToldAt : Bool → List ℕ → ℕ → Word → Type 0
IsToldAt told t at r = (c : ℕ) → StandsFor told t r c → IsWordAt t at (classed r c)

-- the words from a place on, where the first is r
abbrev pub answered : List ℕ → Word → Answer (List Token)
answered t r =
    elim (eqb r.class 255) [
      | true ↦ refused NoWord r.at
      | false ↦ elim (eqb r.class 0) [
        | true ↦ given (record { word = W.ending; place = length t } ∷ [])
        | false ↦
            (words_at t r.end >>= λ ts.
            given (record { word = denoted r.class (folded t r.at r.end) r.value; place = r.at } ∷ ts))
      ]
    ]

pub record IsWord (t : List ℕ) (at : ℕ) (r : Word) : Type 0 where
  pub from : at ≤ r.at
  pub on : r.at ≤ r.end
  pub to : r.end ≤ length t
  pub moves : eqb r.class 255 ≡ false → eqb r.class 0 ≡ false → r.at < r.end
  pub words : words_at t at ≡ answered t r
  -- its own place gives it again, and the ending stands at the text's end
  pub again : eqb r.class 255 ≡ false → words_at t r.at ≡ answered t r
  pub last : eqb r.class 0 ≡ true → r.at ≡ length t
  -- no class stands beyond the lists
  pub known : eqb r.class 255 ≡ false → r.class < 74

-- with each class that it stands for, it is the next word
abbrev pub IsTold : Bool → List ℕ → ℕ → Word → Type 0
IsTold told t at r = (c : ℕ) → StandsFor told t r c → IsWord t at (classed r c)

-- refusal 2, or none
abbrev pub IsFirstBad : List ℕ → Option ℕ → Type 0
IsFirstBad t (Some p) = words_of t ≡ refused NoWord p
IsFirstBad t None = (ts : List Token) × (words_of t ≡ given ts)
