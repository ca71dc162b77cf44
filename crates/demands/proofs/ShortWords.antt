-- A name among the words of a text has at most 24 bytes.
use mathlib.Core.Path.{◌≡◌, refl}
use mathlib.Core.Bool.{Bool, true, false, cond, ◌&&◌}
use mathlib.Core.Option.{Option, none, some}
use mathlib.Core.List.{List, [], ◌∷◌, map}
use Prim.Native.Nat.{ℕ, suc, ◌-◌, ◌≤◌}
use lib.Dec.{leb}
use lib.ListN.{length, length-map, drop}
use Rattle.paper.specs.Words as W
use Rattle.paper.specs.Words.{Piece, Word, Spelled, piece_of}
use Rattle.paper.specs.Source.{Name}
use Rattle.demands.proofs.Truths.{and_true}

abbrev pub Short : Name → Type 0
Short s = length s ≤ 24

abbrev is_short : Word → Bool
is_short (W.name s) = leb (length s) 24
is_short (W.number n) = true
is_short (W.truth b) = true
is_short (W.type t) = true
is_short (W.conversion t u) = true
is_short (W.operator o) = true
is_short (W.key s) = true
is_short W.ending = true

abbrev pub ShortWord : Word → Type 0
ShortWord w = is_short w ≡ true

abbrev pub ShortPiece : Piece → Type 0
ShortPiece (W.gap n) = Unit {0}
ShortPiece (W.word n w) = ShortWord w
ShortPiece W.bad = Unit {0}

-- no reserved word and no sign is a name
abbrev all_short : List Spelled → Bool
all_short [] = true
all_short (e ∷ es) = is_short e.word && all_short es

reserved_short : all_short W.reserved ≡ true
unfolding W.reserved
reserved_short = refl

signs_short : all_short W.signs ≡ true
unfolding W.signs
signs_short = refl

look_up_short : (es : List Spelled) (s : List ℕ) (w : Word) → all_short es ≡ true → ShortWord w → ShortWord (W.look_up es s w)
unfolding W.look_up
look_up_short [] s w h k = k
look_up_short (e ∷ es) s w h k =
    let (first, rest) = and_true (is_short e.word) (all_short es) h in
    go first (W.same_bytes e.spelling s) (look_up_short es s w rest k)
  where
    go : ShortWord e.word → (b : Bool) → ShortWord (W.look_up es s w) → ShortWord (elim b [ true ↦ e.word | false ↦ W.look_up es s w ])
    go f true i = f
    go f false i = i

sign_short : (es : List Spelled) (s : List ℕ) → all_short es ≡ true → ShortPiece (W.sign_piece es s)
unfolding W.sign_piece
sign_short [] s h = tt
sign_short (e ∷ es) s h =
    let (first, rest) = and_true (is_short e.word) (all_short es) h in
    go first (W.begins e.spelling s) (sign_short es s rest)
  where
    go : ShortWord e.word → (b : Bool) → ShortPiece (W.sign_piece es s)
        → ShortPiece (elim b [ true ↦ W.word (length e.spelling - 1) e.word | false ↦ W.sign_piece es s ])
    go f true i = f
    go f false i = i

number_short : (s : List ℕ) → ShortPiece (W.number_piece s)
unfolding W.number_piece
number_short s = go (W.all_digits s && W.parted s && leb (W.value_from 0 s) 4294967295)
  where
    go : (b : Bool) → ShortPiece (cond b (W.word (length s - 1) (W.number (W.value_from 0 s))) W.bad)
    go true = refl
    go false = tt

-- a name of more bytes is no word
name_short : (s : List ℕ) → ShortPiece (W.name_piece s)
unfolding W.name_piece
name_short s = go (W.parted s && leb (length s) 24) refl
  where
    go : (b : Bool) → (W.parted s && leb (length s) 24) ≡ b
        → ShortPiece (cond b (W.word (length s - 1) (W.look_up W.reserved (map W.capital s) (W.name (map W.capital s)))) W.bad)
    go true e =
        look_up_short W.reserved (map W.capital s) (W.name (map W.capital s)) reserved_short
        (rw (length-map s W.capital) (and_true (W.parted s) (leb (length s) 24) e).1)
    go false e = tt

comment_short : (o : Option ℕ) → ShortPiece (elim o [ none ↦ W.bad | some n ↦ W.gap (suc n) ])
comment_short none = tt
comment_short (some n) = tt

of_two : (b : Bool) (x y : Piece) → ShortPiece x → ShortPiece y → ShortPiece (elim b [ true ↦ x | false ↦ y ])
of_two true x y h k = h
of_two false x y h k = k

pub piece_short : (c : ℕ) (s : List ℕ) → ShortPiece (piece_of c s)
unfolding piece_of
piece_short c s =
    of_two (W.is_blank c) _ _ tt
    (of_two (W.begins (W.bytes "(*") (c ∷ s)) _ _ (comment_short (W.closed (drop 1 s)))
    (of_two (W.is_digit c) _ _ (number_short (c ∷ W.run_of s))
    (of_two (W.in_run c) _ _ (name_short (c ∷ W.run_of s)) (sign_short W.signs (c ∷ s) signs_short))))
