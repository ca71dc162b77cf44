-- A name among the words of a text, spelled in capitals, is one word again.
use mathlib.Core.Path.{◌≡◌, refl, sym, ap, ◌∙◌}
use mathlib.Core.Bool.{Bool, true, false, not, cond, ◌&&◌, false≢true}
use mathlib.Core.Option.{Option, none, some}
use mathlib.Core.List.{List, [], ◌∷◌, map}
use Prim.Native.Nat.{ℕ, zero, suc, ◌-◌, ◌≤◌}
use native.Mathlib.Omega.{arith}
use borrow.Author.Tests.{leb-true, le-leb, lt-leb, ne_eqb, not-true}
use lib.Dec.{leb}
use lib.ListN.{length, length-map, drop}
use Rattle.paper.specs.declared.Why.TheVariants.{NoWord}
use Rattle.paper.specs.Refusals.{refused, given, ◌>>=◌}
use Rattle.paper.specs.Words as W
use Rattle.paper.specs.Words.{Word, Token, Piece, Spelled, capital, piece_of, words_from, words_of}
use Rattle.demands.specs.InTypes.{All}
use Rattle.demands.proofs.Truths.{and_true}
use Rattle.demands.proofs.Placed.{Answers, stopped, gave, Any, then}
use Rattle.again.proofs.Spells.{Run}
use Rattle.again.proofs.SpelledNames.{RunWord}

-- ---- capitals

-- what the capital of c is
data Capital (c : ℕ) : ℕ → Type 0 where
  small : 97 ≤ c → c ≤ 122 → Capital c (c - 32)
  other : W.between 97 122 c ≡ false → Capital c c

capital_of : (c : ℕ) → Capital c (capital c)
capital_of c = go (W.between 97 122 c) refl
  where
    go : (b : Bool) → W.between 97 122 c ≡ b → Capital c (cond b (c - 32) c)
    go true e = let (low, high) = and_true (leb 97 c) (leb c 122) e in small (leb-true 97 c low) (leb-true c 122 high)
    go false e = other e

run_capital : (c d : ℕ) → Capital c d → W.in_run c ≡ true → W.in_run d ≡ true
run_capital c d (small l h) r = rw (le-leb 65 (c - 32) (omega arith), le-leb (c - 32) 90 (omega arith)) refl
run_capital c d (other e) r = r

digit_capital : (c d : ℕ) → Capital c d → W.is_digit c ≡ false → W.is_digit d ≡ false
digit_capital c d (small l h) r = rw (le-leb 48 (c - 32) (omega arith), lt-leb (c - 32) 57 (omega arith)) refl
digit_capital c d (other e) r = r

underscore_capital : (c d : ℕ) → Capital c d → W.is_underscore d ≡ W.is_underscore c
underscore_capital c d (small l h) = rw (ne_eqb (c - 32) 95 (omega arith), ne_eqb c 95 (omega arith)) refl
underscore_capital c d (other e) = refl

twice_capital : (c d : ℕ) → Capital c d → capital d ≡ d
twice_capital c d (small l h) = rw (lt-leb 97 (c - 32) (omega arith)) refl
twice_capital c d (other e) = rw e refl

run_capitals : (s : List ℕ) → Run s → Run (map capital s)
run_capitals [] r = tt
run_capitals (c ∷ s) r = (run_capital c (capital c) (capital_of c) r.0, run_capitals s r.1)

parted_capitals : (s : List ℕ) → W.parted (map capital s) ≡ W.parted s
unfolding W.parted
parted_capitals [] = refl
parted_capitals (c ∷ []) = ap not (underscore_capital c (capital c) (capital_of c))
parted_capitals (c ∷ d ∷ s) =
    rw (underscore_capital c (capital c) (capital_of c), underscore_capital d (capital d) (capital_of d), parted_capitals (d ∷ s)) refl

twice_capitals : (s : List ℕ) → map capital (map capital s) ≡ map capital s
twice_capitals [] = refl
twice_capitals (c ∷ s) = rw (twice_capital c (capital c) (capital_of c), twice_capitals s) refl

-- ---- words

abbrev pub GoodWord : Word → Type 0
GoodWord (W.name s) = RunWord s (W.name s)
GoodWord (W.number n) = Unit {0}
GoodWord (W.truth b) = Unit {0}
GoodWord (W.type t) = Unit {0}
GoodWord (W.conversion t u) = Unit {0}
GoodWord (W.operator o) = Unit {0}
GoodWord (W.key s) = Unit {0}
GoodWord W.ending = Unit {0}

abbrev GoodPiece : Piece → Type 0
GoodPiece (W.gap n) = Unit {0}
GoodPiece (W.word n w) = GoodWord w
GoodPiece W.bad = Unit {0}

abbrev is_name : Word → Bool
is_name (W.name s) = true
is_name (W.number n) = false
is_name (W.truth b) = false
is_name (W.type t) = false
is_name (W.conversion t u) = false
is_name (W.operator o) = false
is_name (W.key s) = false
is_name W.ending = false

no_name : (w : Word) → is_name w ≡ false → GoodWord w
no_name (W.name s) h = absurd (false≢true (sym h))
no_name (W.number n) h = tt
no_name (W.truth b) h = tt
no_name (W.type t) h = tt
no_name (W.conversion t u) h = tt
no_name (W.operator o) h = tt
no_name (W.key s) h = tt
no_name W.ending h = tt

-- no reserved word and no sign is a name
abbrev no_names : List Spelled → Bool
no_names [] = true
no_names (e ∷ es) = not (is_name e.word) && no_names es

reserved_none : no_names W.reserved ≡ true
unfolding W.reserved
reserved_none = refl

signs_none : no_names W.signs ≡ true
unfolding W.signs
signs_none = refl

look_up_good : (es : List Spelled) (s : List ℕ) (w : Word) → no_names es ≡ true → (W.look_up es s w ≡ w → GoodWord w) → GoodWord (W.look_up es s w)
unfolding W.look_up
look_up_good [] s w n h = h refl
look_up_good (e ∷ es) s w n h =
    let (first, rest) = and_true (not (is_name e.word)) (no_names es) n in
    go (W.same_bytes e.spelling s) (not-true (is_name e.word) first) h (look_up_good es s w rest)
  where
    go : (b : Bool) → is_name e.word ≡ false → (◌≡◌ {A = Word} (elim b [ true ↦ e.word | false ↦ W.look_up es s w ]) w → GoodWord w)
        → ((W.look_up es s w ≡ w → GoodWord w) → GoodWord (W.look_up es s w))
        → GoodWord (elim b [ true ↦ e.word | false ↦ W.look_up es s w ])
    go true f h i = no_name e.word f
    go false f h i = i h

sign_good : (es : List Spelled) (s : List ℕ) → no_names es ≡ true → GoodPiece (W.sign_piece es s)
unfolding W.sign_piece
sign_good [] s n = tt
sign_good (e ∷ es) s n =
    let (first, rest) = and_true (not (is_name e.word)) (no_names es) n in
    go (W.begins e.spelling s) (not-true (is_name e.word) first) (sign_good es s rest)
  where
    go : (b : Bool) → is_name e.word ≡ false → GoodPiece (W.sign_piece es s)
        → GoodPiece (elim b [ true ↦ W.word (length e.spelling - 1) e.word | false ↦ W.sign_piece es s ])
    go true f i = no_name e.word f
    go false f i = i

number_good : (s : List ℕ) → GoodPiece (W.number_piece s)
unfolding W.number_piece
number_good s = go (W.all_digits s && W.parted s && leb (W.value_from 0 s) 4294967295)
  where
    go : (b : Bool) → GoodPiece (cond b (W.word (length s - 1) (W.number (W.value_from 0 s))) W.bad)
    go true = tt
    go false = tt

-- a name in capitals
capital_piece : (c : ℕ) (u : List ℕ) → map capital (c ∷ u) ≡ c ∷ u → W.parted (c ∷ u) ≡ true → leb (length (c ∷ u)) 24 ≡ true
    → W.look_up W.reserved (c ∷ u) (W.name (c ∷ u)) ≡ W.name (c ∷ u) → W.name_piece (c ∷ u) ≡ W.word (length u) (W.name (c ∷ u))
unfolding W.name_piece
capital_piece c u m p l h = rw (m, p, l, h) (ap (λ n. W.word n (W.name (c ∷ u))) (omega arith))

name_good : (c : ℕ) (u : List ℕ) → Run (c ∷ u) → W.is_digit c ≡ false → GoodPiece (W.name_piece (c ∷ u))
unfolding W.name_piece
name_good c u r d = go (W.parted s && leb (length s) 24) refl
  where
    s : List ℕ
    s = c ∷ u

    w : List ℕ
    w = map capital (c ∷ u)

    again : (W.parted s && leb (length s) 24) ≡ true → W.look_up W.reserved w (W.name w) ≡ W.name w → RunWord w (W.name w)
    again e h =
        let (p, l) = and_true (W.parted s) (leb (length s) 24) e in
        record {
          first = capital c;
          rest = map capital u;
          is = refl;
          run = run_capitals (c ∷ u) r;
          letter = digit_capital c (capital c) (capital_of c) d;
          piece =
              capital_piece (capital c) (map capital u) (twice_capitals (c ∷ u)) (parted_capitals (c ∷ u) ∙ p)
              (ap (λ n. leb n 24) (length-map (c ∷ u) capital) ∙ l) h;
        }

    go : (b : Bool) → (W.parted s && leb (length s) 24) ≡ b
        → GoodPiece (cond b (W.word (length s - 1) (W.look_up W.reserved w (W.name w))) W.bad)
    go true e = look_up_good W.reserved w (W.name w) reserved_none (again e)
    go false e = tt

run_all : (s : List ℕ) → Run (W.run_of s)
unfolding W.run_of
run_all [] = tt
run_all (c ∷ s) = go (W.in_run c) refl (run_all s)
  where
    go : (b : Bool) → W.in_run c ≡ b → Run (W.run_of s) → Run (elim b [ true ↦ c ∷ W.run_of s | false ↦ [] ])
    go true e r = (e, r)
    go false e r = tt

comment_good : (o : Option ℕ) → GoodPiece (elim o [ none ↦ W.bad | some n ↦ W.gap (suc n) ])
comment_good none = tt
comment_good (some n) = tt

of_two : (b : Bool) (x y : Piece) → (b ≡ true → GoodPiece x) → (b ≡ false → GoodPiece y) → GoodPiece (elim b [ true ↦ x | false ↦ y ])
of_two true x y h k = h refl
of_two false x y h k = k refl

piece_good : (c : ℕ) (s : List ℕ) → GoodPiece (piece_of c s)
unfolding piece_of
piece_good c s =
    of_two (W.is_blank c) _ _ (λ _. tt) λ _.
    of_two (W.begins (W.bytes "(*") (c ∷ s)) _ _ (λ _. comment_good (W.closed (drop 1 s))) λ _.
    of_two (W.is_digit c) _ _ (λ _. number_good (c ∷ W.run_of s)) λ d.
    of_two (W.in_run c) _ _ (λ r. name_good c (W.run_of s) (r, run_all s) d) (λ _. sign_good W.signs (c ∷ s) signs_none)

-- ---- all words of a text

abbrev pub GoodTokens : List Token → Type 0
GoodTokens ts = All (λ t. GoodWord t.word) ts

from_good : (k p : ℕ) (s : List ℕ) → Answers Any GoodTokens (words_from k p s)
unfolding words_from
from_good k p [] = gave {a = record { word = W.ending; place = p } ∷ []} (tt, tt)
from_good (suc k) p (c ∷ s) = from_good k (suc p) s
from_good zero p (c ∷ s) = go (piece_of c s) (piece_good c s) (λ k. from_good k (suc p) s)
  where
    go : (x : Piece) → GoodPiece x → ((k : ℕ) → Answers Any GoodTokens (words_from k (suc p) s))
        → Answers Any GoodTokens
        (elim x [
          | W.gap k ↦ words_from k (suc p) s
          | W.word k w ↦ (words_from k (suc p) s >>= λ ts. given (record { word = w; place = p } ∷ ts))
          | W.bad ↦ refused NoWord p
        ])
    go (W.gap k) h again = again k
    go (W.word k w) h again = then (again k) λ ts hs. gave (h, hs)
    go W.bad h again = stopped tt

pub words_good : (text : List ℕ) → Answers Any GoodTokens (words_of text)
unfolding words_of
words_good text = from_good 0 0 text
