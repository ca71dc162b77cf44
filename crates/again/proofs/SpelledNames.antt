-- Names and reserved words that are one run: each is one word.
use mathlib.Core.Path.{◌≡◌, refl, ◌∙◌}
use mathlib.Core.Bool.{Bool, true, false, not, ◌&&◌, true≢false, false≢true}
use mathlib.Core.List.{List, [], ◌∷◌, ◌++◌}
use Prim.Native.Nat.{ℕ}
use borrow.Author.Tests.{not-true}
use lib.ListN.{length}
use Rattle.paper.specs.declared.Ty.{Ty}
use Rattle.paper.specs.declared.Ty.TheVariants.{Bool as BOOL, Int as INT, Uint as UINT, Dint as DINT, Udint as UDINT}
use Rattle.paper.specs.Types.{is_integer, same_ty}
use Rattle.paper.specs.Words as W
use Rattle.paper.specs.Words.{Word, bytes, type_name, conversion_name}
use Rattle.demands.proofs.Truths.{and_true}
use Rattle.again.proofs.Spells.{Spells, unit, Ends, Run, name_piece_lem}

-- one run that is read as the word w
pub record RunWord (s : List ℕ) (w : Word) : Type 0 where
  pub first : ℕ
  pub rest : List ℕ
  pub is : s ≡ first ∷ rest
  pub run : Run (first ∷ rest)
  pub letter : W.is_digit first ≡ false
  pub piece : W.name_piece (first ∷ rest) ≡ W.word (length rest) w

pub run_word : (s k : List ℕ) (w : Word) {ws : List Word} → RunWord s w → Ends k → Spells k ws → Spells (s ++ k) (w ∷ ws)
run_word s k w h e x =
    rw h.is (unit h.first h.rest k w (name_piece_lem h.first h.rest k h.run h.letter e ∙ h.piece) x)

-- ---- reserved words

abbrev is_run : List ℕ → Bool
is_run [] = true
is_run (c ∷ s) = W.in_run c && is_run s

run_true : (s : List ℕ) → is_run s ≡ true → Run s
run_true [] h = tt
run_true (c ∷ s) h = let x = and_true (W.in_run c) (is_run s) h in (x.0, run_true s x.1)

-- what is seen of a reserved word by computing
reserved_run : {c : ℕ} {u : List ℕ} {w : Word} → (is_run (c ∷ u) && not (W.is_digit c)) ≡ true
    → W.name_piece (c ∷ u) ≡ W.word (length u) w → RunWord (c ∷ u) w
reserved_run {c} {u} h e =
    let x = and_true (is_run (c ∷ u)) (not (W.is_digit c)) h in
    record { first = c; rest = u; is = refl; run = run_true (c ∷ u) x.0; letter = not-true (W.is_digit c) x.1; piece = e }

pub true_word : RunWord (bytes "TRUE") (W.truth true)
unfolding type_name conversion_name bytes W.name_piece W.look_up W.reserved W.same_bytes W.parted
true_word = reserved_run refl refl

pub false_word : RunWord (bytes "FALSE") (W.truth false)
unfolding type_name conversion_name bytes W.name_piece W.look_up W.reserved W.same_bytes W.parted
false_word = reserved_run refl refl

pub type_word : (t : Ty) → RunWord (type_name t) (W.type t)
unfolding type_name conversion_name bytes W.name_piece W.look_up W.reserved W.same_bytes W.parted
type_word BOOL = reserved_run refl refl
type_word INT = reserved_run refl refl
type_word UINT = reserved_run refl refl
type_word DINT = reserved_run refl refl
type_word UDINT = reserved_run refl refl

pub conversion_word : (t u : Ty) → is_integer t ≡ true → is_integer u ≡ true → same_ty t u ≡ false → RunWord (conversion_name t u) (W.conversion t u)
unfolding type_name conversion_name bytes W.name_piece W.look_up W.reserved W.same_bytes W.parted
conversion_word BOOL BOOL i j d = absurd (false≢true i)
conversion_word BOOL INT i j d = absurd (false≢true i)
conversion_word BOOL UINT i j d = absurd (false≢true i)
conversion_word BOOL DINT i j d = absurd (false≢true i)
conversion_word BOOL UDINT i j d = absurd (false≢true i)
conversion_word INT BOOL i j d = absurd (false≢true j)
conversion_word INT INT i j d = absurd (true≢false d)
conversion_word INT UINT i j d = reserved_run refl refl
conversion_word INT DINT i j d = reserved_run refl refl
conversion_word INT UDINT i j d = reserved_run refl refl
conversion_word UINT BOOL i j d = absurd (false≢true j)
conversion_word UINT INT i j d = reserved_run refl refl
conversion_word UINT UINT i j d = absurd (true≢false d)
conversion_word UINT DINT i j d = reserved_run refl refl
conversion_word UINT UDINT i j d = reserved_run refl refl
conversion_word DINT BOOL i j d = absurd (false≢true j)
conversion_word DINT INT i j d = reserved_run refl refl
conversion_word DINT UINT i j d = reserved_run refl refl
conversion_word DINT DINT i j d = absurd (true≢false d)
conversion_word DINT UDINT i j d = reserved_run refl refl
conversion_word UDINT BOOL i j d = absurd (false≢true j)
conversion_word UDINT INT i j d = reserved_run refl refl
conversion_word UDINT UINT i j d = reserved_run refl refl
conversion_word UDINT DINT i j d = reserved_run refl refl
conversion_word UDINT UDINT i j d = absurd (true≢false d)
