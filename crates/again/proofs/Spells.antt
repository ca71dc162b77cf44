-- Bytes that are cut into words: what stands at each place, and what follows.
use mathlib.Core.Path.{◌≡◌, refl, sym, ◌∙◌}
use mathlib.Core.Bool.{Bool, true, false, or-true, true≢false}
use mathlib.Core.List.{List, [], ◌∷◌, ◌++◌}
use Prim.Native.Nat.{ℕ, suc, ◌≤◌}
use native.Mathlib.Omega.{arith}
use borrow.Author.Tests.{leb-true, leb-false, lt-leb, ne_eqb}
use lib.Dec.{leb}
use lib.ListN.{length}
use Rattle.paper.specs.Refusals.{Answer, given, ◌>>=◌}
use Rattle.paper.specs.Words as W
use Rattle.paper.specs.Words.{Word, Token, bytes, words_from, piece_of}
use Rattle.demands.specs.InTypes.{All}
use Rattle.again.proofs.Says.{Says, over, says}

-- tokens with these words are given
pub data Lexes (ws : List Word) : Answer (List Token) → Type 0 where
  lexed : {ts : List Token} → Says ws ts → Lexes ws (given ts)

-- wherever the bytes stand, they are cut into these words
abbrev pub Spells : List ℕ → List Word → Type 0
Spells s ws = (p : ℕ) → Lexes ws (words_from 0 p s)

pub step : (p : ℕ) {w : Word} {ws : List Word} {o : Answer (List Token)} → Lexes ws o
    → Lexes (w ∷ ws) (o >>= λ ts. given (record { word = w; place = p } ∷ ts))
step p (lexed s) = lexed (says s)

pub spells_end : Spells [] (W.ending ∷ [])
unfolding words_from
spells_end p = lexed (says over)

-- the bytes of a word behind its first
skip : (u s : List ℕ) {ws : List Word} → Spells s ws → (p : ℕ) → Lexes ws (words_from (length u) p (u ++ s))
unfolding words_from
skip [] s h p = h p
skip (c ∷ u) s h p = skip u s h (suc p)

pub unit : (c : ℕ) (u s : List ℕ) (w : Word) {ws : List Word} → piece_of c (u ++ s) ≡ W.word (length u) w → Spells s ws
    → Spells (c ∷ (u ++ s)) (w ∷ ws)
unfolding words_from
unit c u s w e h p = rw (e, words_from) (step p (skip u s h (suc p)))

-- ---- runs of letters, digits and underscores

-- what may stand behind a run
abbrev pub Ends : List ℕ → Type 0
Ends [] = ⊥
Ends (c ∷ k) = W.in_run c ≡ false

abbrev pub Run : List ℕ → Type 0
Run u = All (λ c. W.in_run c ≡ true) u

run_of_lem : (u k : List ℕ) → Run u → Ends k → W.run_of (u ++ k) ≡ u
unfolding W.run_of
run_of_lem [] [] r e = absurd e
run_of_lem [] (c ∷ k) r e = rw (e, W.run_of) refl
run_of_lem (c ∷ u) k r e = rw (r.0, W.run_of, run_of_lem u k r.1 e) refl

-- no byte of a run is below the digits
pub run_above : (c : ℕ) → W.in_run c ≡ true → 48 ≤ c
run_above c h = go (leb 48 c) refl
  where
    go : (b : Bool) → leb 48 c ≡ b → 48 ≤ c
    go true e = leb-true 48 c e
    go false e =
        let low = leb-false 48 c e in
        let no_run : W.in_run c ≡ false =
        rw (lt-leb 65 c (omega arith), lt-leb 97 c (omega arith), e, ne_eqb c 95 (omega arith)) refl in
        absurd (true≢false (sym h ∙ no_run))

no_blank : (c : ℕ) → 48 ≤ c → W.is_blank c ≡ false
no_blank c h =
    rw (ne_eqb c 32 (omega arith), ne_eqb c 9 (omega arith), ne_eqb c 13 (omega arith), ne_eqb c 10 (omega arith)) refl

no_comment : (c : ℕ) (s : List ℕ) → 48 ≤ c → W.begins (bytes "(*") (c ∷ s) ≡ false
unfolding W.begins bytes
no_comment c s h = rw (ne_eqb 40 c (omega arith)) refl

pub digit_in_run : (c : ℕ) → W.is_digit c ≡ true → W.in_run c ≡ true
digit_in_run c h = rw (h, or-true (W.is_letter c)) refl

pub name_piece_lem : (c : ℕ) (u k : List ℕ) → Run (c ∷ u) → W.is_digit c ≡ false → Ends k → piece_of c (u ++ k) ≡ W.name_piece (c ∷ u)
unfolding piece_of
name_piece_lem c u k r d e =
    let low = run_above c r.0 in
    rw (no_blank c low, piece_of, no_comment c (u ++ k) low, d, r.0, run_of_lem u k r.1 e) refl

pub number_piece_lem : (c : ℕ) (u k : List ℕ) → Run (c ∷ u) → W.is_digit c ≡ true → Ends k → piece_of c (u ++ k) ≡ W.number_piece (c ∷ u)
unfolding piece_of
number_piece_lem c u k r d e =
    let low = run_above c r.0 in
    rw (no_blank c low, piece_of, no_comment c (u ++ k) low, d, run_of_lem u k r.1 e) refl
