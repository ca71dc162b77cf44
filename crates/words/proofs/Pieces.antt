-- Which piece a run or a sign is.
use mathlib.Core.Path.{◌≡◌, refl, sym, ap, ◌∙◌}
use mathlib.Core.Bool.{Bool, true, false, not, cond, ◌&&◌, true≢false, and_comm, and-false}
use mathlib.Core.List.{List, [], ◌∷◌}
use Prim.Native.Nat.{ℕ, suc, ◌+◌, ◌-◌, ◌≤◌, ◌<◌}
use native.Mathlib.Nat.{add-zero}
use native.Mathlib.Numerals.{add-one}
use native.Mathlib.Omega.{arith}
use borrow.Author.Tests.{ne_eqb, le-leb}
use lib.Dec.{eqb, leb}
use lib.ListN.{length, get_or, drop, length-drop}
use lib.Seq.{drop-cons, get_or-drop}
use Rattle.std.specs.Prelude.{Option, Some, None, is_some}
use Rattle.paper.specs.Words as W
use Rattle.paper.specs.Words.{Piece, bytes, reserved, signs, is_blank, is_letter, is_digit, in_run, begins, run_of, parted, value_from, number_piece, name_piece, sign_piece, piece_of}
use Rattle.words.specs.declared.Word.{Word}
use Rattle.words.specs.Denoted.{part, folded, entry, denoted, RunEnds, IsNumeral, IsRunClass, sign_of, IsSign, IsSignLength, IsPiece, IsNumberAt, IsNameAt, classed, StandsFor, IsWordAt}
use Rattle.words.proofs.Truths.{and_swap, or_middle}
use Rattle.words.proofs.Parts.{part_length}
use Rattle.words.proofs.Spellings.{class_word}
use Rattle.words.proofs.Listed.{signs_fair, sign_some, sign_short, sign_inside, sign_listed}

-- a word that is no name stands for its own class
pub sole : (P : Word → Type 0) (b : Bool) (t : List ℕ) (r : Word) → eqb r.class 1 ≡ false → P r → (c : ℕ) → StandsFor b t r c → P (classed r c)
sole P b t r q p c s = let e : c ≡ r.class = rw (q, and-false (not b)) at s in rw e p

-- ---- the piece that a run is

-- the answer where no word can be read
abbrev pub bad_at : ℕ → Word
bad_at at = record { class = 255; at = at; end = at; value = 0 }

bad_piece : (t : List ℕ) (at : ℕ) (p : Piece) → at ≤ length t → p ≡ W.bad → IsPiece t at p (bad_at at)
bad_piece t at p h e =
    record { here = refl; from = omega arith; to = h; moves = λ q. absurd (true≢false q); some_word = omega arith; known = λ q. absurd (true≢false q); piece = e }

-- what a value that is there says of the test for it, and the other way round
some_value : (b : Bool) (v n : ℕ) → Some n ≡ cond b (Some v) None → (b ≡ true) × (v ≡ n)
some_value true v n q = (refl, cc q)
some_value false v n q = absurd (cc q)

is_value : (b : Bool) (v : ℕ) (r : Option ℕ) → r ≡ cond b (Some v) None → is_some r ≡ b
is_value true v r q = ap is_some q
is_value false v r q = ap is_some q

module _ (t : List ℕ) (a e : ℕ) (h : a ≤ e) (l : e ≤ length t) where
  pub number_good : (n : ℕ) → IsNumeral (part t a e) (Some n) → parted (part t a e) ≡ true
      → IsNumberAt t a e (record { class = 2; at = a; end = e; value = n })
  unfolding denoted number_piece
  number_good n d p =
      let c = some_value _ _ n d in (
        refl,
        λ m.
            let k : e - a - 1 ≡ e - suc a = omega arith in
            record {
              here = refl;
              from = h;
              to = l;
              moves = λ _. m;
              some_word = omega arith;
              known = λ _. omega arith;
              piece = rw (and_swap, c.0, p, part_length t a e l, k, c.1);
            },
      )

  pub number_bad : (r : Option ℕ) → IsNumeral (part t a e) r → (is_some r && parted (part t a e)) ≡ false → IsNumberAt t a e (bad_at a)
  unfolding number_piece
  number_bad r d q =
      (refl, λ m. bad_piece t a _ (omega arith) (rw (and_swap, ← is_value _ _ r d, q)))

  name_piece_lem :
      name_piece (part t a e)
      ≡ cond (leb (e - a) 24 && parted (part t a e)) (W.word (e - a - 1) (W.look_up reserved (folded t a e) (W.name (folded t a e)))) W.bad
  unfolding name_piece
  name_piece_lem = rw (part_length t a e l, and_comm (parted (part t a e)) (leb (e - a) 24))

  pub name_good : (c : ℕ) → e - a ≤ 24 → parted (part t a e) ≡ true → IsRunClass (folded t a e) c
      → IsNameAt t a e (record { class = c; at = a; end = e; value = 0 })
  name_good c s p r m =
      let k : e - a - 1 ≡ e - suc a = omega arith in
      let high : c < 54 = r.high in
      let w : eqb c 255 ≡ false = ne_eqb c 255 (λ q. omega arith) in
      record {
        here = refl;
        from = h;
        to = l;
        moves = λ _. m;
        some_word = r.low;
        known = λ _. omega arith;
        piece = name_piece_lem ∙ rw (le-leb (e - a) 24 s, p, k, w, r.word);
      }

  pub name_bad : (leb (e - a) 24 && parted (part t a e)) ≡ false → IsNameAt t a e (bad_at a)
  name_bad q m = bad_piece t a _ (omega arith) (name_piece_lem ∙ rw q)

-- ---- the piece that a sign is

-- the byte behind the first says which sign stands at a place
sign_two : (t : List ℕ) (at b : ℕ) → b ≡ get_or t (at + 1) 0 → sign_piece signs (get_or t at 0 ∷ drop (suc at) t) ≡ sign_piece signs (get_or t at 0 ∷ b ∷ [])
sign_two t at b e =
    let d : get_or (drop (suc at) t) 0 0 ≡ b = get_or-drop (suc at) t 0 0 ∙ rw (add-zero, ← add-one at) (sym e) in
    sign_short signs (get_or t at 0) (drop (suc at) t) signs_fair ∙ rw d

-- what the class and the length of a sign say of the bytes at a place
pub sign_cut : (t : List ℕ) (at b c n : ℕ) → at < length t → b ≡ get_or t (at + 1) 0 → IsSign (get_or t at 0) b c → (c ≡ 255 → ⊥) → IsSignLength c n
    → (0 < n) × (at + n ≤ length t) × (sign_piece signs (get_or t at 0 ∷ drop (suc at) t) ≡ W.word (n - 1) (entry (c - 3)).word) × (c < 74)
sign_cut t at b c n h e i x l =
    let o : sign_of c ≡ W.word (length (entry (c - 3)).spelling - 1) (entry (c - 3)).word = rw (ne_eqb c 255 x) in
    let p = sign_two t at b e ∙ i.sign ∙ o in
    let k : c < 74 = sign_listed _ c i.high p in
    let y : n ≡ length (entry (c - 3)).spelling = l i.high k in
    let z : 0 < length (entry (c - 3)).spelling = sign_some c i.high k in
    let g : length (entry (c - 3)).spelling - 1 < suc (length (drop (suc at) t)) = (sign_inside signs _ _ _ signs_fair p).0 in
    (omega arith, omega (arith, length-drop (suc at) t), rw y p, k)

-- ---- the piece at a place

no_digit : (c : ℕ) → in_run c ≡ false → is_digit c ≡ false
no_digit c i = or_middle (is_letter c) (is_digit c) _ i

-- where no blank and no comment is, a piece is a run or a sign
piece_step : (c : ℕ) (s : List ℕ) (d i : Bool) → is_blank c ≡ false → begins (bytes "(*") (c ∷ s) ≡ false → is_digit c ≡ d → in_run c ≡ i
    → piece_of c s ≡ cond d (number_piece (c ∷ run_of s)) (cond i (name_piece (c ∷ run_of s)) (sign_piece signs (c ∷ s)))
unfolding piece_of
piece_step c s true i h k x y = rw (h, k, x, piece_of)
piece_step c s false true h k x y = rw (h, k, x, y, piece_of)
piece_step c s false false h k x y = rw (h, k, x, y, piece_of)

module _ (t : List ℕ) (at : ℕ) (h : at < length t) where
  -- the run at a place is what its end says
  run_cut : (e : ℕ) → in_run (get_or t at 0) ≡ true → RunEnds t at e → part t at e ≡ get_or t at 0 ∷ run_of (drop (suc at) t)
  unfolding run_of
  run_cut e i r = sym r.run ∙ rw (drop-cons t at 0 h, i, run_of)

  run_moves : (e : ℕ) → in_run (get_or t at 0) ≡ true → RunEnds t at e → at < e
  run_moves e i r = omega (arith, part_length t at e r.to, ap length (run_cut e i r))

  here_step : (d i : Bool) → is_digit (get_or t at 0) ≡ d → in_run (get_or t at 0) ≡ i → is_blank (get_or t at 0) ≡ false → begins (bytes "(*") (drop at t) ≡ false
      → piece_of (get_or t at 0) (drop (suc at) t)
      ≡ cond d (number_piece (get_or t at 0 ∷ run_of (drop (suc at) t))) (cond i (name_piece (get_or t at 0 ∷ run_of (drop (suc at) t))) (sign_piece signs (get_or t at 0 ∷ drop (suc at) t)))
  here_step d i x y b g = piece_step _ _ d i b (rw (← drop-cons t at 0 h) g) x y

  pub number_here : (e : ℕ) (r : Word) → in_run (get_or t at 0) ≡ true → is_digit (get_or t at 0) ≡ true → RunEnds t at e → IsNumberAt t at e r → IsWordAt t at r
  number_here e r i d u w b g = rw (here_step true true d i b g, ← run_cut e i u) (w.1 (run_moves e i u))

  pub name_here : (e : ℕ) (r : Word) → in_run (get_or t at 0) ≡ true → is_digit (get_or t at 0) ≡ false → RunEnds t at e → IsNameAt t at e r → IsWordAt t at r
  name_here e r i d u w b g = rw (here_step false true d i b g, ← run_cut e i u) (w (run_moves e i u))

  pub sign_here : (b c n : ℕ) → in_run (get_or t at 0) ≡ false → b ≡ get_or t (at + 1) 0 → IsSign (get_or t at 0) b c → (c ≡ 255 → ⊥) → IsSignLength c n
      → IsWordAt t at (record { class = c; at = at; end = at + n; value = 0 })
  sign_here b c n i e s x l q g =
      let y = sign_cut t at b c n h e s x l in
      let k : at + n - suc at ≡ n - 1 = omega arith in
      let j : c ≡ 3 + (c - 3) = omega (arith, s.high) in
      let w : denoted c (folded t at (at + n)) 0 ≡ (entry (c - 3)).word = ap (λ (d : ℕ). denoted d (folded t at (at + n)) 0) j ∙ class_word (c - 3) 0 _ in
      record {
        here = refl;
        from = omega arith;
        to = y.1;
        moves = λ _. omega (arith, y.0);
        some_word = omega (arith, s.high);
        known = λ _. y.3;
        piece = here_step false false (no_digit (get_or t at 0) i) i q g ∙ y.2 ∙ rw (ne_eqb c 255 x, k, w);
      }

  pub bad_here : (b c : ℕ) → in_run (get_or t at 0) ≡ false → b ≡ get_or t (at + 1) 0 → IsSign (get_or t at 0) b c → c ≡ 255 → IsWordAt t at (bad_at at)
  bad_here b c i e s x q g =
      bad_piece t at _ (omega arith)
      (here_step false false (no_digit (get_or t at 0) i) i q g ∙ sign_two t at b e ∙ s.sign ∙ rw x)
