-- Parts of a text: runs of letters, digits and underscores, byte by byte.
use mathlib.Core.Path.{◌≡◌, refl, sym, ap, ◌∙◌}
use mathlib.Core.Bool.{Bool, true, false, not, cond, ◌&&◌, ◌||◌, and-true, and-false, and_assoc, or-true, true≢false, false≢true}
use mathlib.Core.List.{List, [], ◌∷◌}
use Prim.Native.Nat.{ℕ, suc, ◌+◌, ◌*◌, ◌-◌, ◌≤◌, ◌<◌}
use native.Mathlib.Numerals.{add-one}
use native.Mathlib.Omega.{arith}
use borrow.Author.Tests.{eqb-true, eqb-false, eq-eqb, ne_eqb, not-true, not-false, ltb-true, ltb-false, le-leb, lt-leb, leb-true}
use lib.Dec.{eqb, ltb, leb}
use lib.ListN.{length, get_or, drop, length-take, length-drop, get_or-eq_default}
use lib.Seq.{drop-cons, drop-length}
use Rattle.std.specs.Prelude.{Some, None}
use Rattle.paper.specs.Words.{between, in_run, is_digit, is_underscore, run_of, parted, all_digits, value_from}
use Rattle.words.specs.Denoted.{part, RunEnds, is_part, IsRun, IsNumeral}
use Rattle.words.proofs.Truths.{both, not_both}

-- how many bytes a part has
pub part_length : (t : List ℕ) (a e : ℕ) → e ≤ length t → length (part t a e) ≡ e - a
part_length t a e h = length-take (e - a) (drop a t) ∙ simp length-drop (omega arith)

-- the first byte of a part
pub part_cons : (t : List ℕ) (a e : ℕ) → a < e → e ≤ length t → part t a e ≡ get_or t a 0 ∷ part t (a + 1) e
part_cons t a e h k =
    let l : a < length t = omega arith in
    let n : e - a ≡ suc (e - (a + 1)) = omega arith in
    rw (n, drop-cons t a 0 l, add-one a)

-- a part of no bytes
pub part_none : (t : List ℕ) (a : ℕ) → part t a a ≡ []
part_none t a = let n : a - a ≡ 0 = omega arith in rw n

-- ---- the end of a run

-- a byte of a run lengthens the run behind it
pub run_more : (t : List ℕ) (i r : ℕ) → i < length t → in_run (get_or t i 0) ≡ true → RunEnds t (i + 1) r → RunEnds t i r
unfolding run_of
run_more t i r l h e =
    let run : run_of (drop i t) ≡ get_or t i 0 ∷ run_of (drop (i + 1) t) = rw (drop-cons t i 0 l, h, add-one i, run_of) in
    record {
      from = omega (arith, e.from);
      to = e.to;
      run = run ∙ ap (λ (s : List ℕ). get_or t i 0 ∷ s) e.run ∙ sym (part_cons t i r (omega (arith, e.from)) e.to);
    }

-- the run ends where none is next
run_none : (t : List ℕ) (i : ℕ) → i ≤ length t → run_of (drop i t) ≡ [] → RunEnds t i i
run_none t i l h = record { from = omega arith; to = l; run = h ∙ sym (part_none t i) }

-- at a byte that is none of a run's
pub run_stops : (t : List ℕ) (i : ℕ) → i < length t → in_run (get_or t i 0) ≡ false → RunEnds t i i
unfolding run_of
run_stops t i l h = run_none t i (omega arith) (rw (drop-cons t i 0 l, h, run_of))

-- and at the end of the text
pub run_ends : (t : List ℕ) (i : ℕ) → i ≡ length t → RunEnds t i i
unfolding run_of
run_ends t i l = run_none t i (omega arith) (rw (l, drop-length t))

-- ---- underscores

-- of a part's first byte: no underscore at the end or before another
pub parted_cons : (t : List ℕ) (i e : ℕ) → i < e → e ≤ length t
    → parted (part t i e) ≡ (not (is_underscore (get_or t i 0) && (eqb (i + 1) e || is_underscore (get_or t (i + 1) 0))) && parted (part t (i + 1) e))
unfolding parted
parted_cons t i e l k = ap parted (part_cons t i e l k) ∙ go (eqb (i + 1) e) refl
  where
    c : ℕ
    c = get_or t i 0

    go : (b : Bool) → eqb (i + 1) e ≡ b
        → parted (c ∷ part t (i + 1) e) ≡ (not (is_underscore c && (b || is_underscore (get_or t (i + 1) 0))) && parted (part t (i + 1) e))
    go true h = rw (← eqb-true (i + 1) e h, part_none t (i + 1)) (simp and-true)
    go false h =
        let n : i + 1 < e = omega (arith, eqb-false (i + 1) e h) in
        rw (part_cons t (i + 1) e n k)

-- a run ends at once where no byte of one stands
run_here : (t : List ℕ) (i r : ℕ) → RunEnds t i r → eqb i r ≡ not (in_run (get_or t i 0))
unfolding run_of
run_here t i r e = go (ltb i (length t)) refl (in_run (get_or t i 0)) refl
  where
    size : length (run_of (drop i t)) ≡ r - i
    size = ap length e.run ∙ part_length t i r e.to

    go : (l : Bool) → ltb i (length t) ≡ l → (b : Bool) → in_run (get_or t i 0) ≡ b → eqb i r ≡ not b
    go true l true h =
        let s = rw (drop-cons t i 0 (ltb-true i (length t) l), h, run_of) at size in
        ne_eqb i r (λ q. omega arith)
    go true l false h =
        let s = rw (drop-cons t i 0 (ltb-true i (length t) l), h, run_of) at size in
        eq-eqb i r (omega (arith, e.from))
    go false l true h = absurd (true≢false (sym h ∙ ap in_run (get_or-eq_default t 0 (ltb-false i (length t) l))))
    go false l false h = eq-eqb i r (omega (arith, e.from, e.to, ltb-false i (length t) l))

module _ (t : List ℕ) (i r : ℕ) (e : RunEnds t i r) where
  pub run_empty : r ≡ i → in_run (get_or t i 0) ≡ false
  run_empty q = not-true _ (sym (run_here t i r e) ∙ eq-eqb i r (sym q))

  pub run_some : (r ≡ i → ⊥) → in_run (get_or t i 0) ≡ true
  run_some n = not-false _ (sym (run_here t i r e) ∙ ne_eqb i r (λ q. n (sym q)))

-- a run from `at` on that is read up to i: where it ends from i on it ends, and it is parted if what is read is good and the rest is parted
pub record ReadTo (t : List ℕ) (at i : ℕ) (good : Bool) : Type 0 where
  pub ends : (r : ℕ) → RunEnds t i r → RunEnds t at r
  pub parts : (r : ℕ) → RunEnds t i r → parted (part t at r) ≡ (good && parted (part t i r))

-- one byte more, which spoils the run if it is an underscore and no letter or digit is next
pub read_more : (t : List ℕ) (at i : ℕ) (g k : Bool) → i < length t → in_run (get_or t i 0) ≡ true
    → k ≡ (g && not (is_underscore (get_or t i 0) && not (is_part (get_or t (i + 1) 0)))) → ReadTo t at i g → ReadTo t at (i + 1) k
read_more t at i g k l h q d =
    record {
      ends = λ r e. d.ends r (run_more t i r l h e);
      parts = λ r e.
          d.parts r (run_more t i r l h e)
          ∙ rw (parted_cons t i r (omega (arith, e.from)) e.to, run_here t (i + 1) r e, not_both (in_run (get_or t (i + 1) 0)) (is_underscore (get_or t (i + 1) 0)), q)
          (sym (and_assoc g _ (parted (part t (i + 1) r))));
    }

pub read_all : (t : List ℕ) (at i : ℕ) (g : Bool) → ReadTo t at i g → RunEnds t i i → IsRun t at (record { end = i; parted = g })
unfolding parted
read_all t at i g k e = record { ends = k.ends i e; parted = sym (k.parts i e ∙ rw (part_none t i) (and-true g)) }

-- ---- a number's value

-- more digits make no number smaller
value_grows : (n : ℕ) (s : List ℕ) → n ≤ value_from n s
unfolding value_from
value_grows n [] = omega arith
value_grows n (c ∷ s) =
    let m = cond (is_underscore c) n (n * 10 + (c - 48)) in
    omega (arith, go (is_underscore c), value_grows m s)
  where
    go : (u : Bool) → n ≤ cond u n (n * 10 + (c - 48))
    go true = omega arith
    go false = omega arith

-- the bytes `s` read up to `rest`: digits and underscores, worth n
pub record Counts (s rest : List ℕ) (n : ℕ) : Type 0 where
  pub fits : n ≤ 4294967295
  pub digits : all_digits s ≡ all_digits rest
  pub value : value_from 0 s ≡ value_from n rest

-- what is left begins with the next byte
pub counts_next : (s : List ℕ) (i n : ℕ) → i < length s → Counts s (drop i s) n → Counts s (get_or s i 0 ∷ drop (i + 1) s) n
counts_next s i n l k = rw (drop-cons s i 0 l, ← add-one i) at k

-- the bytes between two
pub in_range : (l u c : ℕ) → between l u c ≡ true → (l ≤ c) × (c ≤ u)
in_range l u c h = let b = both (leb l c) (leb c u) h in (leb-true l c b.0, leb-true c u b.1)

-- one byte more
module _ {s rest : List ℕ} {c n : ℕ} (k : Counts s (c ∷ rest) n) where
  -- a digit counts
  digit_value : is_digit c ≡ true → value_from 0 s ≡ value_from (n * 10 + (c - 48)) rest
  unfolding value_from
  digit_value h =
      let u : is_underscore c ≡ false = ne_eqb c 95 (λ e. false≢true (sym (ap is_digit e) ∙ h)) in
      k.value ∙ rw u

  pub counts_digit : is_digit c ≡ true → n * 10 + (c - 48) ≤ 4294967295 → Counts s rest (n * 10 + (c - 48))
  unfolding all_digits
  counts_digit h l = record { fits = l; digits = k.digits ∙ rw (h, all_digits); value = digit_value h }

  -- an underscore counts nothing
  pub counts_underscore : is_underscore c ≡ true → Counts s rest n
  unfolding value_from all_digits
  counts_underscore h = record { fits = k.fits; digits = k.digits ∙ rw (h, or-true, all_digits); value = k.value ∙ rw h }

  -- any other byte is none of a number's
  pub counts_other : is_digit c ≡ false → is_underscore c ≡ false → IsNumeral s None
  unfolding all_digits
  counts_other h u =
      let d : all_digits s ≡ false = k.digits ∙ rw (h, u, all_digits) in
      rw d

  -- and no number is too great
  pub counts_beyond : is_digit c ≡ true → 4294967295 < n * 10 + (c - 48) → IsNumeral s None
  counts_beyond h l =
      let v = digit_value h in
      rw (lt-leb (value_from 0 s) 4294967295 (omega (arith, value_grows (n * 10 + (c - 48)) rest)), and-false (all_digits s))

-- at the end it is what was counted
pub counts_all : (s : List ℕ) (n : ℕ) → Counts s [] n → IsNumeral s (Some n)
unfolding all_digits value_from
counts_all s n k = rw (k.digits, k.value, le-leb n 4294967295 k.fits)
