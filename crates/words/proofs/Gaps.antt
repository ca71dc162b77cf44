-- Blanks and comments: where a comment ends, and the words behind them.
use mathlib.Core.Path.{◌≡◌, refl, sym, ap, subst, ◌∙◌}
use mathlib.Core.Bool.{Bool, true, false, ◌&&◌, and-false, false≢true}
use mathlib.Core.Option as M
use mathlib.Core.Option.{none, some}
use Rattle.std.specs.Prelude.{Option, Some, None}
use mathlib.Core.List.{List, [], ◌∷◌}
use Prim.Native.Nat.{ℕ, zero, suc, ◌+◌, ◌≤◌, ◌<◌}
use native.Mathlib.Numerals.{add-one}
use native.Mathlib.Omega.{arith}
use borrow.Author.Tests.{eq-eqb, eqb-true, ltb-true, ltb-false}
use lib.Dec.{eqb, ltb}
use lib.ListN.{length, get_or, drop, length-drop, get_or-eq_default}
use lib.Seq.{drop-cons, drop-drop, get_or-drop}
use Rattle.paper.specs.declared.Why.TheVariants.{NoWord}
use Rattle.paper.specs.Refusals.{refused, given, ◌>>=◌}
use Rattle.paper.specs.Words.{Word, bytes, is_blank, begins, closed, gap, word, bad, piece_of, words_from}
use Rattle.words.specs.Denoted.{CommentEnds, words_at}
use Rattle.words.proofs.Truths.{both}

-- ---- two bytes at a place

-- a text that begins with two bytes has them, and the other way round
begun : (a b : ℕ) (s : List ℕ) → begins (a ∷ b ∷ []) s ≡ true → (get_or s 0 0 ≡ a) × (get_or s 1 0 ≡ b)
unfolding begins
begun a b [] h = absurd (false≢true h)
begun a b (x ∷ []) h = absurd (false≢true (both (eqb a x) false h).1)
begun a b (x ∷ y ∷ s) h =
    let f = both (eqb a x) (eqb b y && true) h in
    (sym (eqb-true a x f.0), sym (eqb-true b y (both (eqb b y) true f.1).0))

begin : (a b : ℕ) (s : List ℕ) → 1 < length s → get_or s 0 0 ≡ a → get_or s 1 0 ≡ b → begins (a ∷ b ∷ []) s ≡ true
unfolding begins
begin a b [] l p q = absurd (omega arith)
begin a b (x ∷ []) l p q = absurd (omega arith)
begin a b (x ∷ y ∷ s) l p q = rw (eq-eqb a x (sym p), eq-eqb b y (sym q))

-- what stands in a text stands before its end
stands : (t : List ℕ) (i b : ℕ) → get_or t i 0 ≡ suc b → i < length t
stands t i b h = go (ltb i (length t)) refl
  where
    go : (l : Bool) → ltb i (length t) ≡ l → i < length t
    go true l = ltb-true i (length t) l
    go false l = absurd (omega (arith, get_or-eq_default t 0 (ltb-false i (length t) l)))

-- so too at a place
module _ (t : List ℕ) (i a b : ℕ) where
  two_stand : get_or t i 0 ≡ a → get_or t (i + 1) 0 ≡ suc b → begins (a ∷ suc b ∷ []) (drop i t) ≡ true
  two_stand p q =
      let l : i + 1 < length t = stands t (i + 1) b q in
      begin a (suc b) (drop i t) (simp length-drop (omega arith))
      (get_or-drop i t 0 0 ∙ ap (λ (k : ℕ). get_or t k 0) (omega arith) ∙ p)
      (get_or-drop i t 1 0 ∙ q)

  two_miss : (get_or t i 0 ≡ a → get_or t (i + 1) 0 ≡ b → ⊥) → begins (a ∷ b ∷ []) (drop i t) ≡ false
  two_miss no-two = go (begins (a ∷ b ∷ []) (drop i t)) refl
    where
      go : (f : Bool) → begins (a ∷ b ∷ []) (drop i t) ≡ f → f ≡ false
      go false e = refl
      go true e =
          let g = begun a b (drop i t) e in
          absurd
          (no-two
          (ap (λ (k : ℕ). get_or t k 0) (omega arith) ∙ sym (get_or-drop i t 0 0) ∙ g.0)
          (sym (get_or-drop i t 1 0) ∙ g.1))

-- ---- the end of a comment

-- one byte more in front of a comment's end
abbrev later : M.Option ℕ → M.Option ℕ
later o = elim o [ none ↦ none | some n ↦ some (suc n) ]

-- `CommentEnds`, of an end that is known
abbrev Ends : List ℕ → ℕ → Option ℕ → M.Option ℕ → Type 0
Ends t at r o = elim o [ none ↦ r ≡ None | some n ↦ (r ≡ Some (at + n)) × (at + n ≤ length t) ]

closed_here : (c : ℕ) (s : List ℕ) → begins (bytes "*)") (c ∷ s) ≡ true → closed (c ∷ s) ≡ some 2
unfolding closed
closed_here c s h = rw (h, closed)

closed_more : (c : ℕ) (s : List ℕ) → begins (bytes "*)") (c ∷ s) ≡ false → closed (c ∷ s) ≡ later (closed s)
unfolding closed
closed_more c s h = rw (h, closed)

closed_short : (s : List ℕ) → length s ≤ 1 → closed s ≡ none
unfolding closed bytes begins
closed_short [] h = refl
closed_short (c ∷ []) h = closed_more c [] (and-false (eqb 42 c))
closed_short (c ∷ d ∷ s) h = absurd (omega arith)

-- a comment ends behind the `*)` at its inside's start
pub comment_here : (t : List ℕ) (i j : ℕ) → j ≡ i + 1 → get_or t i 0 ≡ 42 → get_or t j 0 ≡ 41 → CommentEnds t i (Some (j + 1))
unfolding bytes
comment_here t i j n p q =
    let q : get_or t (i + 1) 0 ≡ 41 = rw n at q in
    let k : j + 1 ≡ i + 2 = omega arith in
    let l : i + 1 < length t = stands t (i + 1) 40 q in
    let e : drop i t ≡ get_or t i 0 ∷ drop (suc i) t = drop-cons t i 0 (omega arith) in
    rw k (subst (Ends t i (Some (i + 2))) (sym (ap closed e ∙ closed_here _ _ (rw e at (two_stand t i 42 40 p q)))) (refl, omega arith))

-- where none stands there, it ends where the rest does
pub comment_more : (t : List ℕ) (i : ℕ) (r : Option ℕ) → i < length t → (get_or t i 0 ≡ 42 → get_or t (i + 1) 0 ≡ 41 → ⊥) → CommentEnds t (i + 1) r → CommentEnds t i r
unfolding bytes
comment_more t i r l no_end k =
    let e : drop i t ≡ get_or t i 0 ∷ drop (i + 1) t = drop-cons t i 0 l ∙ ap (λ (n : ℕ). get_or t i 0 ∷ drop n t) (sym (add-one i)) in
    let h = two_miss t i 42 41 no_end in
    subst (Ends t i r) (sym (ap closed e ∙ closed_more _ _ (rw e at h))) (go (closed (drop (i + 1) t)) k)
  where
    go : (o : M.Option ℕ) → Ends t (i + 1) r o → Ends t i r (later o)
    go none h = h
    go (some n) h = let e : i + 1 + n ≡ i + suc n = omega arith in rw e at h

-- one byte is no end
pub comment_none : (t : List ℕ) (i : ℕ) → length t ≤ i + 1 → CommentEnds t i None
comment_none t i h =
    let l : length (drop i t) ≤ 1 = simp length-drop (omega arith) in
    subst (Ends t i None) (sym (closed_short (drop i t) l)) refl

-- ---- the words behind skipped bytes

-- bytes that are left of a piece are passed over
words_skip : (n p : ℕ) (s : List ℕ) → n ≤ length s → words_from n p s ≡ words_from 0 (p + n) (drop n s)
unfolding words_from
words_skip zero p s h = ap (λ (q : ℕ). words_from 0 q s) (omega arith)
words_skip (suc n) p [] h = absurd (omega arith)
words_skip (suc n) p (c ∷ s) h =
    words_skip n (suc p) s (omega arith) ∙ ap (λ (q : ℕ). words_from 0 q (drop n s)) (omega arith)

-- in a text, those behind the first byte of the piece at i
words_behind : (t : List ℕ) (i n : ℕ) → i + suc n ≤ length t → words_from n (suc i) (drop (suc i) t) ≡ words_at t (i + suc n)
words_behind t i n k =
    let fits : n ≤ length (drop (suc i) t) = simp length-drop (omega arith) in
    let behind : suc i + n ≡ i + suc n = omega arith in
    words_skip n (suc i) (drop (suc i) t) fits ∙ ap (words_from 0 (suc i + n)) (drop-drop n (suc i) t) ∙ ap (words_at t) behind

-- what stands at a blank
piece_blank : (c : ℕ) (s : List ℕ) → is_blank c ≡ true → piece_of c s ≡ gap 0
unfolding piece_of
piece_blank c s h = rw (h, piece_of)

-- the first byte of a comment is no blank
begins_plain : (c : ℕ) (s : List ℕ) → begins (bytes "(*") (c ∷ s) ≡ true → is_blank c ≡ false
unfolding bytes begins
begins_plain c s h = ap is_blank (sym (eqb-true 40 c (both (eqb 40 c) _ h).0))

-- what stands at a comment that ends, and at one that doesn't
piece_comment : (c n : ℕ) (s : List ℕ) → begins (bytes "(*") (c ∷ s) ≡ true → closed (drop 1 s) ≡ some n → piece_of c s ≡ gap (suc n)
unfolding piece_of
piece_comment c n s h k = rw (begins_plain c s h, h, k, piece_of)

piece_open : (c : ℕ) (s : List ℕ) → begins (bytes "(*") (c ∷ s) ≡ true → closed (drop 1 s) ≡ none → piece_of c s ≡ bad
unfolding piece_of
piece_open c s h k = rw (begins_plain c s h, h, k, piece_of)

-- the words at a place inside the text
module _ (t : List ℕ) (i : ℕ) (l : i < length t) where
  -- are those behind a gap
  words_gap : (n : ℕ) → i + suc n ≤ length t → piece_of (get_or t i 0) (drop (suc i) t) ≡ gap n → words_at t i ≡ words_at t (i + suc n)
  unfolding words_from
  words_gap n k h = rw (drop-cons t i 0 l, h, words_from) (words_behind t i n k)

  -- a word and those behind it
  pub words_word : (n : ℕ) (w : Word) → i + suc n ≤ length t → piece_of (get_or t i 0) (drop (suc i) t) ≡ word n w
      → words_at t i ≡ (words_at t (i + suc n) >>= λ ts. given (record { word = w; place = i } ∷ ts))
  unfolding words_from
  words_word n w k h = rw (drop-cons t i 0 l, h, words_from) (rw (words_behind t i n k))

  -- and none where no word stands
  pub words_bad : piece_of (get_or t i 0) (drop (suc i) t) ≡ bad → words_at t i ≡ refused NoWord i
  unfolding words_from
  words_bad h = rw (drop-cons t i 0 l, h, words_from)

  pub words_blank : is_blank (get_or t i 0) ≡ true → words_at t i ≡ words_at t (i + 1)
  words_blank h = words_gap 0 (omega arith) (piece_blank (get_or t i 0) (drop (suc i) t) h)

-- the words at a comment whose end is sought from behind its `(*` on
module _ (t : List ℕ) (i : ℕ) (p : get_or t i 0 ≡ 40) (q : get_or t (i + 1) 0 ≡ 42) where
  less : i < length t
  less = stands t i 39 p

  opens : begins (bytes "(*") (get_or t i 0 ∷ drop (suc i) t) ≡ true
  unfolding bytes
  opens = rw (drop-cons t i 0 less) at (two_stand t i 40 41 p q)

  inside : drop 1 (drop (suc i) t) ≡ drop (i + 2) t
  inside = let n : suc i + 1 ≡ i + 2 = omega arith in drop-drop 1 (suc i) t ∙ ap (λ (k : ℕ). drop k t) n

  -- go on behind it
  pub words_comment : (e : ℕ) → CommentEnds t (i + 2) (Some e) → (i + 2 ≤ e) × (e ≤ length t) × (words_at t i ≡ words_at t e)
  words_comment e ends = go (closed (drop (i + 2) t)) refl ends
    where
      go : (o : M.Option ℕ) → closed (drop (i + 2) t) ≡ o → Ends t (i + 2) (Some e) o → (i + 2 ≤ e) × (e ≤ length t) × (words_at t i ≡ words_at t e)
      go none h k = let wrong : Some e ≡ None = k in absurd (cc)
      go (some n) h k =
          let same : Some e ≡ Some (i + 2 + n) = k.0 in
          let at_end : e ≡ i + 2 + n = cc in
          let fits : i + 2 + n ≤ length t = k.1 in
          let to : i + suc (suc n) ≡ e = omega arith in
          (omega arith, omega arith, words_gap t i less (suc n) (omega arith) (piece_comment _ n _ opens (ap closed inside ∙ h)) ∙ ap (words_at t) to)

  -- are none where it is open
  pub words_open : CommentEnds t (i + 2) None → words_at t i ≡ refused NoWord i
  words_open ends = go (closed (drop (i + 2) t)) refl ends
    where
      go : (o : M.Option ℕ) → closed (drop (i + 2) t) ≡ o → Ends t (i + 2) None o → words_at t i ≡ refused NoWord i
      go none h k = words_bad t i less (piece_open _ _ opens (ap closed inside ∙ h))
      go (some n) h k = let wrong : None ≡ Some (i + 2 + n) = k.0 in absurd (cc)

-- no comment starts where its two bytes don't stand
pub no_comment : (t : List ℕ) (i : ℕ) → (get_or t i 0 ≡ 40 → get_or t (i + 1) 0 ≡ 42 → ⊥) → begins (bytes "(*") (drop i t) ≡ false
unfolding bytes
no_comment t i h = two_miss t i 40 42 h
