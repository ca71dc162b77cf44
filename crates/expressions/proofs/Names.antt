-- A name among the words of a text is the run at its place, in capitals.
use mathlib.Core.Path.{◌≡◌, refl, sym, ap, ◌∙◌}
use mathlib.Core.Bool.{Bool, true, false, cond, ◌&&◌, and-eq-true_iff}
use mathlib.Core.Option.{Option, none, some}
use mathlib.Core.List.{List, [], ◌∷◌, map}
use Prim.Native.Nat.{ℕ, zero, suc, ◌-◌, ◌≤◌}
use native.Mathlib.Omega.{arith}
use borrow.Author.Tests.{leb-true}
use lib.Dec.{leb}
use lib.ListN.{length, take, drop}
use lib.Seq.{take_all}
use Rattle.paper.specs.declared.Why.TheVariants.{NoWord}
use Rattle.paper.specs.Refusals.{Answer, refused, given, ◌>>=◌}
use Rattle.paper.specs.Words as W
use Rattle.paper.specs.Words.{Token, Spelled, Piece, bytes, capital, is_blank, is_digit, in_run, begins, closed, same_bytes, parted, value_from, all_digits, reserved, signs, run_of, look_up, number_piece, name_piece, sign_piece, piece_of, words_from}
use Rattle.paper.specs.Reading.{a_name, next}

-- a token in front of what an answer gives
pub in_front : (x : Answer (List Token)) (k : Token) (ts : List Token) → (x >>= λ us. given (k ∷ us)) ≡ given ts
    → (us : List Token) × (x ≡ given us) × (ts ≡ k ∷ us)
in_front (refused v p) k ts h = absurd (let z : ◌≡◌ {A = ℕ} 0 1 = cc in omega arith)
in_front (given us) k ts h = (us, refl, cc)

-- ---- a reserved word or a sign is no name

abbrev Nameless : List Spelled → Type 0
Nameless es = map (λ (e : Spelled). a_name e.word) es ≡ map (λ (e : Spelled). none) es

nameless_reserved : Nameless reserved
unfolding reserved
nameless_reserved = refl

nameless_signs : Nameless signs
unfolding signs
nameless_signs = refl

-- the first and the others
nameless_first : (e : Spelled) (es : List Spelled) (k : List ℕ) → Nameless (e ∷ es) → e.word ≡ W.name k → ⊥
nameless_first e es k u h = let a : a_name e.word ≡ some k = ap a_name h in let z : ◌≡◌ {A = ℕ} 0 1 = cc in omega arith

nameless_others : (e : Spelled) (es : List Spelled) → Nameless (e ∷ es) → Nameless es
nameless_others e es u = cc

looked_up : (es : List Spelled) (s : List ℕ) (w : W.Word) (k : List ℕ) → Nameless es → look_up es s w ≡ W.name k → w ≡ W.name k
unfolding look_up
looked_up [] s w k u h = h
looked_up (e ∷ es) s w k u h = go (same_bytes e.spelling s) (looked_up es s w k (nameless_others e es u)) h
  where
    go : (b : Bool) → (look_up es s w ≡ W.name k → w ≡ W.name k) → elim b [ true ↦ e.word | false ↦ look_up es s w ] ≡ W.name k → w ≡ W.name k
    go true next q = absurd (nameless_first e es k u q)
    go false next q = next q

module _ (n : ℕ) (k : List ℕ) where
  sign_named : (es : List Spelled) (s : List ℕ) → Nameless es → sign_piece es s ≡ W.word n (W.name k) → ⊥
  unfolding sign_piece
  sign_named [] s u h = let z : ◌≡◌ {A = ℕ} 0 1 = cc in omega arith
  sign_named (e ∷ es) s u h = go (begins e.spelling s) (sign_named es s (nameless_others e es u)) h
    where
      go : (b : Bool) → (sign_piece es s ≡ W.word n (W.name k) → ⊥)
          → elim b [ true ↦ W.word (length e.spelling - 1) e.word | false ↦ sign_piece es s ] ≡ W.word n (W.name k) → ⊥
      go true next q = nameless_first e es k u (cc)
      go false next q = next q

  number_named : (s : List ℕ) → number_piece s ≡ W.word n (W.name k) → ⊥
  unfolding number_piece
  number_named s h = go (all_digits s && parted s && leb (value_from 0 s) 4294967295) h
    where
      go : (b : Bool) → cond b (W.word (length s - 1) (W.number (value_from 0 s))) W.bad ≡ W.word n (W.name k) → ⊥
      go true q = let z : ◌≡◌ {A = ℕ} 0 1 = cc in omega arith
      go false q = let z : ◌≡◌ {A = ℕ} 0 1 = cc in omega arith

  -- ---- the piece of a name

  name_named : (s : List ℕ) → name_piece s ≡ W.word n (W.name k) → k ≡ map capital (take 24 s)
  unfolding name_piece
  name_named s h = go (parted s && leb (length s) 24) refl h
    where
      go : (b : Bool) → (parted s && leb (length s) 24) ≡ b
          → cond b (W.word (length s - 1) (look_up reserved (map capital s) (W.name (map capital s)))) W.bad ≡ W.word n (W.name k)
          → k ≡ map capital (take 24 s)
      go true p q =
          let w : look_up reserved (map capital s) (W.name (map capital s)) ≡ W.name k = cc in
          let e = looked_up reserved (map capital s) (W.name (map capital s)) k nameless_reserved w in
          let short : length s ≤ 24 = leb-true (length s) 24 ((and-eq-true_iff (parted s) (leb (length s) 24)).0 p).1 in
          let same : k ≡ map capital s = cc in
          same ∙ ap (map capital) (sym (take_all 24 s short))
      go false p q = absurd (let z : ◌≡◌ {A = ℕ} 0 1 = cc in omega arith)

  piece_named : (c : ℕ) (s : List ℕ) → piece_of c s ≡ W.word n (W.name k) → k ≡ map capital (take 24 (run_of (c ∷ s)))
  unfolding piece_of run_of
  piece_named c s h = go (is_blank c) refl (begins (bytes "(*") (c ∷ s)) refl (is_digit c) refl (in_run c) refl
    where
      comment : (o : Option ℕ) → closed (drop 1 s) ≡ o → is_blank c ≡ false → begins (bytes "(*") (c ∷ s) ≡ true → ⊥
      comment none q b m = let e = rw (b, m, q, piece_of) at h in let z : ◌≡◌ {A = ℕ} 0 1 = cc in omega arith
      comment (some i) q b m = let e = rw (b, m, q, piece_of) at h in let z : ◌≡◌ {A = ℕ} 0 1 = cc in omega arith

      go : (b : Bool) → is_blank c ≡ b → (m : Bool) → begins (bytes "(*") (c ∷ s) ≡ m → (d : Bool) → is_digit c ≡ d → (r : Bool) → in_run c ≡ r
          → k ≡ map capital (take 24 (run_of (c ∷ s)))
      go true b m q d x r y = absurd (let e = rw (b, piece_of) at h in let z : ◌≡◌ {A = ℕ} 0 1 = cc in omega arith)
      go false b true q d x r y = absurd (comment (closed (drop 1 s)) refl b q)
      go false b false q true x r y = absurd (number_named (c ∷ run_of s) (rw (b, q, x, piece_of) at h))
      go false b false q false x true y = rw (y, run_of) (name_named (c ∷ run_of s) (rw (b, q, x, y, piece_of) at h))
      go false b false q false x false y = absurd (sign_named signs (c ∷ s) nameless_signs (rw (b, q, x, y, piece_of) at h))

-- ---- the words from a place on

-- stand there or later
words_place : (n q : ℕ) (s : List ℕ) (k : Token) (us : List Token) → words_from n q s ≡ given (k ∷ us) → q ≤ k.place
unfolding words_from
words_place n q [] k us h = let e : q ≡ k.place = cc in omega arith
words_place (suc n) q (c ∷ s) k us h = omega (arith, words_place n (suc q) s k us h)
words_place zero q (c ∷ s) k us h = go (piece_of c s) (λ n. words_place n (suc q) s k us) h
  where
    go : (x : Piece) → ((n : ℕ) → words_from n (suc q) s ≡ given (k ∷ us) → suc q ≤ k.place)
        → elim x [
          | W.gap n ↦ words_from n (suc q) s
          | W.word n w ↦ (words_from n (suc q) s >>= λ ts. given (record { word = w; place = q } ∷ ts))
          | W.bad ↦ refused NoWord q
        ] ≡ given (k ∷ us)
        → q ≤ k.place
    go (W.gap n) next e = omega (arith, next n e)
    go (W.word n w) next e = let f = (in_front (words_from n (suc q) s) _ (k ∷ us) e).2 in let p : k.place ≡ q = cc in omega arith
    go W.bad next e = absurd (let z : ◌≡◌ {A = ℕ} 0 1 = cc in omega arith)

-- a name that stands there is the run
pub first_name : (p c : ℕ) (s k : List ℕ) (us : List Token) → words_from 0 p (c ∷ s) ≡ given (record { word = W.name k; place = p } ∷ us)
    → k ≡ map capital (take 24 (run_of (c ∷ s)))
unfolding words_from
first_name p c s k us h = go (piece_of c s) refl h
  where
    go : (x : Piece) → piece_of c s ≡ x
        → elim x [
          | W.gap n ↦ words_from n (suc p) s
          | W.word n w ↦ (words_from n (suc p) s >>= λ ts. given (record { word = w; place = p } ∷ ts))
          | W.bad ↦ refused NoWord p
        ] ≡ given (record { word = W.name k; place = p } ∷ us)
        → k ≡ map capital (take 24 (run_of (c ∷ s)))
    go (W.gap n) x e = absurd (omega (arith, words_place n (suc p) s _ us e))
    go (W.word n w) x e =
        let f = (in_front (words_from n (suc p) s) _ _ e).2 in
        let y : w ≡ W.name k = sym (ap next f) in
        piece_named n k c s (x ∙ ap (W.word n) y)
    go W.bad x e = absurd (let z : ◌≡◌ {A = ℕ} 0 1 = cc in omega arith)
