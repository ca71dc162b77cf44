-- Parts of a text in capitals, names compared byte by byte, and the list of reserved words.
use mathlib.Core.Path.{◌≡◌, refl, sym, ap, ◌∙◌}
use mathlib.Core.Bool.{Bool, true, false, cond, not, ◌&&◌, or-true, true≢false}
use mathlib.Core.List.{List, [], ◌∷◌, map}
use Prim.Native.Nat.{ℕ, suc, ◌+◌, ◌-◌, ◌≤◌, ◌<◌}
use native.Mathlib.Nat.{add-sub_cancel_left}
use native.Mathlib.Omega.{arith}
use borrow.Author.Tests.{ltb-true, ltb-false, eqb-true, ne_eqb, le-leb}
use lib.Dec.{eqb, ltb}
use lib.ListN.{length, get_or, take, drop, length-map, get_or-append, get_or-eq_default, drop_of_length-le}
use lib.Seq.{drop-cons, take-nil}
use Rattle.paper.specs.Words.{Spelled, ending, between, in_run, run_of, capital, same_bytes, reserved, signs}
use Rattle.words.specs.Denoted.{part, folded, name_at, rest_at, entries, entry, denoted}
use Rattle.words.proofs.Parts.{part_length, in_range}

-- ---- names byte by byte

-- the case of a letter takes it into no run and out of none
run_capital : (c : ℕ) → in_run (capital c) ≡ in_run c
run_capital c = go (between 97 122 c) refl
  where
    go : (b : Bool) → between 97 122 c ≡ b → in_run (cond b (c - 32) c) ≡ in_run c
    go true h =
        let r = in_range 97 122 c h in
        rw (h, le-leb 65 (c - 32) (omega (arith, r.0)), le-leb (c - 32) 90 (omega (arith, r.1))) (simp or-true)
    go false h = refl

-- so of two bytes that are the same in capitals, both are in a run or none
pub same_run : (x y : ℕ) → eqb (capital x) (capital y) ≡ true → in_run x ≡ in_run y
same_run x y e = sym (run_capital x) ∙ ap in_run (eqb-true (capital x) (capital y) e) ∙ run_capital y

-- no run has a byte beyond the text
pub in_text : (t : List ℕ) (p : ℕ) → in_run (get_or t p 0) ≡ true → p < length t
in_text t p h = go (ltb p (length t)) refl
  where
    go : (b : Bool) → ltb p (length t) ≡ b → p < length t
    go true l = ltb-true p (length t) l
    go false l = absurd (true≢false (sym h ∙ ap in_run (get_or-eq_default t 0 (ltb-false p (length t) l))))

module _ (t : List ℕ) (p i : ℕ) where
  rest_some : i < 24 → in_run (get_or t (p + i) 0) ≡ true → rest_at t p i ≡ capital (get_or t (p + i) 0) ∷ rest_at t p (i + 1)
  unfolding run_of
  rest_some l h =
      let n : 24 - i ≡ suc (24 - (i + 1)) = omega arith in
      let q : p + (i + 1) ≡ suc (p + i) = omega arith in
      rw (n, q, drop-cons t (p + i) 0 (in_text t (p + i) h)) (rw (h, run_of))

  rest_none : in_run (get_or t (p + i) 0) ≡ false → rest_at t p i ≡ []
  unfolding run_of
  rest_none h = ap (λ (s : List ℕ). map capital (take (24 - i) s)) (go (ltb (p + i) (length t)) refl) ∙ ap (map capital) (take-nil (24 - i))
    where
      go : (b : Bool) → ltb (p + i) (length t) ≡ b → run_of (drop (p + i) t) ≡ []
      go true l = rw (drop-cons t (p + i) 0 (ltb-true (p + i) (length t) l), h, run_of)
      go false l = rw (drop_of_length-le t {i = p + i} (ltb-false (p + i) (length t) l))

module _ (t : List ℕ) (a b i : ℕ) where
  -- a byte of both
  pub rest_same :
      i < 24 → eqb (capital (get_or t (a + i) 0)) (capital (get_or t (b + i) 0)) ≡ true → in_run (get_or t (a + i) 0) ≡ true
      → same_bytes (rest_at t a i) (rest_at t b i) ≡ same_bytes (rest_at t a (i + 1)) (rest_at t b (i + 1))
  unfolding same_bytes
  rest_same l e h = rw (rest_some t a i l h, rest_some t b i l (sym (same_run (get_or t (a + i) 0) (get_or t (b + i) 0) e) ∙ h), e)

  -- the first bytes of the rests tell, where they are not the same
  pub rest_apart :
      i < 24 → (in_run (get_or t (a + i) 0) ≡ true → in_run (get_or t (b + i) 0) ≡ true → capital (get_or t (a + i) 0) ≡ capital (get_or t (b + i) 0) → ⊥)
      → same_bytes (rest_at t a i) (rest_at t b i) ≡ (not (in_run (get_or t (a + i) 0)) && not (in_run (get_or t (b + i) 0)))
  unfolding same_bytes
  rest_apart l d = go (in_run (get_or t (a + i) 0)) refl (in_run (get_or t (b + i) 0)) refl
    where
      go : (x : Bool) → in_run (get_or t (a + i) 0) ≡ x → (y : Bool) → in_run (get_or t (b + i) 0) ≡ y → same_bytes (rest_at t a i) (rest_at t b i) ≡ (not x && not y)
      go true h true k = rw (rest_some t a i l h, rest_some t b i l k, ne_eqb (capital (get_or t (a + i) 0)) (capital (get_or t (b + i) 0)) (d h k))
      go true h false k = rw (rest_some t a i l h, rest_none t b i k)
      go false h true k = rw (rest_none t a i h, rest_some t b i l k)
      go false h false k = rw (rest_none t a i h, rest_none t b i k)

module _ (t : List ℕ) (a b : ℕ) where
  -- before the first byte
  pub rest_none_yet : same_bytes (name_at t a) (name_at t b) ≡ same_bytes (rest_at t a 0) (rest_at t b 0)
  rest_none_yet =
      let p : a + 0 ≡ a = omega arith in
      let q : b + 0 ≡ b = omega arith in
      rw (p, q)

  -- behind the last
  pub rest_no_more : same_bytes (rest_at t a 24) (rest_at t b 24) ≡ true
  unfolding same_bytes
  rest_no_more = refl

  pub names_apart :
      (in_run (get_or t a 0) ≡ true → in_run (get_or t b 0) ≡ true → capital (get_or t a 0) ≡ capital (get_or t b 0) → ⊥)
      → same_bytes (name_at t a) (name_at t b) ≡ (not (in_run (get_or t a 0)) && not (in_run (get_or t b 0)))
  names_apart d =
      let p : a + 0 ≡ a = omega arith in
      let q : b + 0 ≡ b = omega arith in
      rw (p, q) at (rest_apart t a b 0 (omega arith) (rw (p, q) d))

-- ---- the reserved words

abbrev pub no_entry : Spelled
no_entry = record { spelling = []; word = ending }

pub reserved_length : length reserved ≡ 51
unfolding reserved
reserved_length = refl

pub class_word : (i n : ℕ) (s : List ℕ) → denoted (3 + i) s n ≡ (entry i).word
unfolding denoted
class_word i n s =
    rw (ne_eqb (3 + i) 0 (λ q. omega arith), ne_eqb (3 + i) 1 (λ q. omega arith), ne_eqb (3 + i) 2 (λ q. omega arith), add-sub_cancel_left)

-- an entry before the signs
pub reserved_entry : (i : ℕ) → i < 51 → entry i ≡ get_or reserved i no_entry
unfolding entries
reserved_entry i h = get_or-append reserved signs no_entry i (omega (arith, reserved_length))
