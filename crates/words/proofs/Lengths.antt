-- Names of a known number of bytes compared.
use mathlib.Core.Path.{◌≡◌, refl, sym, ap, ◌∙◌}
use mathlib.Core.Bool.{Bool, true, false, false≢true, not}
use mathlib.Core.List.{List, [], ◌∷◌}
use Prim.Native.Nat.{ℕ, zero, suc, ◌+◌, ◌-◌, ◌≤◌, ◌<◌, min}
use native.Mathlib.Omega.{arith}
use borrow.Author.Tests.{eq-eqb, eqb-true, eqb-false}
use lib.Dec.{eqb}
use lib.ListN.{length, get_or, take, drop, get_or-eq_default, length-drop}
use lib.Seq.{get_or-drop}
use Rattle.std.proofs.lemmas.List.{drop_min}
use Rattle.paper.specs.Words.{in_run, run_of, capital, same_bytes}
use Rattle.words.specs.Denoted.{part, spelled_at, name_at, rest_at, HasLength}
use Rattle.words.proofs.Spellings.{same_run, rest_same, rest_apart, rest_none_yet, names_apart}

module _ (t : List ℕ) (a b : ℕ) where
  abbrev alike : ℕ → Bool
  alike i = eqb (capital (get_or t (a + i) 0)) (capital (get_or t (b + i) 0))

  -- the rests differ where their first bytes do
  pub rest_differs : (i : ℕ) → i < 24 → in_run (get_or t (a + i) 0) ≡ true → alike i ≡ false → same_bytes (rest_at t a i) (rest_at t b i) ≡ false
  rest_differs i l h e = rest_apart t a b i l (λ x y q. false≢true (sym e ∙ eq-eqb _ _ q)) ∙ rw h

  -- and where a later byte does
  later_differs : (d i : ℕ) → i + d < 24 → ((j : ℕ) → j < i + d + 1 → in_run (get_or t (a + j) 0) ≡ true) → alike (i + d) ≡ false
      → same_bytes (rest_at t a i) (rest_at t b i) ≡ false
  later_differs zero i l h e =
      let q : i + 0 ≡ i = omega arith in
      rest_differs i (omega arith) (h i (omega arith)) (rw q at e)
  later_differs (suc d) i l h e = go (alike i) refl (later_differs d (i + 1) (omega arith) (λ j m. h j (omega arith)) (rw next at e))
    where
      next : i + suc d ≡ i + 1 + d
      next = omega arith

      go : (x : Bool) → alike i ≡ x → same_bytes (rest_at t a (i + 1)) (rest_at t b (i + 1)) ≡ false → same_bytes (rest_at t a i) (rest_at t b i) ≡ false
      go true k later = rest_same t a b i (omega arith) k (h i (omega arith)) ∙ later
      go false k later = rest_differs i (omega arith) (h i (omega arith)) k

  module _ (n : ℕ) (s : HasLength t a n) where
    -- so names differ where the last byte of the first does
    pub last_differs : 0 < n → alike (n - 1) ≡ false → same_bytes (name_at t a) (name_at t b) ≡ false
    last_differs l e =
        let q : 0 + (n - 1) ≡ n - 1 = omega arith in
        rest_none_yet t a b ∙ later_differs (n - 1) 0 (omega (arith, s.most)) (λ j m. s.all j (omega arith)) (rw (← q) at e)

    -- a name without bytes is the same as any other
    no_name : n ≡ 0 → same_bytes (name_at t a) (name_at t b) ≡ not (in_run (get_or t b 0))
    no_name e =
        let q : a + n ≡ a = omega arith in
        let x : in_run (get_or t a 0) ≡ false = rw q at (s.behind (omega arith)) in
        names_apart t a b (λ h k r. false≢true (sym x ∙ h)) ∙ rw x

    -- where the text ends before as many bytes, the names are the same only without any
    pub text_ends : length t < b + n → eqb n 0 ≡ same_bytes (name_at t a) (name_at t b)
    text_ends h = go (eqb n 0) refl
      where
        none : (i : ℕ) → length t ≤ b + i → in_run (get_or t (b + i) 0) ≡ false
        none i l = ap in_run (get_or-eq_default t 0 l)

        other : (x : Bool) → alike (n - 1) ≡ x → 0 < n → x ≡ false
        other true k l =
            absurd
            (false≢true
            (sym (none (n - 1) (omega arith))
            ∙ sym (same_run (get_or t (a + (n - 1)) 0) (get_or t (b + (n - 1)) 0) k)
            ∙ s.all (n - 1) (omega arith)))
        other false k l = refl

        go : (x : Bool) → eqb n 0 ≡ x → x ≡ same_bytes (name_at t a) (name_at t b)
        go true e =
            let z = eqb-true n 0 e in
            let q : b + n ≡ b = omega arith in
            sym (no_name z ∙ ap not (rw q at (none n (omega arith))))
        go false e =
            let l : 0 < n = omega (arith, eqb-false n 0 e) in
            sym (last_differs l (other (alike (n - 1)) refl l))

    -- what stands behind tells, where the bytes are the same
    pub behind_tells : n < 24 → same_bytes (rest_at t a n) (rest_at t b n) ≡ not (in_run (get_or t (b + n) 0))
    behind_tells l =
        let x = s.behind l in
        rest_apart t a b n l (λ h k r. false≢true (sym x ∙ h)) ∙ rw x

-- the first f bytes of a run that has n, or more where f is n
run_part : (n f : ℕ) (s : List ℕ) → n ≤ f → ((i : ℕ) → i < n → in_run (get_or s i 0) ≡ true) → (n < f → in_run (get_or s n 0) ≡ false)
    → take f (run_of s) ≡ take n s
unfolding run_of
run_part zero zero s l h e = refl
run_part zero (suc f) [] l h e = refl
run_part zero (suc f) (c ∷ s) l h e = rw (e (omega arith), run_of, take)
run_part (suc n) zero s l h e = absurd (omega arith)
run_part (suc n) (suc f) [] l h e = absurd (false≢true (h 0 (omega arith)))
run_part (suc n) (suc f) (c ∷ s) l h e =
    rw (h 0 (omega arith), run_of, run_part n f s (omega arith) (λ i b. h (suc i) (omega arith)) (λ b. e (omega arith)))

-- the name at a place, by the number of its bytes
pub spelled_part : (t : List ℕ) (a n : ℕ) → HasLength t a n → spelled_at t a ≡ part t a (a + n)
spelled_part t a n s =
    let q : a + n - a ≡ n = omega arith in
    rw q (run_part n 24 (drop a t) s.most (λ i l. rw get_or-drop (s.all i l)) (λ l. rw get_or-drop (s.behind l)))

-- a run begins with n of its bytes, f at most
abbrev Has : ℕ → ℕ → List ℕ → Type 0
Has n f s = (n ≤ f) × (n ≤ length s) × ((i : ℕ) → i < n → in_run (get_or s i 0) ≡ true) × (n < f → in_run (get_or s n 0) ≡ false)

has_more : (n f c : ℕ) (s : List ℕ) → in_run c ≡ true → Has n f s → Has (suc n) (suc f) (c ∷ s)
has_more n f c s e h = (omega arith, omega arith, each, λ l. h.3 (omega arith))
  where
    each : (i : ℕ) → i < suc n → in_run (get_or (c ∷ s) i 0) ≡ true
    each zero l = e
    each (suc i) l = h.2 i (omega arith)

run_has : (f : ℕ) (s : List ℕ) → Has (length (take f (run_of s))) f s
unfolding run_of
run_has zero s = (omega arith, omega arith, λ i l. absurd (omega arith), λ l. absurd (omega arith))
run_has (suc f) [] = (omega arith, omega arith, λ i l. absurd (omega arith), λ l. refl)
run_has (suc f) (c ∷ s) = go (in_run c) refl (run_has f s)
  where
    go : (b : Bool) → in_run c ≡ b → Has (length (take f (run_of s))) f s → Has (length (take (suc f) (run_of (c ∷ s)))) (suc f) (c ∷ s)
    go true e h = rw (e, run_of) (has_more _ f c s e h)
    go false e h = rw (e, run_of) (omega arith, omega arith, λ i l. absurd (omega arith), λ l. e)

-- and the other way round
pub spelled_length : (t : List ℕ) (a : ℕ) → HasLength t a (length (spelled_at t a))
spelled_length t a =
    let h = run_has 24 (drop a t) in
    record {
      most = h.0;
      inside = λ l. omega (arith, h.1, length-drop a t);
      all = λ i l. rw get_or-drop at (h.2 i l);
      behind = λ l. rw get_or-drop at (h.3 l);
    }

-- a name sought beyond the text is sought at its end
pub spelled_inside : (t : List ℕ) (a b : ℕ) → b ≡ min a (length t) → spelled_at t b ≡ spelled_at t a
spelled_inside t a b e = ap (λ s. take 24 (run_of s)) (rw e (drop_min a t))
