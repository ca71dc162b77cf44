-- Rule 11 for the rows one after the other.
use mathlib.Core.Bool.{Bool, true, false, ◌&&◌, and-true, and-false, and_assoc}
use mathlib.Core.List.{List, [], ◌∷◌, ◌++◌, append-nil, append_assoc}
use mathlib.Core.Path.{◌≡◌, refl, sym, ap, ◌∙◌}
use Prim.Native.Nat.{ℕ, zero, suc, ◌+◌, ◌-◌, ◌<◌}
use native.Mathlib.Omega.{arith}
use native.Mathlib.Numerals.{add-one}
use lib.ListN.{drop}
use Rattle.paper.specs.Names.{Info}
use Rattle.paper.specs.Tables.{Line, lines_in, line_keeps, lines_keep}
use Rattle.rows.specs.Lent.{head_at, line_at, is_known, rows_known, row_keeps, rows_keep}
use Rattle.rows.proofs.Lines.{head_next, lines_snoc}

-- ---- one row more

known_snoc : (n : ℕ) (rs : List ℕ) → rows_known (suc n) rs ≡ rows_known n rs && is_known (head_at rs n)
unfolding rows_known
known_snoc zero rs = and-true (is_known (head_at rs 0))
known_snoc (suc n) rs =
    ap (λ (b : Bool). is_known (head_at rs 0) && b) (known_snoc n (drop 4 rs) ∙ rw (head_next rs n))
    ∙ sym (and_assoc (is_known (head_at rs 0)) (rows_known n (drop 4 rs)) (is_known (head_at rs (suc n))))

keep_snoc : (is : List Info) (before ls : List Line) (l : Line)
    → lines_keep is before (ls ++ l ∷ []) ≡ lines_keep is before ls && line_keeps is (before ++ ls) l
unfolding lines_keep
keep_snoc is before [] l = rw (append-nil before) (and-true (line_keeps is before l))
keep_snoc is before (m ∷ ls) l =
    ap (λ (b : Bool). line_keeps is before m && b) (keep_snoc is (before ++ m ∷ []) ls l ∙ rw (append_assoc before (m ∷ []) ls))
    ∙ sym (and_assoc (line_keeps is before m) (lines_keep is (before ++ m ∷ []) ls) (line_keeps is (before ++ m ∷ ls) l))

-- four tests in another order
regrouped : (a b c d : Bool) → (a && b) && (c && d) ≡ (a && c) && (b && d)
regrouped true true c d = refl
regrouped true false true d = refl
regrouped true false false d = refl
regrouped false b c d = refl

module _ (is : List Info) (rs : List ℕ) where
  pub keep_none : rows_keep is rs 0 ≡ true
  unfolding rows_keep rows_known lines_in lines_keep
  keep_none = refl

  keep_more : (n : ℕ) → rows_keep is rs (suc n) ≡ rows_keep is rs n && row_keeps is rs n
  unfolding rows_keep
  keep_more n =
      rw (known_snoc n rs, lines_snoc n rs, keep_snoc is [] (lines_in n rs) (line_at rs n))
      (regrouped (rows_known n rs) (is_known (head_at rs n)) (lines_keep is [] (lines_in n rs)) (line_keeps is (lines_in n rs) (line_at rs n)))

  pub keep_turn : (i : ℕ) → row_keeps is rs i ≡ true → rows_keep is rs i ≡ true → rows_keep is rs (i + 1) ≡ true
  keep_turn i e q = rw (add-one i) (keep_more i ∙ rw (q, e))

  -- the row i = n - k fails
  stopped : (i k n : ℕ) → i + k ≡ n → row_keeps is rs i ≡ false → rows_keep is rs (suc n) ≡ false
  stopped i zero n q e = let r : n ≡ i = omega arith in rw r (keep_more i ∙ rw e (and-false (rows_keep is rs i)))
  stopped i (suc k) zero q e = absurd (omega arith)
  stopped i (suc k) (suc n) q e = keep_more (suc n) ∙ rw (stopped i k n (omega arith) e)

  pub keep_stop : (i n : ℕ) → i < n → row_keeps is rs i ≡ false → rows_keep is rs n ≡ false
  keep_stop i zero h e = absurd (omega arith)
  keep_stop i (suc n) h e = stopped i (n - i) n (omega arith) e
