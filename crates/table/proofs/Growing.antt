-- Rows in a buffer: one more, and one walk behind another.
use mathlib.Core.Path.{◌≡◌, refl, sym, ap, ◌∙◌}
use mathlib.Core.List.{List, [], ◌∷◌, ◌++◌, append_assoc, append-nil}
use Prim.Native.Nat.{ℕ, suc, ◌+◌, ◌*◌, ◌≤◌, ◌<◌}
use native.Mathlib.Numerals.{add-one}
use native.Mathlib.Omega.{arith}
use lib.ListN.{length, drop, length-append, length-drop}
use lib.Seq.{sets, sets-eq, take-append_seam, drop-append-add, drop-drop}
use Rattle.paper.specs.Tables.{Line, number, read, minus, complement, binary, conversion, select, operands, record_of, records}
use Rattle.paper.specs.Judge.{over}
use Rattle.tree.specs.Nodes.{written}
use Rattle.table.specs.Growth.{Room, Emits}

-- ---- records

three : (l : Line) → length (operands l) ≡ 3
three (number t n) = refl
three (read t c) = refl
three (minus t a) = refl
three (complement t a) = refl
three (binary o t a b) = refl
three (conversion t u a) = refl
three (select t c a b) = refl

pub length_records : (rs : List Line) → length (records rs) ≡ 4 * length rs
unfolding records
length_records [] = refl
length_records (l ∷ rs) = simp length-append (omega (arith, three l, length_records rs))

pub records_append : (xs ys : List Line) → records (xs ++ ys) ≡ records xs ++ records ys
unfolding records
records_append [] ys = refl
records_append (l ∷ xs) ys = ap (λ zs. record_of l ++ zs) (records_append xs ys) ∙ sym (append_assoc (record_of l) (records xs) (records ys))

one_more : (rs : List Line) (l : Line) → records (rs ++ l ∷ []) ≡ records rs ++ record_of l
unfolding records
one_more rs l = records_append rs (l ∷ []) ∙ ap (λ zs. records rs ++ zs) (append-nil (record_of l))

pub length_more : (rs : List Line) (l : Line) → length (rs ++ l ∷ []) ≡ suc (length rs)
length_more rs l = length-append rs (l ∷ []) ∙ add-one (length rs)

-- ---- a buffer

pub length_over : (new old : List ℕ) → length new ≤ length old → length (over new old) ≡ length old
length_over new old h = simp (length-append, length-drop) (omega arith)

-- more is stored behind what stands in front
over_sets : (front vs base : List ℕ) → length front + length vs ≤ length base → sets (over front base) (length front) vs ≡ over (front ++ vs) base
over_sets front vs base h =
    let long : length (over front base) ≡ length base = length_over front base (omega arith) in
    sets-eq vs (over front base) (length front) (omega arith)
    ∙ ap (λ xs. xs ++ vs ++ drop (length front + length vs) (over front base)) (take-append_seam front (drop (length front) base))
    ∙ ap (λ xs. front ++ vs ++ xs) (drop-append-add front (drop (length front) base) (length vs) ∙ drop-drop (length vs) (length front) base)
    ∙ ap (λ n. front ++ vs ++ drop n base) (sym (length-append front vs))

pub room_less : (base : List ℕ) (m n : ℕ) → m ≤ n → Room base n → Room base m
room_less base m n l r = (omega arith, omega arith)

-- ---- one row more

module _ (old : List ℕ) (n h a b c : ℕ) where
  pub emit_written : n < 65535 → 4 * n + 4 ≤ length old → Emits old (written old n h a b c) n h a b c (n + 1)
  emit_written small fits l e base rs holds room =
      let size : length (rs ++ l ∷ []) ≡ suc (length rs) = length_more rs l in
      let long : length (records rs) ≡ 4 * n = length_records rs ∙ ap (λ k. 4 * k) (sym holds.count) in
      record {
        count = omega (arith, holds.count);
        rows =
            stored
            ∙ ap (λ p. sets p (4 * n) (h ∷ a ∷ b ∷ c ∷ [])) holds.rows
            ∙ ap (λ k. sets (over (records rs) base) k (h ∷ a ∷ b ∷ c ∷ [])) (sym long)
            ∙ over_sets (records rs) (h ∷ a ∷ b ∷ c ∷ []) base (omega (arith, holds.count))
            ∙ ap (λ zs. over (records rs ++ zs) base) (sym e)
            ∙ ap (λ zs. over zs base) (sym (one_more rs l));
      }
    where
      stored : written old n h a b c ≡ sets old (4 * n) (h ∷ a ∷ b ∷ c ∷ [])
      stored =
          let x : 4 * n + 1 ≡ suc (4 * n) = omega arith in
          let y : 4 * n + 2 ≡ suc (suc (4 * n)) = omega arith in
          let z : 4 * n + 3 ≡ suc (suc (suc (4 * n))) = omega arith in
          rw (x, y, z)
