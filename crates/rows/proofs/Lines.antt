-- The lines of the first n rows, at their places: what stands at each, what one more adds, and the values one after the other.
use mathlib.Core.Bool.{false}
use mathlib.Core.List.{List, [], ◌∷◌, ◌++◌}
use mathlib.Core.Option.{none, some}
use mathlib.Core.Path.{◌≡◌, refl, sym, ap, ◌∙◌}
use Prim.Native.Nat.{ℕ, zero, suc, ◌+◌, ◌*◌, ◌<◌, ◌≤◌}
use native.Mathlib.Omega.{arith}
use lib.ListN.{length, get_or, get_elem?, take, drop, set}
use lib.Seq.{get_or-drop, take-suc-set}
use native.Mathlib.Numerals.{add-one}
use Rattle.paper.specs.Plain.{State}
use Rattle.paper.specs.declared.Op.{Op}
use Rattle.paper.specs.declared.Ty.{Ty}
use Rattle.paper.specs.Types.{same_ty}
use Rattle.paper.specs.Tables.{Line, row, lines_in, line_value, values, line_type, is_earlier, is_non_zero, is_divisor}
use Rattle.rows.specs.declared.line.Form as Code
use Rattle.rows.specs.declared.line.Form.TheVariants as Form
use Rattle.rows.specs.Lent.{head_at, word_at, line_at}
use Rattle.rows.specs.Said.{meant}

-- ---- one row further

pub head_next : (rs : List ℕ) (i : ℕ) → head_at (drop 4 rs) i ≡ head_at rs (suc i)
head_next rs i = get_or-drop 4 rs (4 * i) 0 ∙ ap (λ (n : ℕ). get_or rs n 0) (omega arith)

word_next : (rs : List ℕ) (i k : ℕ) → word_at (drop 4 rs) i k ≡ word_at rs (suc i) k
word_next rs i k = get_or-drop 4 rs (4 * i + k) 0 ∙ ap (λ (n : ℕ). get_or rs n 0) (omega arith)

line_next : (rs : List ℕ) (i : ℕ) → line_at (drop 4 rs) i ≡ line_at rs (suc i)
unfolding line_at
line_next rs i = rw (head_next rs i, word_next rs i 1, word_next rs i 2, word_next rs i 3)

-- the lines of one row more
pub lines_snoc : (n : ℕ) (rs : List ℕ) → lines_in (suc n) rs ≡ lines_in n rs ++ line_at rs n ∷ []
unfolding lines_in line_at
lines_snoc zero rs = refl
lines_snoc (suc n) rs =
    ap (λ (ls : List Line). line_at rs 0 ∷ ls)
    (lines_snoc n (drop 4 rs) ∙ ap (λ (l : Line). lines_in n (drop 4 rs) ++ l ∷ []) (line_next rs n))

-- ---- the line at a place

line_there : (n : ℕ) (rs : List ℕ) (a : ℕ) → a < n → get_elem? (lines_in n rs) a ≡ some (line_at rs a)
unfolding lines_in line_at
line_there zero rs a h = absurd (omega arith)
line_there (suc n) rs zero h = refl
line_there (suc n) rs (suc a) h = line_there n (drop 4 rs) a (omega arith) ∙ ap some (line_next rs a)

line_missing : (n : ℕ) (rs : List ℕ) (a : ℕ) → n ≤ a → get_elem? (lines_in n rs) a ≡ none
unfolding lines_in
line_missing zero rs a h = refl
line_missing (suc n) rs zero h = absurd (omega arith)
line_missing (suc n) rs (suc a) h = line_missing n (drop 4 rs) a (omega arith)

module _ (n : ℕ) (rs : List ℕ) where
  pub earlier_there : (t : Ty) (a : ℕ) → a < n → is_earlier (lines_in n rs) t (row a) ≡ same_ty t (line_type (line_at rs a))
  earlier_there t a h = rw (line_there n rs a h, is_earlier)

  pub earlier_missing : (t : Ty) (a : ℕ) → n ≤ a → is_earlier (lines_in n rs) t (row a) ≡ false
  earlier_missing t a h = rw (line_missing n rs a h, is_earlier)

  pub divisor_there : (b : ℕ) → b < n → is_divisor (lines_in n rs) (row b) ≡ is_non_zero (line_at rs b)
  divisor_there b h = rw (line_there n rs b h, is_divisor)

  pub divisor_missing : (b : ℕ) → n ≤ b → is_divisor (lines_in n rs) (row b) ≡ false
  divisor_missing b h = rw (line_missing n rs b h, is_divisor)

-- ---- what a form tells of its lines

module _ (t : Ty) (a b c : ℕ) where
  -- the lines of any but an operator or a conversion have the type of their head
  pub other_type : (f : Code.Form)
      → ((o : Op) → f ≡ Form.Binary o → ⊥)
      → ((u : Ty) → f ≡ Form.Conversion u → ⊥)
      → t ≡ line_type (meant f t a b c)
  other_type Form.Number n m = refl
  other_type Form.Read n m = refl
  other_type Form.Minus n m = refl
  other_type Form.Complement n m = refl
  other_type Form.Select n m = refl
  other_type (Form.Binary o) n m = absurd (n o refl)
  other_type (Form.Conversion u) n m = absurd (m u refl)
  other_type Form.Unknown n m = refl

  -- any but a number is no divisor
  pub other_divisor : (f : Code.Form) → (f ≡ Form.Number → ⊥) → false ≡ is_non_zero (meant f t a b c)
  other_divisor Form.Number n = absurd (n refl)
  other_divisor Form.Read n = refl
  other_divisor Form.Minus n = refl
  other_divisor Form.Complement n = refl
  other_divisor Form.Select n = refl
  other_divisor (Form.Binary o) n = refl
  other_divisor (Form.Conversion u) n = refl
  other_divisor Form.Unknown n = refl

-- ---- values

values_snoc : (s : State) (vals : List ℕ) (ls : List Line) (l : Line)
    → values s vals (ls ++ l ∷ []) ≡ values s vals ls ++ line_value s (values s vals ls) l ∷ []
unfolding values
values_snoc s vals [] l = refl
values_snoc s vals (m ∷ ls) l = values_snoc s (vals ++ line_value s vals m ∷ []) ls l

module _ (rs : List ℕ) (s : State) where
  pub values_none : (vals : List ℕ) → take 0 vals ≡ values s [] (lines_in 0 rs)
  unfolding lines_in values
  values_none vals = refl

  -- with the value of row i behind those of the rows before it
  pub values_turn : (i : ℕ) (vals : List ℕ) (v : ℕ)
      → i < length vals
      → take i vals ≡ values s [] (lines_in i rs)
      → v ≡ line_value s (take i vals) (line_at rs i)
      → take (i + 1) (set vals i v) ≡ values s [] (lines_in (i + 1) rs)
  values_turn i vals v h e q =
      rw (add-one i)
      (take-suc-set vals i v h
      ∙ rw (q, e) (sym (values_snoc s [] (lines_in i rs) (line_at rs i)) ∙ ap (values s []) (sym (lines_snoc i rs))))
