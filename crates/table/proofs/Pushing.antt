-- Rows of expressions, by the kinds of their nodes.
use mathlib.Core.Path.{◌≡◌, refl, sym, ap, ap₂, ◌∙◌}
use mathlib.Core.List.{List, [], ◌∷◌}
use Prim.Native.Nat.{ℕ, zero, suc, ◌+◌, ◌*◌, ◌≤◌}
use native.Mathlib.Omega.{arith}
use lib.ListN.{length, get_or}
use Rattle.paper.specs.declared.Ty.{Ty}
use Rattle.paper.specs.declared.Ty.TheVariants.{Bool as BOOL}
use Rattle.paper.specs.declared.Op.{Op}
use Rattle.paper.specs.declared.Row.{Row}
use mathlib.Core.Bool.{Bool}
use Rattle.paper.specs.Types.{tag, encode, bit}
use Rattle.paper.specs.Plain as P
use Rattle.paper.specs.Tables as T
use Rattle.paper.specs.Tables.{Line, row, push, operation, record_of, expression_rows}
use Rattle.tree.specs.Nodes.{word_of, child_of}
use Rattle.tree.specs.Trees.{whole_at}
use Rattle.plain.specs.Flat.{type_at, expr_at}
use Rattle.plain.specs.Kinds.{IsExpression}
use Rattle.plain.specs.declared.kinds.Expression.TheVariants as E
use Rattle.table.specs.declared.records.Made.{Made}
use Rattle.table.specs.Growth.{rows_in, Emits}
use Rattle.table.specs.Walks.{Makes, Pushes}
use Rattle.table.proofs.Growing.{length_more, room_less}

-- rows never go
pub expression_grows : (E : List Row) (e : P.Expr) (rs : List Line) → length rs ≤ length (expression_rows E e rs).rows
unfolding expression_rows
expression_grows E (P.number t z) rs = omega (arith, length_more rs (T.number t (encode t z)))
expression_grows E (P.truth b) rs = simp length_more (omega arith)
expression_grows E (P.read c) rs = omega arith
expression_grows E (P.minus t e) rs = simp length_more (omega (arith, expression_grows E e rs))
expression_grows E (P.complement e) rs = simp length_more (omega (arith, expression_grows E e rs))
expression_grows E (P.binary o t l r) rs = simp length_more (omega (arith, expression_grows E l rs, expression_grows E r (expression_rows E l rs).rows))
expression_grows E (P.conversion t u e) rs = simp length_more (omega (arith, expression_grows E e rs))

pub row_at : (env : List ℕ) (c : ℕ) → get_or (rows_in env) c (row 0) ≡ row (get_or env c 0)
row_at [] c = refl
row_at (x ∷ env) zero = refl
row_at (x ∷ env) (suc c) = row_at env c

-- ---- one row more

pub pushed : (old new : List ℕ) (n h a b c r : ℕ) → Emits old new n h a b c r → Pushes old new n h a b c (record { count = r; at = row n })
pushed old new n h a b c r emit l e base rs holds room = (emit l e base rs holds room, ap row holds.count)

module _ (old mid new : List ℕ) (n h : ℕ) (x r : Made) (f : List Line → T.Made) (first : Makes old mid n f x) where
  -- over one operand
  pub then_push : (line : Row → Line) → ((a : Row) → record_of (line a) ≡ h ∷ a.0 ∷ 0 ∷ 0 ∷ []) → Pushes mid new x.count h x.at.0 0 0 r
      → Makes old new n (λ rs. push (f rs).rows (line (f rs).at)) r
  then_push line e last base rs holds room =
      let l = line (f rs).at in
      let y = first base rs holds (room_less base _ _ (omega (arith, length_more (f rs).rows l)) room) in
      last l (e _ ∙ ap (λ a. h ∷ a.0 ∷ 0 ∷ 0 ∷ []) (sym y.1)) base (f rs).rows y.0 room

  -- over two
  pub then_both : (far : List ℕ) (y : Made) (g : List Line → T.Made) → ((rs : List Line) → length rs ≤ length (g rs).rows) → Makes mid far x.count g y
      → (line : Row → Row → Line) → ((a b : Row) → record_of (line a b) ≡ h ∷ a.0 ∷ b.0 ∷ 0 ∷ []) → Pushes far new y.count h x.at.0 y.at.0 0 r
      → Makes old new n (λ rs. push (g (f rs).rows).rows (line (f rs).at (g (f rs).rows).at)) r
  then_both far y g grows second line e last base rs holds room =
      let l = line (f rs).at (g (f rs).rows).at in
      let rooms = room_less base (length (g (f rs).rows).rows) _ (omega (arith, length_more (g (f rs).rows).rows l)) room in
      let v = first base rs holds (room_less base _ _ (grows (f rs).rows) rooms) in
      let w = second base (f rs).rows v.0 rooms in
      last l (e _ _ ∙ ap₂ (λ a b. h ∷ a.0 ∷ b.0 ∷ 0 ∷ []) (sym v.1) (sym w.1)) base (g (f rs).rows).rows w.0 room

-- ---- a node

module _ (env p : List ℕ) (i : ℕ) where
  abbrev rows : List Line → T.Made
  rows = expression_rows (rows_in env) (expr_at p i)

  module _ (old new : List ℕ) (n : ℕ) (r : Made) where
    pub number_made : IsExpression p i E.Number → (h a : ℕ) → h ≡ 8 * 0 + tag (type_at p i) → a ≡ encode (type_at p i) (whole_at p i)
        → Pushes old new n h a 0 0 r → Makes old new n rows r
    unfolding expression_rows
    number_made s h a e d made = rw s.tree (made (T.number (type_at p i) (encode (type_at p i) (whole_at p i))) (rw (e, d)))

    pub truth_made : (b : Bool) → IsExpression p i (E.Truth b) → Pushes old new n 0 (bit b) 0 0 r → Makes old new n rows r
    unfolding expression_rows
    truth_made b s made = rw s.tree (made (T.number BOOL (bit b)) refl)

  pub read_made : IsExpression p i E.Read → (old : List ℕ) (n : ℕ) (v : Row) → v ≡ row (get_or env (word_of p i 1) 0) → Makes old old n rows (record { count = n; at = v })
  unfolding expression_rows
  read_made s old n v d = rw s.tree (λ base rs holds room. (holds, d ∙ sym (row_at env (word_of p i 1))))

  -- the rows of an operand
  abbrev operand : ℕ → List Line → T.Made
  operand j = expression_rows (rows_in env) (expr_at p (child_of p i j))

  module _ (old mid new : List ℕ) (n h : ℕ) (x r : Made) (first : Makes old mid n (operand 1) x) where
    pub minus_made : IsExpression p i E.Minus → h ≡ 8 * 2 + tag (type_at p i) → Pushes mid new x.count h x.at.0 0 0 r → Makes old new n rows r
    unfolding expression_rows
    minus_made s e last = rw s.tree (then_push old mid new n h x r (operand 1) first (T.minus (type_at p i)) (λ a. rw e) last)

    pub complement_made : IsExpression p i E.Complement → h ≡ 24 → Pushes mid new x.count h x.at.0 0 0 r → Makes old new n rows r
    unfolding expression_rows
    complement_made s e last = rw s.tree (then_push old mid new n h x r (operand 1) first (T.complement BOOL) (λ a. rw e) last)

    pub conversion_made : (t u : Ty) → IsExpression p i (E.Conversion t u) → h ≡ 8 * (18 + tag u) + tag t → Pushes mid new x.count h x.at.0 0 0 r → Makes old new n rows r
    unfolding expression_rows
    conversion_made t u s e last = rw s.tree (then_push old mid new n h x r (operand 1) first (T.conversion t u) (λ a. rw e) last)

    pub binary_made : (o : Op) → IsExpression p i (E.Binary o) → ((a b : Row) → h ≡ 8 * operation (T.binary o (type_at p i) a b) + tag (type_at p i))
        → (far : List ℕ) (y : Made) → Makes mid far x.count (operand 2) y → Pushes far new y.count h x.at.0 y.at.0 0 r → Makes old new n rows r
    unfolding expression_rows
    binary_made o s e far y second last =
        rw s.tree
        (then_both old mid new n h x r (operand 1) first far y (operand 2) (expression_grows (rows_in env) (expr_at p (child_of p i 2))) second (T.binary o (type_at p i)) (λ a b. rw (e a b)) last)
