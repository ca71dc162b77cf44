-- Rows of lists, by the kinds of their nodes.
use mathlib.Core.Path.{◌≡◌, refl, ap, ◌∙◌}
use mathlib.Core.Bool.{Bool, ◌||◌}
use mathlib.Core.List.{List, [], ◌∷◌}
use Prim.Native.Nat.{ℕ, zero, suc, ◌≤◌}
use native.Mathlib.Omega.{arith}
use lib.ListN.{length, set}
use Rattle.paper.specs.declared.Row.{Row}
use Rattle.paper.specs.Names.{Info}
use Rattle.paper.specs.Plain as P
use Rattle.paper.specs.Plain.{Stmts, assigns, ◌⨾◌}
use Rattle.paper.specs.Tables.{Line, row, expression_rows, merge, statement_rows}
use Rattle.tree.specs.Nodes.{word_of, child_of}
use Rattle.plain.specs.Flat.{expr_at, list_at}
use Rattle.plain.specs.Kinds.{IsStatement}
use Rattle.plain.specs.declared.kinds.Statement.TheVariants as F
use Rattle.table.specs.declared.records.Made.{Made}
use Rattle.table.specs.Growth.{rows_in, Room}
use Rattle.table.specs.Walks.{Makes, Stands, Binds, Selects}
use Rattle.table.proofs.Growing.{room_less}
use Rattle.table.proofs.Pushing.{expression_grows}
use Rattle.table.proofs.Selecting.{merge_grows}

-- rows never go
pub statement_grows : (is : List Info) (s : Stmts) (E : List Row) (rs : List Line) → length rs ≤ length (statement_rows is s E rs).rows
unfolding statement_rows
statement_grows is P.done E rs = omega arith
statement_grows is (P.assign c e k) E rs =
    let x = expression_rows E e rs in
    omega (arith, expression_grows E e rs, statement_grows is k (set E c.0 x.at) x.rows)
statement_grows is (P.choice c a b k) E rs =
    let x = expression_rows E c rs in
    let y = statement_rows is a E x.rows in
    let z = statement_rows is b E y.rows in
    let w : ℕ → Bool = λ i. assigns a i || assigns b i in
    let m = merge w 0 x.at is y.env z.env z.rows in
    omega (
      arith,
      expression_grows E c rs,
      statement_grows is a E x.rows,
      statement_grows is b E y.rows,
      merge_grows w 0 x.at is y.env z.env z.rows,
      statement_grows is k m.env m.rows,
    )

-- one list behind another
statement_join : (is : List Info) (a b : Stmts) (E : List Row) (rs : List Line)
    → statement_rows is (a ⨾ b) E rs ≡ statement_rows is b (statement_rows is a E rs).env (statement_rows is a E rs).rows
unfolding statement_rows ◌⨾◌
statement_join is P.done b E rs = refl
statement_join is (P.assign c e k) b E rs = statement_join is k b _ _
statement_join is (P.choice c x y k) b E rs = statement_join is k b _ _

rows_set : (env : List ℕ) (c v : ℕ) → rows_in (set env c v) ≡ set (rows_in env) c (row v)
rows_set [] c v = refl
rows_set (x ∷ env) zero v = refl
rows_set (x ∷ env) (suc c) v = ap (λ xs. row x ∷ xs) (rows_set env c v)

module _ (infos p env : List ℕ) where
  none_binds : (s : Stmts) → s ≡ P.done → (old : List ℕ) (n : ℕ) → Binds infos s env env old old n n
  unfolding statement_rows
  none_binds s e old n = rw e (λ is read base rs holds room. (holds, refl))

  module _ (i : ℕ) where
    pub nil_binds : IsStatement p i F.Nothing → (old : List ℕ) (n : ℕ) → Binds infos (list_at p i) env env old old n n
    nil_binds s = none_binds (list_at p i) s.list

    module _ (env' old new : List ℕ) (n r : ℕ) where
      pub assign_binds : IsStatement p i F.Assignment → (v : Row) → env' ≡ set env (word_of p i 1) v.0
          → Makes old new n (expression_rows (rows_in env) (expr_at p (child_of p i 2))) (record { count = r; at = v })
          → Binds infos (list_at p i) env env' old new n r
      unfolding statement_rows
      assign_binds s v e made =
          rw s.list (λ is read base rs holds room.
          let x = made base rs holds room in
          (x.0, ap rows_in e ∙ rows_set env (word_of p i 1) v.0 ∙ ap (set (rows_in env) (word_of p i 1)) x.1))

      pub both_binds : IsStatement p i F.List → (mid far : List ℕ) (m : ℕ) → Binds infos (list_at p (child_of p i 1)) env mid old far n m
          → Binds infos (list_at p (child_of p i 2)) mid env' far new m r → Binds infos (list_at p i) env env' old new n r
      both_binds s mid far m first second is read base rs holds =
          let a = list_at p (child_of p i 1) in
          let b = list_at p (child_of p i 2) in
          let y = statement_rows is a (rows_in env) rs in
          let whole : statement_rows is (list_at p i) (rows_in env) rs ≡ statement_rows is b y.env y.rows
          = ap (λ l. statement_rows is l (rows_in env) rs) s.list ∙ statement_join is a b (rows_in env) rs in
          rw whole (λ room.
          let x = first is read base rs holds (room_less base _ _ (statement_grows is b y.env y.rows) room) in
          let z : Stands base new r env' (statement_rows is b y.env y.rows) = rw x.1 at (second is read base y.rows x.0) in
          z room)

      -- both lists from the same rows, and then the cells
      pub choice_binds : IsStatement p i F.Choice → (x : Made) (one two three start ys zs : List ℕ) (m k : ℕ)
          → Makes old one n (expression_rows (rows_in env) (expr_at p (child_of p i 1))) x
          → Binds infos (list_at p (child_of p i 2)) env ys one two x.count m
          → start ≡ env → Binds infos (list_at p (child_of p i 3)) start zs two three m k
          → Selects (list_at p (child_of p i 2)) (list_at p (child_of p i 3)) x.at infos ys env' zs three new k r
          → Binds infos (list_at p i) env env' old new n r
      unfolding statement_rows
      choice_binds s x one two three start ys zs m k test then copied other merged =
          rw s.list (λ is read base rs holds room.
          let a = list_at p (child_of p i 2) in
          let b = list_at p (child_of p i 3) in
          let w : ℕ → Bool = λ c. assigns a c || assigns b c in
          let X = expression_rows (rows_in env) (expr_at p (child_of p i 1)) rs in
          let Y = statement_rows is a (rows_in env) X.rows in
          let Z = statement_rows is b (rows_in env) Y.rows in
          let roomZ : Room base (length Z.rows) = room_less base _ _ (merge_grows w 0 X.at is Y.env Z.env Z.rows) room in
          let roomY : Room base (length Y.rows) = room_less base _ _ (statement_grows is b (rows_in env) Y.rows) roomZ in
          let roomX : Room base (length X.rows) = room_less base _ _ (statement_grows is a (rows_in env) X.rows) roomY in
          let f = test base rs holds roomX in
          let g = then is read base X.rows f.0 roomY in
          let else : Binds infos b env zs two three m k = rw copied at other in
          let h = else is read base Y.rows g.0 roomZ in
          let all : Stands base new r env' (merge w 0 X.at is Y.env Z.env Z.rows) =
          rw (f.1, g.1, h.1) at (merged is read base Z.rows h.0) in
          all room)
