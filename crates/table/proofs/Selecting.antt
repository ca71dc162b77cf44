-- The cells behind an IF, one by one.
use mathlib.Core.Path.{◌≡◌, refl, sym, ap, ◌∙◌}
use mathlib.Core.Bool.{Bool, true, false, ◌||◌}
use mathlib.Core.List.{List, [], ◌∷◌, ◌++◌}
use Prim.Native.Nat.{ℕ, suc, ◌+◌, ◌%◌, ◌≤◌, ◌<◌}
use native.Mathlib.Numerals.{add-one}
use native.Mathlib.Omega.{arith}
use borrow.Author.Tests.{lt-ltb}
use lib.Dec.{ltb}
use lib.ListN.{length, get_or, drop, set, length-set, drop_of_length-le}
use lib.Seq.{drop-cons, drop-set-lt}
use Rattle.paper.specs.declared.Ty.{Ty}
use Rattle.paper.specs.declared.Row.{Row}
use Rattle.paper.specs.Names.{Info}
use Rattle.paper.specs.Plain.{Stmts, assigns}
use Rattle.paper.specs.Tables as T
use Rattle.paper.specs.Tables.{Line, row, merge_cell, merge}
use Rattle.plain.specs.Marks.{Marks}
use Rattle.plain.proofs.Markings.{cell_marked}
use Rattle.table.specs.declared.records.Made.{Made}
use Rattle.table.specs.Growth.{rows_in}
use Rattle.table.specs.Walks.{Pushes, Stands, Merges, Selects}
use Rattle.table.proofs.Growing.{length_more, room_less}
use Rattle.table.proofs.Infos.{by_first, none_at}
use Rattle.table.proofs.Cells.{front_less, place_kept, front_stored, place_stored}

-- rows never go
cell_grows : (b : Bool) (t : Ty) (c x y : Row) (rs : List Line) → length rs ≤ length (merge_cell b t c x y rs).rows
cell_grows true t c x y rs = omega (arith, length_more rs (T.select t c x y))
cell_grows false t c x y rs = omega arith

pub merge_grows : (w : ℕ → Bool) (i : ℕ) (c : Row) (is : List Info) (xs ys : List Row) (rs : List Line) → length rs ≤ length (merge w i c is xs ys rs).rows
unfolding merge
merge_grows w i c [] xs ys rs = omega arith
merge_grows w i c (t ∷ ts) [] ys rs = omega arith
merge_grows w i c (t ∷ ts) (a ∷ xs) [] rs = omega arith
merge_grows w i c (t ∷ ts) (a ∷ xs) (b ∷ ys) rs =
    let x = merge_cell (w i) t.ty c a b rs in
    omega (arith, cell_grows (w i) t.ty c a b rs, merge_grows w (suc i) c ts xs ys x.rows)

pub merge_none : (i : ℕ) (t : Row) (infos marks env other old : List ℕ) (n : ℕ) → length infos ≡ length env → length env ≤ i
    → Merges i t infos marks env env other old old n n
unfolding merge
merge_none i t infos marks env other old n s l =
    record {
      front = refl;
      merges = λ w agree is e base rs holds.
          let z : is ≡ [] = none_at infos i is (omega arith) e in
          rw (z, drop_of_length-le env l) (λ room. (holds, refl));
    }

module _ (i : ℕ) (t : Row) (infos marks env env' other old new : List ℕ) (n r : ℕ)
    (inside : i < length env) (first : length infos ≡ length env) (second : length other ≡ length env) (last : length env' ≡ length env) where
  in_infos : i < length infos
  in_infos = omega arith

  in_other : i < length other
  in_other = omega arith

  pub merge_kept : get_or marks i 0 ≡ 0 → Merges (i + 1) t infos marks env env' other old new n r → Merges i t infos marks env env' other old new n r
  unfolding merge
  merge_kept unmarked later =
      let more : Merges (suc i) t infos marks env env' other old new n r = rw (add-one i) at later in
      record {
        front = front_less i env env' more.front;
        merges = λ w agree is e base rs holds.
            by_first infos i is in_infos e (λ js. Stands base new r (drop i env') (merge w i t js (rows_in (drop i env)) (rows_in (drop i other)) rs))
            λ j js says read.
            let no : w i ≡ false = sym (agree i inside) ∙ ap (λ v. ltb 0 v) unmarked in
            rw (drop-cons env i 0 inside, drop-cons other i 0 in_other, no) (λ room.
            let rest = more.merges w agree js read base rs holds room in
            (rest.0, ap rows_in (place_kept i env env' more.front inside last) ∙ ap (λ xs. row (get_or env i 0) ∷ xs) rest.1));
      }

  pub merge_select : (mid : List ℕ) (h : ℕ) (x : Made) → (get_or marks i 0 ≡ 0 → ⊥) → h ≡ 32 + get_or infos i 0 % 8
      → Pushes old mid n h t.0 (get_or env i 0) (get_or other i 0) x
      → Merges (i + 1) t infos marks (set env i x.at.0) env' other mid new x.count r → Merges i t infos marks env env' other old new n r
  unfolding merge
  merge_select mid h x marked eh push later =
      let more : Merges (suc i) t infos marks (set env i x.at.0) env' other mid new x.count r = rw (add-one i) at later in
      record {
        front = front_stored i x.at.0 env env' more.front;
        merges = λ w agree is e base rs holds.
            by_first infos i is in_infos e (λ js. Stands base new r (drop i env') (merge w i t js (rows_in (drop i env)) (rows_in (drop i other)) rs))
            λ j js says read.
            let yes : w i ≡ true = sym (agree i inside) ∙ lt-ltb 0 (get_or marks i 0) (omega arith) in
            rw (drop-cons env i 0 inside, drop-cons other i 0 in_other, yes) (λ room.
            let l = T.select j.ty t (row (get_or env i 0)) (row (get_or other i 0)) in
            let one = push l (rw (eh, says.0)) base rs holds
            (room_less base _ _ (merge_grows w (suc i) t js (rows_in (drop (suc i) env)) (rows_in (drop (suc i) other)) (rs ++ l ∷ [])) room) in
            let all : Stands base new r (drop (suc i) env') (merge w (suc i) t js (rows_in (drop (suc i) env)) (rows_in (drop (suc i) other)) (rs ++ l ∷ [])) =
            rw (drop-set-lt (suc i) env i x.at.0 (omega arith)) at (more.merges w (λ c k. agree c (rw (length-set env i x.at.0) at k)) js read base (rs ++ l ∷ []) one.0) in
            let rest = all room in
            (rest.0, ap rows_in (place_stored i x.at.0 env env' more.front inside last) ∙ ap (λ v. v ∷ rows_in (drop (suc i) env')) one.1 ∙ ap (λ xs. row (length rs) ∷ xs) rest.1));
      }

-- all cells, by the marks of two lists
pub all_selected : (a b : Stmts) (t : Row) (infos none some-marks marks env env' other old new : List ℕ) (n r : ℕ) → length env ≤ length none
    → ((c : ℕ) → c < length env → get_or none c 0 ≡ 0) → Marks a none some-marks → Marks b some-marks marks
    → Merges 0 t infos marks env env' other old new n r → Selects a b t infos env env' other old new n r
all_selected a b t infos none some-marks marks env env' other old new n r l blank first second merged is read base rs holds =
    merged.merges (λ c. assigns a c || assigns b c) (λ c k. cell_marked a b none some-marks marks first second c (omega arith) (blank c k)) is read base rs holds
