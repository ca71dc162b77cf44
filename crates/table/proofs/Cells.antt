-- The cells one by one: rows for their values at the scan's start, and their records.
use mathlib.Core.Path.{◌≡◌, refl, sym, ap, ap₂, ◌∙◌}
use mathlib.Core.List.{List, [], ◌∷◌, ◌++◌, append_assoc, append-nil}
use Prim.Native.Nat.{ℕ, suc, ◌+◌, ◌%◌, ◌≤◌, ◌<◌}
use native.Mathlib.Numerals.{add-one}
use native.Mathlib.Omega.{arith}
use lib.ListN.{length, get_or, take, drop, set, length-set, length-append, drop_of_length-le}
use lib.Seq.{drop-cons, get_or-take, get_or-set_same, take-take, take-set-le, drop-set-lt}
use Rattle.paper.specs.Names.{Info}
use Rattle.paper.specs.Tables as T
use Rattle.paper.specs.Tables.{row, cell_record, cell_records, reads, rows_from}
use Rattle.paper.specs.Judge.{over}
use Rattle.table.specs.Growth.{rows_in, Room, Front}
use Rattle.table.specs.declared.records.Made.{Made}
use Rattle.table.specs.Walks.{Pushes, Stands, Says, Starts, Ends}
use Rattle.table.proofs.Growing.{length_more, room_less}
use Rattle.table.proofs.Infos.{by_first, none_at}

-- ---- a place stored, and those behind it changed later

module _ (i : ℕ) (mid new : List ℕ) (later : Front (suc i) mid new) where
  pub front_less : Front i mid new
  front_less = sym (take-take i (suc i) new (omega arith)) ∙ ap (take i) later ∙ take-take i (suc i) mid (omega arith)

  pub place_kept : i < length mid → length new ≡ length mid → drop i new ≡ get_or mid i 0 ∷ drop (suc i) new
  place_kept l e =
      drop-cons new i 0 (omega arith)
      ∙ ap (λ x. x ∷ drop (suc i) new)
      (sym (get_or-take (suc i) new i 0 (omega arith)) ∙ ap (λ z. get_or z i 0) later ∙ get_or-take (suc i) mid i 0 (omega arith))

module _ (i v : ℕ) (old new : List ℕ) (later : Front (suc i) (set old i v) new) where
  pub front_stored : Front i old new
  front_stored = front_less i (set old i v) new later ∙ take-set-le i old i v (omega arith)

  pub place_stored : i < length old → length new ≡ length old → drop i new ≡ v ∷ drop (suc i) new
  place_stored l e =
      let same : length (set old i v) ≡ length old = length-set old i v in
      place_kept i (set old i v) new later (omega arith) (omega arith)
      ∙ ap (λ x. x ∷ drop (suc i) new) (get_or-set_same old i v 0 l)

-- ---- the cells' records

module _ (i : ℕ) (infos env old : List ℕ) where
  pub ends_none : length infos ≤ i → Ends i infos env old old
  unfolding cell_records
  ends_none l = record { front = refl; ends = λ is e. rw (none_at infos i is l e) }

  pub ends_one : (new : List ℕ) (v : ℕ) → i < length infos → length infos ≡ length env → length infos ≤ length old → length new ≡ length old
      → ((j : Info) → Says (get_or infos i 0) j → v ≡ cell_record j (row (get_or env i 0)))
      → Ends (i + 1) infos env (set old i v) new → Ends i infos env old new
  unfolding cell_records
  ends_one new v l a b s r later =
      let more : Ends (suc i) infos env (set old i v) new = rw (add-one i) at later in
      let in-env : i < length env = omega arith in
      let in-old : i < length old = omega arith in
      record {
        front = front_stored i v old new more.front;
        ends = λ is e.
            by_first infos i is l e (λ js. drop i new ≡ over (cell_records js (rows_in (drop i env))) (drop i old))
            λ j js says read.
            place_stored i v old new more.front (omega arith) s
            ∙ ap₂ (λ x xs. x ∷ xs) (r j says) (more.ends js read ∙ ap (over (cell_records js (rows_in (drop (suc i) env)))) (drop-set-lt (suc i) old i v (omega arith)))
            ∙ sym (rw (drop-cons env i 0 in-env, drop-cons old i 0 in-old));
      }

-- ---- rows for the values at the scan's start

module _ (i : ℕ) (infos env old : List ℕ) (n : ℕ) where
  pub starts_none : length infos ≤ i → length infos ≡ length env → Starts i infos env env old old n n
  unfolding reads rows_from
  starts_none l s =
      record {
        front = refl;
        starts = λ is e base rs holds behind.
            let z : is ≡ [] = none_at infos i is l e in
            let none : length env ≤ i = omega arith in
            rw (z, drop_of_length-le env none) (λ room. (rw (append-nil rs) holds, refl));
      }

  pub starts_one : (env' mid new : List ℕ) (h r : ℕ) (x : Made) → i < length infos → length infos ≡ length env → length env' ≡ length env
      → h ≡ 8 + get_or infos i 0 % 8 → Pushes old mid n h i 0 0 x
      → Starts (i + 1) infos (set env i x.at.0) env' mid new x.count r → Starts i infos env env' old new n r
  unfolding reads rows_from
  starts_one env' mid new h r x l a s eh push later =
      let more : Starts (suc i) infos (set env i x.at.0) env' mid new x.count r = rw (add-one i) at later in
      record {
        front = front_stored i x.at.0 env env' more.front;
        starts = λ is e base rs holds behind.
            by_first infos i is l e (λ js. Stands base new r (drop i env') (record { rows = rs ++ reads i js; env = rows_from i js }))
            λ j js says read room.
            let y = T.read j.ty (record { 0 = i }) in
            let split : rs ++ y ∷ reads (suc i) js ≡ (rs ++ y ∷ []) ++ reads (suc i) js = sym (append_assoc rs (y ∷ []) (reads (suc i) js)) in
            let all : Room base (length ((rs ++ y ∷ []) ++ reads (suc i) js)) = rw split at room in
            let one : length (rs ++ y ∷ []) ≤ length ((rs ++ y ∷ []) ++ reads (suc i) js) = simp length-append (omega arith) in
            let made = push y (rw (eh, says.0)) base rs holds (room_less base _ _ one all) in
            let rest = more.starts js read base (rs ++ y ∷ []) made.0 (length_more rs y ∙ ap suc behind) all in (
              rw split rest.0,
              ap rows_in (place_stored i x.at.0 env env' more.front (omega arith) s)
                  ∙ ap (λ v. v ∷ rows_in (drop (suc i) env')) (made.1 ∙ ap row behind)
                  ∙ ap (λ xs. row i ∷ xs) rest.1,
            );
      }
