-- Statements just written: one list behind another, an assignment, an IF.
use mathlib.Core.Path.{◌≡◌, refl, sym, ap, ap₂, ◌∙◌}
use mathlib.Core.Bool.{Bool, true, false, cond, ◌||◌}
use mathlib.Core.List.{List}
use Prim.Native.Nat.{ℕ, zero, suc, ◌+◌, ◌≤◌, ◌<◌}
use native.Mathlib.Omega.{arith}
use borrow.Author.Tests.{le-leb, lt-leb}
use lib.ListN.{length}
use Rattle.paper.specs.declared.Cell.{Cell}
use Rattle.std.specs.Prelude.{Ok}
use Rattle.paper.specs.declared.Refusal.{Refusal}
use Rattle.paper.specs.declared.Why.TheVariants.{TooHeavy}
use Rattle.paper.specs.Refusals.{Answer, refused, given, refusal, ◌>>=◌}
use Rattle.paper.specs.Plain.{Expr, Stmts, number, truth, read, minus, complement, binary, conversion, done, assign, choice, parts, assigns, count, cells_within, ◌⨾◌}
use Rattle.paper.specs.Unwinding.{Unwound, unwound, heavier}
use Rattle.plain.specs.Flat.{expr_at, list_at}
use Rattle.plain.proofs.Forms.{put_assign, put_choice, put_list}
use Rattle.plain.proofs.Lists.{join_done, front_list, list_nil}
use Rattle.unwind.specs.declared.parts.Part.{Part}
use Rattle.unwind.specs.declared.lists.Walk.{Walk}
use Rattle.unwind.specs.Parts.{Holds, Emitted}
use Rattle.unwind.specs.Walks.{Linked, AssignedDid, JoinedDid}

-- ---- weight

pub weighs : (q n w : ℕ) → w + n ≤ 3000 → heavier q n w ≡ given (w + n)
weighs q n w l = ap (λ b. cond b (given (w + n)) (refused TooHeavy q)) (le-leb (w + n) 3000 l)

pub outweighs : (q n w : ℕ) → 3000 < w + n → heavier q n w ≡ refused TooHeavy q
outweighs q n w l = ap (λ b. cond b (given (w + n)) (refused TooHeavy q)) (lt-leb (w + n) 3000 l)

-- and what comes after it
pub light : {A : Type 0} (q n w : ℕ) (f : ℕ → Answer A) → w + n ≤ 3000 → f (w + n) ≡ (heavier q n w >>= f)
light q n w f l = sym (ap (λ o. o >>= f) (weighs q n w l))

pub heavy : {A : Type 0} {e : Refusal} (q n w : ℕ) (f : ℕ → Answer A) → 3000 < w + n → e ≡ refusal TooHeavy q → refused e.why e.place ≡ (heavier q n w >>= f)
heavy q n w f l h = ap (λ e. refused e.why e.place) h ∙ sym (ap (λ o. o >>= f) (outweighs q n w l))

pub parts_some : (x : Expr) → 0 < parts x
unfolding parts
parts_some (number t z) = omega arith
parts_some (truth b) = omega arith
parts_some (read c) = omega arith
parts_some (minus t e) = omega arith
parts_some (complement e) = omega arith
parts_some (binary o t l r) = omega arith
parts_some (conversion t u e) = omega arith

-- ---- one list behind another

nil_list : (p : List ℕ) (i : ℕ) → i ≡ 0 → list_at p i ≡ done
nil_list p i e = ap (list_at p) e ∙ list_nil p

module _ (old : List ℕ) (n a b w : ℕ) where
  pub linked_second : b ≤ n → a ≡ 0 → Linked old old n a b w (record { count = n; root = b; weight = w })
  unfolding ◌⨾◌
  linked_second l e =
      record {
        weight = refl;
        long = refl;
        same = λ j s. refl;
        more = omega arith;
        root = l;
        list = ap (λ x. x ⨾ list_at old b) (sym (nil_list old a e));
        grown = omega arith;
      }

  pub linked_first : a ≤ n → b ≡ 0 → Linked old old n a b w (record { count = n; root = a; weight = w })
  linked_first l e =
      record {
        weight = refl;
        long = refl;
        same = λ j s. refl;
        more = omega arith;
        root = l;
        list = sym (ap (λ x. list_at old a ⨾ x) (nil_list old b e) ∙ join_done (list_at old a));
        grown = omega arith;
      }

  pub linked_both : (new : List ℕ) (m : ℕ) → Emitted old new n 44 a b 0 m → Holds old (n + 1) → a ≤ n → b ≤ n → 0 < a → 0 < b
      → Linked old new n a b w (record { count = m; root = m; weight = w })
  linked_both new m e room la lb sa sb =
      let wrote = e.wrote room in
      let last : m ≡ n + 1 = wrote.0 in
      record {
        weight = refl;
        long = e.long;
        same = e.same;
        more = e.more;
        root = omega arith;
        list = ap₂ list_at wrote.1 last
            ∙ put_list old (n + 1) a b 0 (omega arith) room done (omega arith) (omega arith)
            ∙ front_list old a (list_at old b);
        grown = omega arith;
      }

-- ---- an assignment

module _ (old : List ℕ) (at : ℕ) (cell : Cell) (w : ℕ) (v : Part) where
  -- with the weight of all
  abbrev set_to : Expr → ℕ → Answer Unwound
  set_to x m = unwound (assign cell x done) m

  pub assigned_good : (new : List ℕ) (m z : ℕ) → Emitted old new v.count 40 cell.0 v.count 0 m → z ≡ w + v.parts → z ≤ 3000 → 48016 ≤ length old
      → AssignedDid old new at cell w v (Ok (record { count = m; root = m; weight = z }))
  assigned_good new m z e ez l f =
      record {
        long = e.long;
        same = e.same;
        does = λ n x d k s.
            let some = parts_some x in
            let same : v.parts ≡ parts x = omega (arith, d.counted) in
            let before = d.ends (omega arith) in
            let at_last : v.count ≡ n + parts x = before.0 in
            let room : Holds old (v.count + 1) = omega arith in
            let wrote = e.wrote room in
            let last : m ≡ v.count + 1 = wrote.0 in
            let weight : z ≡ w + parts x = omega arith in (
              record { more = omega arith; root = omega arith; heavy = omega arith; light = omega arith; grown = omega arith },
              ap₂ unwound
                  (ap₂ list_at wrote.1 last
                  ∙ put_assign old (v.count + 1) cell.0 v.count 0 (omega arith) room done (omega arith)
                  ∙ ap (λ y. assign cell y done) before.1)
                  weight
                  ∙ light at (parts x) w (set_to x) (omega arith),
            );
      }

-- ---- an IF

module _ (old : List ℕ) (size q c a cells : ℕ) (b : Walk) (ecells : cells ≡ cells_within size (list_at old a) (list_at old b.root)) where
  abbrev whole : ℕ → Answer Unwound
  whole w = unwound (choice (expr_at old c) (list_at old a) (list_at old b.root) done) w

  pub joined_good : (new : List ℕ) (m z : ℕ) → Emitted old new b.count 41 c a b.root m → z ≡ b.weight + cells → z ≤ 3000
      → Holds old (b.count + 1) → c ≤ b.count → a ≤ b.count → b.root ≤ b.count → JoinedDid old new size q c a b (Ok (record { count = m; root = m; weight = z }))
  joined_good new m z e ez l room lc la lb =
      let wrote = e.wrote room in
      let last : m ≡ b.count + 1 = wrote.0 in
      record {
        long = e.long;
        same = e.same;
        is = ap₂ unwound
            (ap₂ list_at wrote.1 last
            ∙ put_choice old (b.count + 1) c a b.root (omega arith) room done (omega arith) (omega arith) (omega arith))
            ez
            ∙ light q cells b.weight whole (omega arith)
            ∙ ap (λ n. heavier q n b.weight >>= whole) ecells;
        good = (last, refl, omega arith, l);
      }

-- no more cells than there are
count_most : (f : ℕ → Bool) (n : ℕ) → count f n ≤ n
unfolding count
count_most f zero = omega arith
count_most f (suc n) = go (f n) (count_most f n)
  where
    go : (b : Bool) → count f n ≤ n → cond b 1 0 + count f n ≤ suc n
    go true l = omega arith
    go false l = omega arith

pub cells_most : (n : ℕ) (a b : Stmts) → cells_within n a b ≤ n
unfolding cells_within
cells_most n a b = count_most (λ i. assigns a i || assigns b i) n
