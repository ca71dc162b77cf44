-- The marks of a node's list, from those of the lists below it, and how many there are.
use mathlib.Core.Path.{◌≡◌, refl, sym, ap, ap₂, ◌∙◌}
use mathlib.Core.Bool.{Bool, true, false, cond, ◌||◌, or-false}
use mathlib.Core.List.{List}
use Prim.Native.Nat.{ℕ, zero, suc, ◌+◌, ◌<◌, ◌≤◌}
use native.Mathlib.Omega.{arith}
use lib.Dec.{eqb, ltb}
use lib.ListN.{length, get_or, set, take, length-set}
use Rattle.std.proofs.Common.{count_by}
use Rattle.std.proofs.lemmas.List.Sums.{count_by_more_yes, count_by_more_no}
use lib.Seq.{get_or-set_same, get_or-set_other, set_out}
use borrow.Author.Tests.{eqb-true, eqb-false}
use Rattle.paper.specs.Plain.{Stmts, done, assigns, count, cells_within}
use Rattle.tree.specs.Nodes.{word_of}
use Rattle.plain.specs.Flat.{list_at}
use Rattle.plain.specs.Marks.{is_marked, Marks}
use Rattle.plain.specs.Kinds.{sublist, IsStatement}
use Rattle.plain.specs.declared.kinds.Statement.TheVariants as F
use Rattle.plain.proofs.Lists.{assigns_join}

-- ---- the marks of a list

none_marks : (m : List ℕ) → Marks done m m
unfolding assigns
none_marks m = record { kept = refl; each = λ c l. refl }

-- an assignment: its cell is marked, where it is one of those marked
one_marks : (s : Stmts) (m new : List ℕ) (w : ℕ) → ((c : ℕ) → assigns s c ≡ eqb w c) → new ≡ set m w 1 → Marks s m new
one_marks s m new w h e =
    record {
      kept = ap length e ∙ simp length-set;
      each = λ c l. ap (λ n. get_or n c 0) e ∙ go c l (eqb w c) refl ∙ ap (λ b. cond b 1 (get_or m c 0)) (sym (h c));
    }
  where
    go : (c : ℕ) → c < length m → (b : Bool) → eqb w c ≡ b → get_or (set m w 1) c 0 ≡ cond b 1 (get_or m c 0)
    go c l true q =
        let same : w ≡ c = eqb-true w c q in
        rw (same) (get_or-set_same m c 1 0 l)
    go c l false q = get_or-set_other m w c 1 0 (λ e. eqb-false w c q (sym e))

-- what two lists mark, one after the other
both_marks : (s t u : Stmts) → ((c : ℕ) → assigns u c ≡ assigns s c || assigns t c) → (old mid new : List ℕ) → Marks s old mid → Marks t mid new → Marks u old new
both_marks s t u h old mid new x y =
    record {
      kept = y.kept ∙ x.kept;
      each = λ c l. y.each c (omega (arith, x.kept)) ∙ ap (cond (assigns t c) 1) (x.each c l) ∙ joined (assigns s c) (assigns t c) (get_or old c 0) ∙ ap (λ b. cond b 1 (get_or old c 0)) (sym (h c));
    }
  where
    joined : (a b : Bool) (n : ℕ) → cond b 1 (cond a 1 n) ≡ cond (a || b) 1 n
    joined true true n = refl
    joined true false n = refl
    joined false b n = refl

module _ (p : List ℕ) (i : ℕ) where
  pub nothing_marks : IsStatement p i F.Nothing → (m : List ℕ) → Marks (list_at p i) m m
  nothing_marks v m = rw v.list (none_marks m)

  pub assign_marks : IsStatement p i F.Assignment → (m new : List ℕ) → new ≡ set m (word_of p i 1) 1 → Marks (list_at p i) m new
  unfolding assigns
  assign_marks v m new e = one_marks (list_at p i) m new (word_of p i 1) (λ c. rw v.list (or-false _)) e

  pub choice_marks : IsStatement p i F.Choice → (old mid new : List ℕ) → Marks (sublist p i 2) old mid → Marks (sublist p i 3) mid new
      → Marks (list_at p i) old new
  unfolding assigns
  choice_marks v old mid new x y = both_marks _ _ _ (λ c. rw v.list (or-false _)) old mid new x y

  pub list_marks : IsStatement p i F.List → (old mid new : List ℕ) → Marks (sublist p i 1) old mid → Marks (sublist p i 2) mid new
      → Marks (list_at p i) old new
  list_marks v old mid new x y = both_marks _ _ _ (λ c. rw v.list (assigns_join _ _ c)) old mid new x y

-- ---- how many are marked

-- those of the first n in a list, counted by their places
pub count_first : (m : List ℕ) (n : ℕ) → n ≤ length m → count_by (λ v. ltb 0 v) (take n m) ≡ count (is_marked m) n
unfolding count
count_first m zero h = refl
count_first m (suc n) h = go (is_marked m n) refl (count_first m n (omega arith))
  where
    go : (b : Bool) → is_marked m n ≡ b → count_by (λ v. ltb 0 v) (take n m) ≡ count (is_marked m) n
        → count_by (λ v. ltb 0 v) (take (suc n) m) ≡ cond (is_marked m n) 1 0 + count (is_marked m) n
    go true e k =
        let step : suc n ≡ n + 1 = omega arith in
        ap (λ i. count_by (λ v. ltb 0 v) (take i m)) step
        ∙ count_by_more_yes (λ v. ltb 0 v) m n 0 (omega arith) e
        ∙ omega (arith, k, ap {B = ℕ} (λ b. cond b 1 0) e)
    go false e k =
        let step : suc n ≡ n + 1 = omega arith in
        ap (λ i. count_by (λ v. ltb 0 v) (take i m)) step
        ∙ count_by_more_no (λ v. ltb 0 v) m n 0 (omega arith) e
        ∙ omega (arith, k, ap {B = ℕ} (λ b. cond b 1 0) e)

count_same : (f g : ℕ → Bool) (n : ℕ) → ((c : ℕ) → c < n → f c ≡ g c) → count f n ≡ count g n
unfolding count
count_same f g zero h = refl
count_same f g (suc n) h = ap₂ (λ b k. cond b 1 0 + k) (h n (omega arith)) (count_same f g n (λ c l. h c (omega arith)))

-- a cell that two lists mark, of marks that were 0
pub cell_marked : (s t : Stmts) (old mid new : List ℕ) → Marks s old mid → Marks t mid new → (c : ℕ) → c < length old → get_or old c 0 ≡ 0
    → is_marked new c ≡ assigns s c || assigns t c
cell_marked s t old mid new x y c l z =
    ap (λ v. ltb 0 v) (y.each c (omega (arith, x.kept)) ∙ ap (cond (assigns t c) 1) (x.each c l ∙ ap (cond (assigns s c) 1) z))
    ∙ go (assigns s c) (assigns t c)
  where
    go : (a b : Bool) → ltb 0 (cond b 1 (cond a 1 0)) ≡ a || b
    go true true = refl
    go true false = refl
    go false true = refl
    go false false = refl

-- how many there are
pub cells_marked : (s t : Stmts) (old mid new : List ℕ) (n : ℕ) → Marks s old mid → Marks t mid new → n ≤ length old
    → ((c : ℕ) → c < n → get_or old c 0 ≡ 0) → count (is_marked new) n ≡ cells_within n s t
unfolding cells_within
cells_marked s t old mid new n x y l z =
    count_same (is_marked new) (λ c. assigns s c || assigns t c) n (λ c h. cell_marked s t old mid new x y c (omega arith) (z c h))
