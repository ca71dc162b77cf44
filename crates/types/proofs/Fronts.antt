-- What statements put in front of a list, and what a walk of them keeps.
use mathlib.Core.Path.{◌≡◌, refl, sym, ap, ap₂, subst, ◌∙◌}
use mathlib.Core.Option as Math
use mathlib.Core.Option.{none, some}
use mathlib.Core.List.{List, [], ◌∷◌, ◌++◌}
use Prim.Native.Nat.{ℕ, zero, suc, ◌+◌, ◌≤◌, ◌<◌}
use native.Mathlib.Omega.{arith}
use native.Mathlib.Numerals.{add-one}
use lib.ListN.{length, take, set, length-take}
use lib.Seq.{get_or-take, get_or-set_same, get_or-set_other}
use Rattle.std.specs.Prelude.{Option, None, Some}
use Rattle.paper.specs.declared.Ty.{Ty}
use Rattle.paper.specs.declared.Ty.TheVariants.{Dint as DINT}
use Rattle.paper.specs.Source.{Name, Stmts, done, assign}
use Rattle.paper.specs.Names.{Variable}
use Rattle.paper.specs.Typing as T
use Rattle.tree.specs.Nodes.{child_of}
use Rattle.tree.specs.Trees.{place_at, name_at, expr_at, labels_at, front_at, arms_at}
use Rattle.tree.specs.Kinds.{IsStatement, IsArms}
use Rattle.tree.specs.declared.kinds.Statement.TheVariants as F
use Rattle.tree.specs.declared.kinds.Arms.TheVariants as A
use Rattle.faults.specs.Soonest.{soonest, sooner}
use Rattle.faults.proofs.Soonest.{sooner_none, sooner_comm, sooner_assoc, soonest_none, soonest_append, soonest_empty}
use Rattle.variables.specs.Table.{variables_in, names_to}
use Rattle.types.specs.declared.parts.Settled.{Settled}
use Rattle.types.specs.Says.{Settles, around}
use Rattle.types.specs.Statements.{assign_at, condition_at, selector_at, head_at, SelectorAt, heard, Puts, choice_front, select_front, loop_front, Kept, Walks, WalksArms}

-- the faults of two lists, found one after the other
pub and_then : (best x r : Option ℕ) (xs ys : List ℕ) → x ≡ sooner best (soonest xs) → r ≡ sooner x (soonest ys)
    → r ≡ sooner best (soonest (xs ++ ys))
and_then best x r xs ys h g =
    g
    ∙ ap (λ n. sooner n (soonest ys)) h
    ∙ sooner_assoc best (soonest xs) (soonest ys)
    ∙ ap (sooner best) (sym (soonest_append xs ys))

-- ---- in front of a list

abbrev first : List Variable → List Name → Stmts → Math.Option Ty → Option ℕ
first vs ls k sel = soonest (T.statement_faults vs k ls sel)

module _ {vs : List Variable} {ls : List Name} where
  pub puts_as : {best r : Option ℕ} {f g : Stmts → Stmts} → ((k : Stmts) → g k ≡ f k) → Puts vs ls f best r → Puts vs ls g best r
  puts_as e a = record { own = a.own; is = a.is; front = λ k d sel. ap (λ s. first vs ls s sel) (e k) ∙ a.front k d sel }

  pub puts_none : (best : Option ℕ) → Puts vs ls (λ k. k) best best
  puts_none best = record { own = None; is = sym (sooner_none best); front = λ k d sel. d sel }

  -- a statement with these faults of its own
  pub puts_one : {best r : Option ℕ} (f : Stmts → Stmts) (own : List ℕ)
      → ((k : Stmts) (sel : Math.Option Ty) → T.statement_faults vs (f k) ls sel ≡ own ++ T.statement_faults vs k ls (some DINT))
      → r ≡ sooner best (soonest own) → Puts vs ls f best r
  puts_one f own e h = record { own = soonest own; is = h; front = λ k d sel. ap soonest (e k sel) ∙ soonest_append own _ }

  -- f in front of what g puts
  pub puts_two : {best x r : Option ℕ} {f g : Stmts → Stmts} → Puts vs ls g best x → Puts vs ls f x r → Puts vs ls (λ k. f (g k)) best r
  puts_two {best} {x} {r} {f} {g} a b =
      record {
        own = sooner a.own b.own;
        is = b.is ∙ ap (λ y. sooner y b.own) a.is ∙ sooner_assoc best a.own b.own;
        front = λ k d sel.
            let rest = first vs ls k (some DINT) in
            b.front (g k) (λ s. a.front k d s ∙ sym (a.front k d (some DINT))) sel
            ∙ ap (sooner b.own) (a.front k d (some DINT))
            ∙ sym (sooner_assoc b.own a.own rest)
            ∙ ap (λ o. sooner o rest) (sooner_comm b.own a.own);
      }

  -- in front of the empty list
  pub puts_done : {best r : Option ℕ} {f : Stmts → Stmts} → Puts vs ls f best r → r ≡ sooner best (first vs ls (f done) (some DINT))
  unfolding T.statement_faults
  puts_done {best} a =
      a.is
      ∙ ap (sooner best)
      (sym (a.front done (λ sel. refl) (some DINT) ∙ ap (sooner a.own) soonest_none ∙ sooner_none a.own))

-- ---- the places of the FORs around

pub names_kept : (t old new : List ℕ) (n : ℕ) → Kept n old new → names_to t new n ≡ names_to t old n
unfolding names_to
names_kept t old new zero h = refl
names_kept t old new (suc n) h =
    ap₂ (λ s ss. s ∷ ss) (ap (name_at t) (h n (omega arith))) (names_kept t old new n (λ k l. h k (omega arith)))

-- the first n of them, handed on
pub names_part : (t loops : List ℕ) (n : ℕ) → n ≤ length loops → around t (take n loops) ≡ names_to t loops n
names_part t loops n l =
    let s : length (take n loops) ≡ n = omega (arith, length-take n loops) in
    ap (names_to t (take n loops)) s ∙ names_kept t loops (take n loops) n (λ k b. get_or-take n loops k 0 b)

-- one more
pub names_more : (t loops : List ℕ) (n v : ℕ) → n < length loops
    → names_to t (set loops n v) (n + 1) ≡ name_at t v ∷ names_to t loops n
unfolding names_to
names_more t loops n v l =
    rw add-one
    (ap₂ (λ s ss. s ∷ ss) (ap (name_at t) (get_or-set_same loops n v 0 l))
    (names_kept t loops (set loops n v) n (λ k b. get_or-set_other loops n k v 0 (λ e. omega arith))))

-- ---- walks

-- the variables of the text t in the table, and the node i of the pool p
module _ (t q tab loops after p : List ℕ) (depth i : ℕ) (best r : Option ℕ) where
  abbrev vs : List Variable
  vs = variables_in t q tab

  abbrev ls : List Name
  ls = names_to t loops depth

  -- ---- a node by what it is

  pub walk_none : IsStatement p i F.Nothing → Walks t q tab loops loops depth (front_at t p i) best best
  walk_none v = record { kept = λ k l. refl; puts = puts_as (v.list t) (puts_none best) }

  -- it puts what f does
  pub walk_as : (f : Stmts → Stmts) → Walks t q tab loops after depth f best r → ((k : Stmts) → front_at t p i k ≡ f k)
      → Walks t q tab loops after depth (front_at t p i) best r
  walk_as f a e = record { kept = a.kept; puts = puts_as e a.puts }

  pub walk_assign : IsStatement p i F.Assignment → depth ≤ length loops → (x : Option ℕ) → x ≡ soonest (assign_at vs (around t (take depth loops)) t p i)
      → r ≡ sooner best x → Walks t q tab loops loops depth (front_at t p i) best r
  unfolding T.statement_faults
  walk_assign v s x e h =
      let f : Stmts → Stmts = λ k. assign (expr_at t p (child_of p i 1)) (place_at p i) (expr_at t p (child_of p i 2)) k in
      let own : x ≡ soonest (assign_at vs ls t p i) = e ∙ ap (λ ns. soonest (assign_at vs ns t p i)) (names_part t loops depth s) in
      record {
        kept = λ k l. refl;
        puts = puts_as (v.list t) (puts_one f (assign_at vs ls t p i) (λ k sel. refl) (h ∙ ap (sooner best) own));
      }

  -- the second child first
  pub walk_list : IsStatement p i F.List → (mid : List ℕ) (x : Option ℕ)
      → Walks t q tab loops mid depth (front_at t p (child_of p i 2)) best x → Walks t q tab mid after depth (front_at t p (child_of p i 1)) x r
      → Walks t q tab loops after depth (front_at t p i) best r
  walk_list v mid x second first =
      record {
        kept = λ k l. first.kept k l ∙ second.kept k l;
        puts = puts_as (v.list t)
            (puts_two second.puts
            (subst (λ ns. Puts vs ns (front_at t p (child_of p i 1)) x r) (names_kept t loops mid depth second.kept) first.puts));
      }

  -- ---- the statements that hold lists

  abbrev faults : Stmts → List ℕ
  faults k = T.statement_faults vs k ls (some DINT)

  -- a list at a node, walked after the places became mid
  list_is : (mid last : List ℕ) (j : ℕ) (x y : Option ℕ) → Kept depth loops mid → Walks t q tab mid last depth (front_at t p j) x y
      → y ≡ sooner x (soonest (faults (front_at t p j done)))
  list_is mid last j x y k a =
      puts_done a.puts
      ∙ ap (λ ns. sooner x (soonest (T.statement_faults vs (front_at t p j done) ns (some DINT)))) (names_kept t loops mid depth k)

  pub choice_walk : depth ≤ length loops → (c : Option ℕ) → c ≡ soonest (condition_at vs (around t (take depth loops)) t p i)
      → (mid : List ℕ) (x y : Option ℕ) → y ≡ sooner best c
      → Walks t q tab loops mid depth (front_at t p (child_of p (child_of p i 2) 1)) y x
      → Walks t q tab mid after depth (front_at t p (child_of p (child_of p i 2) 2)) x r
      → Walks t q tab loops after depth (choice_front t p i) best r
  unfolding T.statement_faults
  choice_walk s c e mid x y ey first second =
      let own = condition_at vs ls t p i in
      let list : ℕ → List ℕ = λ n. faults (front_at t p n done) in
      let a = child_of p (child_of p i 2) 1 in
      let b = child_of p (child_of p i 2) 2 in
      let hc : c ≡ soonest own = e ∙ ap (λ ns. soonest (condition_at vs ns t p i)) (names_part t loops depth s) in
      record {
        kept = λ k l. second.kept k l ∙ first.kept k l;
        puts = puts_one (choice_front t p i) (own ++ list a ++ list b) (λ k sel. refl)
            (and_then best x r (own ++ list a) (list b)
            (and_then best y x own (list a) (ey ∙ ap (sooner best) hc) (list_is loops mid a y x (λ k l. refl) first))
            (list_is mid after b x r first.kept second));
      }

  -- what the labels hear
  heard_is : (s : Settled) (ps : List ℕ) (u : Ty) → Settles s (record { faults = ps; ty = u }) → heard s ≡ T.label_type ps u
  heard_is s ps u h = go ps s.first h.first
    where
      go : (qs : List ℕ) (n : Option ℕ) → n ≡ soonest qs → elim n as (λ _. Math.Option Ty) [ None ↦ some s.ty | Some q ↦ none ] ≡ T.label_type qs u
      go [] None e = ap some h.ty
      go [] (Some n) e = let z = e ∙ soonest_none in cc
      go (q ∷ qs) None e = let z = soonest_empty (q ∷ qs) (sym e) in cc
      go (q ∷ qs) (Some n) e = refl

  pub select_walk : depth ≤ length loops → (s : Settled) → SelectorAt vs t (take depth loops) p i s
      → (x : Option ℕ) → x ≡ sooner best s.first
      → WalksArms t q tab loops after depth (arms_at t p (child_of p i 2)) s x r → Walks t q tab loops after depth (select_front t p i) best r
  unfolding T.statement_faults
  select_walk l s h x ex a =
      let own = selector_at vs ls t p i in
      let u = (T.settled vs ls DINT (expr_at t p (child_of p i 1))).ty in
      let g : Settles s (record { faults = own; ty = u }) =
      subst (λ ns. Settles s (record { faults = selector_at vs ns t p i; ty = (T.settled vs ns DINT (expr_at t p (child_of p i 1))).ty })) (names_part t loops depth l) h in
      let arms = arms_at t p (child_of p i 2) in
      let list = T.statement_faults vs arms ls (T.label_type own u) in
      let hr : r ≡ sooner x (soonest list) = a.is ∙ ap (λ sel. sooner x (soonest (T.statement_faults vs arms ls sel))) (heard_is s own u g) in
      record {
        kept = a.kept;
        puts = puts_one (select_front t p i) (own ++ list) (λ k sel. refl) (and_then best x r own list (ex ∙ ap (sooner best) g.first) hr);
      }

  pub loop_walk : depth < length loops → (h : Option ℕ) → h ≡ soonest (head_at vs (around t (take depth loops)) t p i)
      → (v : ℕ) (x : Option ℕ) → v ≡ place_at p (child_of p i 1) → x ≡ sooner best h
      → Walks t q tab (set loops depth v) after (depth + 1) (front_at t p (child_of p i 2)) x r
      → Walks t q tab loops after depth (loop_front t p i) best r
  unfolding T.statement_faults
  loop_walk l h e v x ev ex a =
      let own = head_at vs ls t p i in
      let body = front_at t p (child_of p i 2) done in
      let list = T.statement_faults vs body (name_at t (place_at p (child_of p i 1)) ∷ ls) (some DINT) in
      let hh : h ≡ soonest own = e ∙ ap (λ ns. soonest (head_at vs ns t p i)) (names_part t loops depth (omega arith)) in
      let hr : r ≡ sooner x (soonest list) =
      puts_done a.puts
      ∙ ap (λ ns. sooner x (soonest (T.statement_faults vs body ns (some DINT)))) (names_more t loops depth v l ∙ ap (λ w. name_at t w ∷ ls) ev) in
      record {
        kept = λ k s. a.kept k (omega arith) ∙ get_or-set_other loops depth k v 0 (λ d. omega arith);
        puts = puts_one (loop_front t p i) (own ++ list) (λ k sel. refl) (and_then best x r own list (ex ∙ ap (sooner best) hh) hr);
      }

  -- ---- arms

  module _ (s : Settled) where
    pub no_arms_lem : IsArms p i A.Nothing → WalksArms t q tab loops loops depth (arms_at t p i) s best best
    unfolding T.statement_faults
    no_arms_lem v =
        record {
          kept = λ k l. refl;
          is = sym (ap (λ a. sooner best (soonest (T.statement_faults vs a ls (heard s)))) (v.list t) ∙ ap (sooner best) soonest_none ∙ sooner_none best);
        }

    -- the ELSE list hears no selector
    pub arms_else : IsArms p i A.Otherwise → Walks t q tab loops after depth (front_at t p (child_of p i 1)) best r
        → WalksArms t q tab loops after depth (arms_at t p i) s best r
    unfolding T.statement_faults
    arms_else v w =
        record {
          kept = w.kept;
          is = puts_done w.puts
              ∙ ap (sooner best)
              (w.puts.front done (λ sel. refl) (some DINT)
              ∙ sym (w.puts.front done (λ sel. refl) (heard s))
              ∙ ap (λ k. soonest (T.statement_faults vs k ls (heard s))) (sym (v.list t)));
        }

    pub arms_more : IsArms p i A.Arm → (mid : List ℕ) (x y : Option ℕ)
        → x ≡ sooner best (soonest (T.labels_faults (heard s) (labels_at p (child_of p i 1))))
        → Walks t q tab loops mid depth (front_at t p (child_of p i 2)) x y → WalksArms t q tab mid after depth (arms_at t p (child_of p i 3)) s y r
        → WalksArms t q tab loops after depth (arms_at t p i) s best r
    unfolding T.statement_faults
    arms_more v mid x y ex list more =
        let own = T.labels_faults (heard s) (labels_at p (child_of p i 1)) in
        let fa = faults (front_at t p (child_of p i 2) done) in
        let next = arms_at t p (child_of p i 3) in
        let fb = T.statement_faults vs next ls (heard s) in
        let hr : r ≡ sooner y (soonest fb) =
        more.is ∙ ap (λ ns. sooner y (soonest (T.statement_faults vs next ns (heard s)))) (names_kept t loops mid depth list.kept) in
        record {
          kept = λ k l. more.kept k l ∙ list.kept k l;
          is = and_then best y r (own ++ fa) fb (and_then best x y own fa ex (puts_done list.puts)) hr
              ∙ sym (ap (λ k. sooner best (soonest (T.statement_faults vs k ls (heard s)))) (v.list t));
        }
