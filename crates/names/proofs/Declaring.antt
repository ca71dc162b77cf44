-- Declarations one after the other, and one name more.
use mathlib.Core.Path.{◌≡◌, refl, sym, ap, ap₂, ◌∙◌}
use mathlib.Core.Bool.{Bool, true, false, ◌||◌}
use mathlib.Core.List.{List, [], ◌∷◌, ◌++◌, append_assoc, append-nil}
use Prim.Native.Nat.{ℕ, suc, ◌+◌, ◌-◌, ◌≤◌, ◌<◌, min}
use native.Mathlib.Omega.{arith}
use borrow.Author.Tests.{ltb-true, ltb-false, lt-ltb, le-ltb, eq-eqb, ne_eqb}
use lib.Dec.{eqb, ltb}
use lib.ListN.{length, take, length-append}
use Rattle.paper.specs.Source.{Name, Bounds, single, array, Named, Declared}
use Rattle.paper.specs.Reading.{declare}
use Rattle.paper.specs.Names.{size_of, at, is_among, reversed, declaration_faults}
use Rattle.tree.specs.Nodes.{child_of}
use Rattle.tree.specs.Trees.{name_at, place_at, names_at, declared_at}
use Rattle.tree.proofs.Frames.{names_nil, declared_nil}
use Rattle.variables.specs.Table.{names_to, type_at, section_at, bounds_in, initial_in}
use Rattle.names.specs.declared.declared.Seen.{Seen}
use Rattle.names.specs.Walks.{after}
use Rattle.names.specs.Declares.{names_with, cells_with, SameCells, bad_name, Declares, DeclaresName, DeclaresNames, DeclaresAll}
use Rattle.names.proofs.After.{after_none, then}
use Rattle.names.proofs.Nodes.{declare_append, declare_length, declare_none, declare_one, names_are, declared_are}
use Rattle.names.proofs.Places.{names_take, names_set, kept_set}

-- ---- lists of declarations

pub faults_append : (before : List Name) (n : ℕ) (ds es : List Declared)
    → declaration_faults before n (ds ++ es) ≡ declaration_faults before n ds ++ declaration_faults (names_with before ds) (cells_with n ds) es
unfolding declaration_faults names_with cells_with
faults_append before n [] es = refl
faults_append before n (d ∷ ds) es =
    let m = n + size_of d.bounds in
    let own = at d.place (is_among d.name before || reversed d.bounds || ltb 64 m) in
    ap (λ xs. own ++ xs) (faults_append (d.name ∷ before) m ds es)
    ∙ sym (append_assoc own (declaration_faults (d.name ∷ before) m ds) (declaration_faults (names_with (d.name ∷ before) ds) (cells_with m ds) es))

pub names_append : (before : List Name) (ds es : List Declared) → names_with before (ds ++ es) ≡ names_with (names_with before ds) es
unfolding names_with
names_append before [] es = refl
names_append before (d ∷ ds) es = names_append (d.name ∷ before) ds es

pub cells_append : (n : ℕ) (ds es : List Declared) → cells_with n (ds ++ es) ≡ cells_with (cells_with n ds) es
unfolding cells_with
cells_append n [] es = refl
cells_append n (d ∷ ds) es = cells_append (n + size_of d.bounds) ds es

-- ---- numbers above 64 count as one

more_same : (m n s : ℕ) → SameCells m n → SameCells (m + s) (n + s)
more_same m n s h = omega arith

pub over_same : (m n : ℕ) → SameCells m n → ltb 64 m ≡ ltb 64 n
over_same m n h = go (ltb 64 m) refl
  where
    go : (b : Bool) → ltb 64 m ≡ b → b ≡ ltb 64 n
    go true e = sym (lt-ltb 64 n (omega (arith, ltb-true 64 m e)))
    go false e = sym (le-ltb 64 n (omega (arith, ltb-false 64 m e)))

cells_same : (m n : ℕ) (ds : List Declared) → SameCells m n → SameCells (cells_with m ds) (cells_with n ds)
unfolding cells_with
cells_same m n [] h = h
cells_same m n (d ∷ ds) h = cells_same (m + size_of d.bounds) (n + size_of d.bounds) ds (more_same m n (size_of d.bounds) h)

faults_same : (before : List Name) (m n : ℕ) (ds : List Declared) → SameCells m n → declaration_faults before m ds ≡ declaration_faults before n ds
unfolding declaration_faults
faults_same before m n [] h = refl
faults_same before m n (d ∷ ds) h =
    let s = size_of d.bounds in
    let q = more_same m n s h in
    ap₂ (λ o xs. at d.place (is_among d.name before || reversed d.bounds || o) ++ xs)
    (over_same (m + s) (n + s) q)
    (faults_same (d.name ∷ before) (m + s) (n + s) ds q)

-- a name is judged by the places lent, and by the cells so counted
pub bad_part : (t seen : List ℕ) (n place size c m : ℕ) → n ≤ length seen → c ≡ min 65 m
    → bad_name t (take n seen) (length (take n seen)) place size c ≡ bad_name t seen n place size m
bad_part t seen n place size c m l e =
    ap₂ (λ ns o. is_among (name_at t place) ns || eqb size 0 || o) (names_take t n seen l) (over_same c m (omega arith))

-- ---- steps

pub declares_none : (t old : List ℕ) (s : Seen) → Declares t old old s s []
unfolding declaration_faults names_with cells_with
declares_none t old s =
    record {
      soonest = sym (after_none s.best);
      counted = omega arith;
      named = refl;
      celled = refl;
      kept = λ k l. refl;
    }

pub declares_then : (t old mid new : List ℕ) (s m r : Seen) (ds es : List Declared)
    → Declares t old mid s m ds → Declares t mid new m r es → Declares t old new s r (ds ++ es)
declares_then t old mid new s m r ds es f g =
    let before = names_to t old s.count in
    record {
      soonest =
          then s.best m.best r.best (declaration_faults before s.cells ds) _ _ f.soonest
          (g.soonest
          ∙ ap (after m.best)
          (ap (λ ns. declaration_faults ns m.cells es) f.named
          ∙ faults_same (names_with before ds) m.cells (cells_with s.cells ds) es f.celled))
          (faults_append before s.cells ds es);
      counted = simp length-append (omega (arith, f.counted, g.counted));
      named = g.named ∙ ap (λ ns. names_with ns es) f.named ∙ sym (names_append before ds es);
      celled =
          g.celled
          ∙ cells_same m.cells (cells_with s.cells ds) es f.celled
          ∙ ap (min 65) (sym (cells_append s.cells ds es));
      kept = λ k l. g.kept k (omega (arith, f.counted)) ∙ f.kept k l;
    }

-- bounds are the wrong way round exactly where there are no cells
reversed_none : (b : Bounds) → eqb (size_of b) 0 ≡ reversed b
reversed_none single = refl
reversed_none (array p lo q hi) = go (ltb hi lo) refl
  where
    go : (r : Bool) → ltb hi lo ≡ r → eqb (suc hi - lo) 0 ≡ r
    go true e = eq-eqb (suc hi - lo) 0 (omega (arith, ltb-true hi lo e))
    go false e = ne_eqb (suc hi - lo) 0 (λ z. omega (arith, ltb-false hi lo e, z))

pub declares_one : (t old new : List ℕ) (place size : ℕ) (s r : Seen) (d : Declared) → s.count < length old → d.place ≡ place
    → d.name ≡ name_at t place → size ≡ size_of d.bounds → DeclaresName t old new place size s r → Declares t old new s r (d ∷ [])
unfolding declaration_faults names_with cells_with
declares_one t old new place size s r d l p n z f =
    let names = names_to t old s.count in
    record {
      soonest =
          f.soonest
          ∙ ap (after s.best)
          (rw (z, reversed_none d.bounds, p, n) (sym (append-nil _)));
      counted = f.counted;
      named = ap₂ (names_to t) f.written f.counted ∙ names_set t s.count old place l ∙ ap (λ m. m ∷ names) (sym n);
      celled = omega (arith, f.celled, z);
      kept = rw f.written (kept_set s.count old place);
    }

-- ---- nodes

module _ (t p : List ℕ) where
  pub no_names_lem : (old : List ℕ) (size : ℕ) (s : Seen) → DeclaresNames t p old old 0 size s s
  no_names_lem old size s k ty b v z l = rw (names_nil t p, declare_none k ty b v) (declares_none t old s)

  pub no_declarations : (old : List ℕ) (s : Seen) → DeclaresAll t p old old 0 s s
  no_declarations old s l = rw (declared_nil t p) (declares_none t old s)

  -- the names before and one more
  module _ (old mid new : List ℕ) (i q size : ℕ) (s m r : Seen) (some : 0 < i) (w : q ≡ place_at p i) where
    abbrev a : ℕ
    a = child_of p i 1

    abbrev last : Named
    last = record { place = q; name = name_at t q }

    pub names_more : length mid ≡ length old → DeclaresNames t p old mid a size s m → (m.count < length mid → DeclaresName t mid new q size m r)
        → DeclaresNames t p old new i size s r
    names_more same f g k ty b v z l =
        let h : s.count + (length (names_at t p a) + 1) ≤ length old = simp length-append at (rw (names_are t p i q some w) at l) in
        let first = f k ty b v z (omega arith) in
        let c : m.count ≡ s.count + length (names_at t p a) = first.counted ∙ ap (λ n. s.count + n) (declare_length k ty b v (names_at t p a)) in
        let room : m.count < length mid = omega arith in
        rw (names_are t p i q some w, declare_append k ty b v (names_at t p a) (last ∷ []), declare_one k ty b v last)
        (declares_then t old mid new s m r (declare k ty b v (names_at t p a)) _ first
        (declares_one t mid new q size m r _ room refl refl z (g room)))

  -- the declarations before and one more
  module _ (old mid new : List ℕ) (d size : ℕ) (s m r : Seen) (some : 0 < d) (z : size ≡ size_of (bounds_in p (child_of p d 2))) where
    abbrev earlier : ℕ
    earlier = child_of p d 1

    abbrev j : ℕ
    j = child_of p d 2

    abbrev i : ℕ
    i = child_of p j 1

    pub declarations_more : length mid ≡ length old → DeclaresAll t p old mid earlier s m → DeclaresNames t p mid new i size m r → DeclaresAll t p old new d s r
    declarations_more same before now l =
        let own = declare (section_at p j) (type_at p j) (bounds_in p j) (initial_in p j) (names_at t p i) in
        let n : length own ≡ length (names_at t p i) = declare_length (section_at p j) (type_at p j) (bounds_in p j) (initial_in p j) (names_at t p i) in
        let all : declared_at t p d ≡ declared_at t p earlier ++ own = declared_are t p d some in
        let h : s.count + (length (declared_at t p earlier) + length own) ≤ length old = simp length-append at (rw all at l) in
        let first = before (omega arith) in
        rw all
        (declares_then t old mid new s m r (declared_at t p earlier) own first
        (now (section_at p j) (type_at p j) (bounds_in p j) (initial_in p j) z (omega (arith, first.counted))))
