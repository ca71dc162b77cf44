-- Variables added to the table, one after the other.
use mathlib.Core.Path.{◌≡◌, refl, sym, ap, ap₂, ◌∙◌}
use mathlib.Core.Bool.{Bool, true, false, cond}
use mathlib.Core.List.{List, [], ◌∷◌, ◌++◌, append_assoc, append-nil}
use Prim.Native.Nat.{ℕ, zero, suc, ◌+◌, ◌-◌, ◌*◌, ◌/◌, ◌%◌, ◌≤◌, ◌<◌}
use native.Mathlib.Numerals.{add-one}
use native.Mathlib.Omega.{arith}
use denote.Enum.Bare.{sameb}
use borrow.Author.Tests.{ltb-true, ltb-false, eqb-true, eqb-false, le-leb}
use lib.Dec.{eqb, ltb}
use lib.ListN.{length, get_or, take, length-append, length-take}
use lib.Seq.{take_all, take-append-le, take-take}
use Rattle.paper.specs.contracts.Kind.{the_type}
use Rattle.paper.specs.declared.Kind.{Kind}
use Rattle.paper.specs.declared.Kind.TheVariants.{Input, Output, Other}
use Rattle.paper.specs.Source.{Name, Declared}
use Rattle.paper.specs.Reading.{declare}
use Rattle.paper.specs.Names.{same_kind, size_of, of_kind, printed, placed}
use Rattle.tree.specs.Nodes.{word_of, child_of, written}
use Rattle.tree.specs.Trees.{name_at, place_at, names_at, declared_at}
use Rattle.tree.proofs.Frames.{names_nil, declared_nil}
use Rattle.tree.proofs.Puts.{written_same, written_word0, written_word1, written_word2, written_word3}
use Rattle.variables.specs.Table.{node_in, section_at, type_at, bounds_in, initial_in, key_of, name_in, entry_at, entries}
use Rattle.variables.proofs.Keys.{named, name_kept}
use Rattle.names.specs.declared.table.Filled.{Filled}
use Rattle.names.specs.Walks.{Kept}
use Rattle.names.specs.Declares.{cells_with}
use Rattle.names.specs.Fills.{Adds, Celled, Fills, FillsNames, FillsKind, FillsAll, firsts_of}
use Rattle.names.proofs.Nodes.{declare_append, declare_none, declare_one, same_kinds, kind_append, kind_same, kind_other, names_are, declared_are}
use Rattle.names.proofs.Declaring.{cells_append}

-- ---- a list cut to a length

take_again : {A : Type 0} (n : ℕ) (xs ys : List A) → take n (take n xs ++ ys) ≡ take n (xs ++ ys)
take_again zero xs ys = refl
take_again (suc n) [] ys = refl
take_again (suc n) (x ∷ xs) ys = ap (λ zs. x ∷ zs) (take_again n xs ys)

-- ---- entries

-- the entry of a name at a place, by the node of the declaration
abbrev pub entry_of : List ℕ → ℕ → Name → ℕ → Declared
entry_of p q s j =
    record {
      place = q;
      name = s;
      kind = section_at p j;
      ty = type_at p j;
      bounds = bounds_in p j;
      initial = initial_in p j;
    }

module _ (t p : List ℕ) where
  pub entries_length : (tab : List ℕ) (n : ℕ) → length (entries t p tab n) ≡ n
  unfolding entries
  entries_length tab zero = refl
  entries_length tab (suc n) = simp length-append (omega (arith, entries_length tab n))

  pub entries_kept : (n : ℕ) (old new : List ℕ) → Kept (4 * n) old new → entries t p new n ≡ entries t p old n
  unfolding entries
  entries_kept zero old new h = refl
  entries_kept (suc n) old new h =
      ap₂ (λ ds e. ds ++ e ∷ [])
      (entries_kept n old new (λ k l. h k (omega arith)))
      (ap₂ (λ q w. entry_of p q (name_in t new n) (node_in p w)) (h (4 * n + 0) (omega arith)) (h (4 * n + 1) (omega arith))
      ∙ ap (λ s. entry_of p (word_of old n 0) s (node_in p (word_of old n 1)))
      (name_kept t old new n (h (4 * n + 0) (omega arith)) (h (4 * n + 3) (omega arith))))

  entries_more : (tab : List ℕ) (n : ℕ) → entries t p tab (n + 1) ≡ entries t p tab n ++ entry_at t p tab n ∷ []
  unfolding entries
  entries_more tab n = ap (entries t p tab) (add-one n)

  cells_more : (n : ℕ) (ds : List Declared) (d : Declared) → cells_with n (ds ++ d ∷ []) ≡ cells_with n ds + size_of d.bounds
  unfolding cells_with
  cells_more n ds d = cells_append n ds (d ∷ [])

  -- fewer of them
  pub entries_take : (tab : List ℕ) (n k : ℕ) → k ≤ n → take k (entries t p tab n) ≡ entries t p tab k
  unfolding entries
  entries_take tab zero k l = let z : k ≡ 0 = omega arith in rw z
  entries_take tab (suc n) k l = go (ltb n k) refl (λ s. entries_take tab n k s)
    where
      go : (b : Bool) → ltb n k ≡ b → (k ≤ n → take k (entries t p tab n) ≡ entries t p tab k) → take k (entries t p tab (suc n)) ≡ entries t p tab k
      go true e h =
          let is : k ≡ suc n = omega (arith, ltb-true n k e) in
          rw is (take_all (suc n) (entries t p tab (suc n)) (omega (arith, entries_length tab (suc n))))
      go false e h =
          let s : k ≤ n = ltb-false n k e in
          take-append-le k (entries t p tab n) (entry_at t p tab n ∷ []) (omega (arith, entries_length tab n)) ∙ h s

-- the first cell of the k-th of some variables
first_at : (n : ℕ) (ds : List Declared) (k : ℕ) → k < length ds → get_or (firsts_of (placed n ds)) k 0 ≡ cells_with n (take k ds)
unfolding placed cells_with
first_at n [] k l = absurd (omega arith)
first_at n (d ∷ ds) zero l = refl
first_at n (d ∷ ds) (suc k) l = first_at (n + size_of d.bounds) ds k (omega arith)

-- ---- one entry written

module _ (t p old : List ℕ) (n place j cells : ℕ) (l : n < length old / 4) (fits : 4 * j + 4 ≤ length p) where
  abbrev key : ℕ
  key = key_of (name_at t place)

  abbrev wrote : List ℕ
  wrote = written old n place j cells key

  before_kept : Kept (4 * n) old wrote
  before_kept k s = written_same old n place j cells key (n - 1) (omega arith) k (omega arith)

  written_before : (k : ℕ) → k ≤ n → entries t p wrote k ≡ entries t p old k
  written_before k s = entries_kept t p k old wrote (λ i b. before_kept i (omega arith))

  -- its key is that of its name
  written_name : name_in t wrote n ≡ name_at t place
  written_name = named t wrote n place (written_word0 old n place j cells key (omega arith)) (written_word3 old n place j cells key (omega arith))

  written_entry : entry_at t p wrote n ≡ entry_of p place (name_at t place) j
  written_entry =
      ap₂ (λ q w. entry_of p q (name_in t wrote n) (node_in p w)) (written_word0 old n place j cells key (omega arith)) (written_word1 old n place j cells key (omega arith))
      ∙ ap₂ (λ s b. entry_of p place s (cond b j 0)) written_name (le-leb (4 * j + 4) (length p) fits)

  written_entries : entries t p wrote (n + 1) ≡ entries t p old n ++ entry_of p place (name_at t place) j ∷ []
  written_entries =
      entries_more t p wrote n ∙ ap₂ (λ ds e. ds ++ e ∷ []) (written_before n (omega arith)) written_entry

  written_cells : (size rest : ℕ) → size ≡ size_of (bounds_in p j) → cells ≡ cells_with 0 (entries t p old n) % 65536
      → rest ≡ (cells + size) % 65536 → rest ≡ cells_with 0 (entries t p wrote (n + 1)) % 65536
  written_cells size rest z c r =
      let e : cells_with 0 (entries t p wrote (n + 1)) ≡ cells_with 0 (entries t p old n) + size_of (bounds_in p j) =
      ap (cells_with 0) written_entries ∙ cells_more t p 0 (entries t p old n) (entry_of p place (name_at t place) j) in
      omega arith

  written_firsts : cells ≡ cells_with 0 (entries t p old n) % 65536
      → ((k : ℕ) → k < n → word_of old k 2 ≡ cells_with 0 (entries t p old k) % 65536)
      → (k : ℕ) → k < n + 1 → word_of wrote k 2 ≡ cells_with 0 (entries t p wrote k) % 65536
  written_firsts c h k s = go (eqb k n) refl
    where
      go : (b : Bool) → eqb k n ≡ b → word_of wrote k 2 ≡ cells_with 0 (entries t p wrote k) % 65536
      go true e =
          rw (eqb-true k n e)
          (written_word2 old n place j cells key (omega arith) ∙ c ∙ ap (λ ds. cells_with 0 ds % 65536) (sym (written_before n (omega arith))))
      go false e =
          let s : k < n = omega (arith, eqb-false k n e) in
          before_kept (4 * k + 2) (omega arith) ∙ h k s ∙ ap (λ ds. cells_with 0 ds % 65536) (sym (written_before k (omega arith)))

-- ---- steps

pub adds_most : (t old new : List ℕ) (place j size : ℕ) (f r : Filled) → f.count ≤ length old / 4 → Adds t old new place j size f r → r.count ≤ length old / 4
adds_most t old new place j size f r l a = go (ltb f.count (length old / 4)) refl
  where
    go : (b : Bool) → ltb f.count (length old / 4) ≡ b → r.count ≤ length old / 4
    go true e = let room : f.count < length old / 4 = ltb-true _ _ e in omega (arith, a.counted room)
    go false e = rw ((a.full (ltb-false _ _ e)).1) l

module _ (t p : List ℕ) where
  pub fills_none : (tab : List ℕ) (f : Filled) (more : List Declared) → f.count ≤ length tab / 4 → more ≡ [] → Fills t p tab tab f f more
  fills_none tab f more l none =
      record {
        listed =
            let n = entries_length t p tab f.count in
            sym (ap (λ ds. take (length tab / 4) (entries t p tab f.count ++ ds)) none
            ∙ ap (take (length tab / 4)) (append-nil (entries t p tab f.count))
            ∙ take_all (length tab / 4) (entries t p tab f.count) (omega arith));
        celled = λ c. c;
      }

  pub fills_then : (old mid new : List ℕ) (f m r : Filled) (es gs all : List Declared) → length mid ≡ length old
      → all ≡ es ++ gs → Fills t p old mid f m es → Fills t p mid new m r gs → Fills t p old new f r all
  fills_then old mid new f m r es gs all same is x y =
      record {
        listed =
            let ds = entries t p old f.count in
            y.listed
            ∙ ap₂ (λ n xs. take (n / 4) (xs ++ gs)) same x.listed
            ∙ take_again (length old / 4) (ds ++ es) gs
            ∙ ap (take (length old / 4)) (append_assoc ds es gs ∙ ap (λ xs. ds ++ xs) (sym is));
        celled = λ c. y.celled (x.celled c);
      }

  pub fills_one : (old new : List ℕ) (place j size : ℕ) (f r : Filled) (es : List Declared) → f.count ≤ length old / 4
      → 4 * j + 4 ≤ length p → size ≡ size_of (bounds_in p j) → es ≡ entry_of p place (name_at t place) j ∷ []
      → Adds t old new place j size f r → Fills t p old new f r es
  fills_one old new place j size f r es l fits z is a = go (ltb f.count (length old / 4)) refl
    where
      go : (b : Bool) → ltb f.count (length old / 4) ≡ b → Fills t p old new f r es
      go true e =
          let room : f.count < length old / 4 = ltb-true _ _ e in
          record {
            listed =
                let n = entries_length t p old f.count in
                ap₂ (entries t p) (a.more room) (a.counted room)
                ∙ written_entries t p old f.count place j f.cells room fits
                ∙ sym (ap (λ ds. take (length old / 4) (entries t p old f.count ++ ds)) is
                ∙ take_all (length old / 4) (entries t p old f.count ++ entry_of p place (name_at t place) j ∷ []) (simp length-append (omega arith)));
            celled = λ c.
                rw (a.more room)
                record {
                  firsts = rw (a.counted room) (written_firsts t p old f.count place j f.cells room fits c.next c.firsts);
                  next = rw (a.counted room) (written_cells t p old f.count place j f.cells room fits size r.cells z c.next (a.celled room));
                };
          }
      go false e =
          let full : length old / 4 ≤ f.count = ltb-false _ _ e in
          let h = a.full full in
          rw (h.0, h.1)
          record {
            listed =
                let n = entries_length t p old f.count in
                sym (take-append-le (length old / 4) (entries t p old f.count) es (omega arith)
                ∙ take_all (length old / 4) (entries t p old f.count) (omega arith));
            celled = λ c. c;
          }

  pub fills_same : (old new : List ℕ) (f r : Filled) (es gs : List Declared) → gs ≡ es → Fills t p old new f r es → Fills t p old new f r gs
  fills_same old new f r es gs is x =
      record {
        listed = x.listed ∙ ap (λ ds. take (length old / 4) (entries t p old f.count ++ ds)) (sym is);
        celled = x.celled;
      }

  -- ---- nodes

  pub fills_no_kind : (tab : List ℕ) (k : Kind) (f : Filled) → f.count ≤ length tab / 4 → FillsKind t p tab tab 0 k f f
  unfolding of_kind
  fills_no_kind tab k f l = fills_none tab f _ l (ap (of_kind k) (declared_nil t p))

  -- the declarations before and one more, of the kind k
  module _ (old mid : List ℕ) (d : ℕ) (k s : Kind) (is : Bool) (f m : Filled) (some : 0 < d) (e : s ≡ section_at p (child_of p d 2))
      (h : is ≡ sameb the_type s k) where
    abbrev a : ℕ
    a = child_of p d 1

    abbrev j : ℕ
    j = child_of p d 2

    abbrev i : ℕ
    i = child_of p j 1

    abbrev own : List Declared
    own = declare (section_at p j) (type_at p j) (bounds_in p j) (initial_in p j) (names_at t p i)

    kinds_are : of_kind k (declared_at t p d) ≡ of_kind k (declared_at t p a) ++ of_kind k own
    kinds_are = ap (of_kind k) (declared_are t p d some) ∙ kind_append k (declared_at t p a) own

    same_section : same_kind k (section_at p j) ≡ is
    same_section = ap (same_kind k) (sym e) ∙ sym (h ∙ same_kinds s k)

    pub fills_kind : (new : List ℕ) (size : ℕ) (r : Filled) → length mid ≡ length old → is ≡ true → 4 * j + 4 ≤ length p
        → size ≡ size_of (bounds_in p j) → FillsKind t p old mid a k f m → FillsNames t p mid new i j size m r → FillsKind t p old new d k f r
    fills_kind new size r same s fits z x y =
        fills_then old mid new f m r _ _ _ same
        (kinds_are ∙ ap (λ ds. of_kind k (declared_at t p a) ++ ds)
        (kind_same k (section_at p j) (type_at p j) (bounds_in p j) (initial_in p j) (names_at t p i) (same_section ∙ s)))
        x (y p fits z)

    pub fills_other : is ≡ false → FillsKind t p old mid a k f m → FillsKind t p old mid d k f m
    fills_other s x =
        fills_same old mid f m _ _
        (kinds_are ∙ ap (λ ds. of_kind k (declared_at t p a) ++ ds)
        (kind_other k (section_at p j) (type_at p j) (bounds_in p j) (initial_in p j) (names_at t p i) (same_section ∙ s))
        ∙ append-nil (of_kind k (declared_at t p a)))
        x

  -- all three kinds, from an empty table
  pub fills_all : (old one two new : List ℕ) (d : ℕ) (a b r : Filled) → length one ≡ length old → length two ≡ length one
      → FillsKind t p old one d Input (record { count = 0; cells = 0 }) a → FillsKind t p one two d Output a b → FillsKind t p two new d Other b r → FillsAll t p old new d r
  unfolding printed entries cells_with
  fills_all old one two new d a b r same like x y z =
      let none : Filled = record { count = 0; cells = 0 } in
      let two-kinds = fills_then old one two none a b _ _ (of_kind Input (declared_at t p d) ++ of_kind Output (declared_at t p d)) same refl x y in
      let all = fills_then old two new none b r _ _ (printed (declared_at t p d)) (like ∙ same) refl two-kinds z in
      let start : Celled t p old none = record { firsts = λ k l. absurd (omega arith); next = refl } in
      record {
        listed = all.listed;
        firsts = λ k l.
            let ds = printed (declared_at t p d) in
            let room = length old / 4 in
            let n = sym (entries_length t p new r.count) ∙ ap length all.listed ∙ length-take room ds in
            (all.celled start).firsts k l
            ∙ ap (λ xs. cells_with 0 xs % 65536)
            (sym (entries_take t p new r.count k (omega arith)) ∙ ap (take k) all.listed ∙ take-take k room ds (omega (arith, n)))
            ∙ ap (λ c. c % 65536) (sym (first_at 0 ds k (omega (arith, n))));
        cells = (all.celled start).next;
      }

-- ---- names

-- the names before and one more, of the declaration j
pub fills_names : (t o old mid new : List ℕ) (i q j size : ℕ) (f m r : Filled) → 0 < i → q ≡ place_at o i → length mid ≡ length old
    → m.count ≤ length old / 4 → FillsNames t o old mid (child_of o i 1) j size f m → Adds t mid new q j size m r → FillsNames t o old new i j size f r
fills_names t o old mid new i q j size f m r some w same l x y p fits z =
    let k = section_at p j in
    let ty = type_at p j in
    let b = bounds_in p j in
    let v = initial_in p j in
    fills_then t p old mid new f m r _ _ _ same
    (ap (declare k ty b v) (names_are t o i q some w)
    ∙ declare_append k ty b v (names_at t o (child_of o i 1)) (record { place = q; name = name_at t q } ∷ []))
    (x p fits z)
    (fills_one t p mid new q j size m r _ (rw same l) fits z (declare_one k ty b v (record { place = q; name = name_at t q })) y)

pub fills_no_names : (t o tab : List ℕ) (j size : ℕ) (f : Filled) → f.count ≤ length tab / 4 → FillsNames t o tab tab 0 j size f f
fills_no_names t o tab j size f l p fits z =
    fills_none t p tab f _ l
    (ap (declare (section_at p j) (type_at p j) (bounds_in p j) (initial_in p j)) (names_nil t o) ∙ declare_none (section_at p j) (type_at p j) (bounds_in p j) (initial_in p j))
