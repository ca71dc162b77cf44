-- The cells and the declared values of the variables of a table: as many for each variable as it has cells.
use mathlib.Core.Path.{◌≡◌, refl, sym, ap, ◌∙◌}
use mathlib.Core.List.{List, [], ◌∷◌, ◌++◌, map, append-nil, append_assoc, map-append}
use Prim.Native.Nat.{ℕ, zero, suc, ◌+◌, ◌/◌}
use native.Mathlib.Numerals.{add-one}
use native.Mathlib.Omega.{arith}
use lib.IntN.{ℤ}
use lib.ListN.{length, replicate, length-append, length-replicate, length-map}
use Rattle.paper.specs.declared.Kind.TheVariants.{Input}
use Rattle.paper.specs.Names.{Info, Variable, size_of, same_kind, cells_of}
use Rattle.paper.specs.Tables.{infos_of}
use Rattle.paper.specs.Judge.{initial_value, start_of}
use Rattle.tree.specs.Nodes.{word_of}
use Rattle.variables.specs.Table.{bounds_in, node_in, entry_at, listed_to, listed_in}
use Rattle.cells.specs.Pour.{Poured, Filled}
use Rattle.cells.specs.Numbers.{number_of, CellsIn, StartIn}
use Rattle.cells.proofs.Pours.{pour_over, poured_start, poured_more, poured_front}
use Rattle.cells.proofs.Infos.{infos_back}

-- ---- one after another

-- a list that has for each variable as many of one element as the variable has cells
abbrev Blocks : {A : Type 0} → (List Variable → List A) → (Variable → A) → Type 0
Blocks {A} c f =
    (c [] ≡ []) × ((v : Variable) (vs : List Variable) → c (v ∷ vs) ≡ replicate (size_of v.declared.bounds) (f v) ++ c vs)

abbrev pub info_in : Variable → Info
info_in v = record { ty = v.declared.ty; is_input = same_kind Input v.declared.kind }

abbrev pub numbers_of : List Variable → List ℕ
numbers_of vs = map number_of (cells_of vs)

pub starts : Blocks start_of (λ v. initial_value v.declared.initial)
unfolding start_of
starts = (refl, λ v vs. refl)

cells : Blocks cells_of info_in
unfolding cells_of
cells = (refl, λ v vs. refl)

map_replicate : {A B : Type 0} (f : A → B) (n : ℕ) (a : A) → map f (replicate n a) ≡ replicate n (f a)
map_replicate f zero a = refl
map_replicate f (suc n) a = ap (λ l. f a ∷ l) (map_replicate f n a)

pub numbers : Blocks numbers_of (λ v. number_of (info_in v))
unfolding cells_of
numbers = (
  refl,
  λ v vs.
      map-append number_of (replicate (size_of v.declared.bounds) (info_in v)) (cells_of vs)
      ∙ ap (λ l. l ++ numbers_of vs) (map_replicate number_of (size_of v.declared.bounds) (info_in v)),
)

module _ {A : Type 0} (c : List Variable → List A) (f : Variable → A) (h : Blocks c f) where
  blocks_more : (vs : List Variable) (v : Variable) → c (vs ++ v ∷ []) ≡ c vs ++ replicate (size_of v.declared.bounds) (f v)
  blocks_more [] v = h.1 v [] ∙ ap (λ l. replicate (size_of v.declared.bounds) (f v) ++ l) h.0 ∙ append-nil _ ∙ sym (ap (λ l. l ++ replicate (size_of v.declared.bounds) (f v)) h.0)
  blocks_more (w ∷ vs) v =
      let b : List A = replicate (size_of w.declared.bounds) (f w) in
      h.1 w (vs ++ v ∷ [])
      ∙ ap (λ l. b ++ l) (blocks_more vs v)
      ∙ sym (append_assoc b (c vs) _)
      ∙ ap (λ l. l ++ replicate (size_of v.declared.bounds) (f v)) (sym (h.1 w vs))

  blocks_length : (vs : List Variable) → length (c vs) ≡ length (cells_of vs)
  blocks_length [] = ap length h.0 ∙ sym (ap length cells.0)
  blocks_length (v ∷ vs) =
      let n : ℕ = size_of v.declared.bounds in
      let r : length (c vs) ≡ length (cells_of vs) = blocks_length vs in
      omega (
        arith,
        ap length (h.1 v vs),
        ap length (cells.1 v vs),
        length-append (replicate n (f v)) (c vs),
        length-append (replicate n (info_in v)) (cells_of vs),
        length-replicate n (f v),
        length-replicate n (info_in v),
      )

-- ---- of a table

abbrev variable_at : List ℕ → List ℕ → List ℕ → ℕ → Variable
variable_at t p tab k = record { declared = entry_at t p tab k; first = word_of tab k 2 }

-- those of the first k variables are written, whatever the text
abbrev pub PouredTo : {A : Type 0} → (List Variable → List A) → List ℕ → List ℕ → ℕ → List A → List A → ℕ → Type 0
PouredTo c p tab k old new r = (text : List ℕ) → Poured (c (listed_to text p tab k)) old new r

module _ {A : Type 0} (c : List Variable → List A) (f : Variable → A) (h : Blocks c f) (p tab : List ℕ) (old : List A) where
  pub table_start : PouredTo c p tab 0 old old 0
  unfolding listed_to
  table_start text = rw h.0 (poured_start old)

  pub table_more : (k at n r j : ℕ) (x : A) (v new : List A) → PouredTo c p tab k old v at → Filled at n x v new r → j ≡ node_in p (word_of tab k 1)
      → n ≡ size_of (bounds_in p j) → ((text : List ℕ) → j ≡ node_in p (word_of tab k 1) → x ≡ f (variable_at text p tab k)) → PouredTo c p tab (k + 1) old new r
  unfolding listed_to
  table_more k at n r j x v new g l e m q text =
      rw (add-one k, blocks_more c f h (listed_to text p tab k) (variable_at text p tab k), ← q text e, ← e, ← m)
      (poured_more (c (listed_to text p tab k)) old v new at n r x (g text) l)

pub numbers_end : (p tab old new : List ℕ) (r : ℕ) → PouredTo numbers_of p tab (length tab / 4) old new r → CellsIn p tab old new r
unfolding listed_in
numbers_end p tab old new r h text =
    let is : List Info = cells_of (listed_to text p tab (length tab / 4)) in
    record {
      poured = h text;
      count = λ l. omega (arith, (h text).behind, length-map is number_of);
      cells = λ l. ap infos_of (poured_front (map number_of is) old new r (h text) (omega (arith, length-map is number_of))) ∙ infos_back is;
      front = λ l. (h text).poured ∙ pour_over (map number_of is) old (omega (arith, length-map is number_of));
    }

pub starts_end : (p tab : List ℕ) (old new : List ℤ) (r : ℕ) → PouredTo start_of p tab (length tab / 4) old new r → StartIn p tab old new
unfolding listed_in
starts_end p tab old new r h text =
    let vs : List Variable = listed_to text p tab (length tab / 4) in
    record {
      poured = (h text).poured;
      front = λ l. (h text).poured ∙ pour_over (start_of vs) old (omega (arith, blocks_length start_of _ starts vs));
    }
