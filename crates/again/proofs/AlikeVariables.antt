-- Declarations alike have variables alike: found by the same names, with the same cells and starting values, printed alike.
use mathlib.Core.Path.{◌≡◌, refl, sym, ap, ap₂, ◌∙◌, subst, subst₂}
use mathlib.Core.Bool.{Bool, true, false, ◌&&◌, false≢true}
use mathlib.Core.Option.{some, some_inj}
use mathlib.Core.List.{List, ◌∷◌, ◌++◌}
use Prim.Native.Nat.{ℕ, ◌+◌, ◌-◌}
use Prim.Native.String.{String}
use native.Mathlib.Omega.{arith}
use lib.Dec.{leb, ltb}
use lib.IntN.{pos}
use Rattle.paper.specs.declared.Ty.{Ty}
use Rattle.paper.specs.declared.Ty.TheVariants.{Bool as BOOL, Int as INT, Uint as UINT, Dint as DINT, Udint as UDINT}
use Rattle.paper.specs.declared.Kind.{Kind}
use Rattle.paper.specs.declared.Kind.TheVariants.{Input, Output, Other}
use Rattle.paper.specs.declared.Cell.{Cell}
use Rattle.paper.specs.Types.{is_integer, fits}
use Rattle.paper.specs.Words.{same_bytes, bytes}
use Rattle.paper.specs.Source as S
use Rattle.paper.specs.Source.{Name, Bounds, single, array, Initial, nothing, value, Declared}
use Rattle.paper.specs.Names.{Variable, size_of, of_kind, placed, cells_of, find}
use Rattle.paper.specs.Plain as Pl
use Rattle.paper.specs.Printing as P
use Rattle.paper.specs.Judge.{initial_value, start_of}
use Rattle.demands.proofs.Answers.{none_some}
use Rattle.again.proofs.Alike.{SameBounds, single_again, array_again, SameInitial, nothing_again, zero_read, false_read, value_again, flag_again, Alike, Alikes, none_left, next}
use Rattle.again.proofs.Forms.{At, Spelt, alone, element, Form, as_number, as_truth, as_read, as_minus, as_complement, as_binary, as_conversion, Forms, as_done, as_assign, as_choice}

same_size : {b c : Bounds} → SameBounds b c → size_of c ≡ size_of b
same_size single_again = refl
same_size array_again = refl

same_value : {t : Ty} {v w : Initial} → SameInitial t v w → initial_value w ≡ initial_value v
same_value nothing_again = refl
same_value (zero_read i) = refl
same_value (false_read e) = refl
same_value value_again = refl
same_value flag_again = refl

-- ---- cells and starting values

pub cells_alike : {ds es : List Declared} (k : ℕ) → Alikes ds es → cells_of (placed k es) ≡ cells_of (placed k ds)
unfolding cells_of placed
cells_alike k none_left = refl
cells_alike k (next {d = d} {e = e} h hs) =
    rw (same_size h.bounds, h.ty, h.kind, cells_alike (k + size_of d.bounds) hs) refl

pub start_alike : {ds es : List Declared} (k : ℕ) → Alikes ds es → start_of (placed k es) ≡ start_of (placed k ds)
unfolding start_of placed
start_alike k none_left = refl
start_alike k (next {d = d} {e = e} h hs) =
    rw (same_size h.bounds, same_value h.initial, start_alike (k + size_of d.bounds) hs) refl

-- ---- names

-- the same variable, places aside
pub record AlikeVariable (v w : Variable) : Type 0 where
  pub declared : Alike v.declared w.declared
  pub first : w.first ≡ v.first

pub find_alike : {ds es : List Declared} (k : ℕ) (n : Name) (v : Variable) → Alikes ds es → find n (placed k ds) ≡ some v
    → (w : Variable) × (find n (placed k es) ≡ some w) × AlikeVariable v w
unfolding find placed
find_alike k n v none_left h = none_some h
find_alike k n v (next {d = d} {e = e} {ds = ds} {es = es} a as') h =
    go (same_bytes n d.name) refl h (find_alike (k + size_of d.bounds) n v as')
  where
    go : (b : Bool) → same_bytes n d.name ≡ b
        → elim b [ true ↦ some (record { declared = d; first = k }) | false ↦ find n (placed (k + size_of d.bounds) ds) ] ≡ some v
        → (find n (placed (k + size_of d.bounds) ds) ≡ some v → (w : Variable) × (find n (placed (k + size_of d.bounds) es) ≡ some w) × AlikeVariable v w)
        → (w : Variable) × (find n (placed k (e ∷ es)) ≡ some w) × AlikeVariable v w
    go true b h rest =
        rw (ap (same_bytes n) a.name ∙ b, find, ← some_inj.0 h) (record { declared = e; first = k }, refl, record { declared = a; first = refl })
    go false b h rest = rw (ap (same_bytes n) a.name ∙ b, find, same_size a.bounds) (rest h)

-- ---- prints

initial_print : {t : Ty} {v w : Initial} (k : List ℕ) → SameInitial t v w → P.initial_of t w k ≡ P.initial_of t v k
unfolding P.digits bytes
initial_print k nothing_again = refl
initial_print {t} k (zero_read {q = q} {p = p} i) = go t i
  where
    go : (t : Ty) → is_integer t ≡ true → P.initial_of t (value q p (pos 0)) k ≡ P.initial_of t nothing k
    go BOOL i = absurd (false≢true i)
    go INT i = refl
    go UINT i = refl
    go DINT i = refl
    go UDINT i = refl
initial_print k (false_read {q = q} e) = rw (← e) refl
initial_print k value_again = refl
initial_print k flag_again = refl

declared_print : (x : Kind) {b c : Bounds} (d e : Declared) (k : List ℕ) → SameBounds b c → e.ty ≡ d.ty → SameInitial d.ty d.initial e.initial
    → P.declaration_of x c e k ≡ P.declaration_of x b d k
declared_print Input d e k b t v = rw t refl
declared_print Output d e k single_again t v = rw (t, initial_print (P.line ";" k) v) refl
declared_print Output d e k array_again t v = refl
declared_print Other d e k single_again t v = rw (t, initial_print (P.line ";" k) v) refl
declared_print Other d e k array_again t v = rw t refl

declarations_print : {ds es : List Declared} (k : List ℕ) → Alikes ds es → P.declarations es k ≡ P.declarations ds k
unfolding P.declarations
declarations_print k none_left = refl
declarations_print k (next {d = d} {e = e} {ds = ds} {es = es} h hs) =
    ap₂ (λ n t. n ++ P.put " : " t) h.name
    (ap (λ x. P.declaration_of x e.bounds e (P.declarations es k)) h.kind
    ∙ ap (P.declaration_of d.kind e.bounds e) (declarations_print k hs)
    ∙ declared_print d.kind d e (P.declarations ds k) h.bounds h.ty h.initial)

section_print : {ds es : List Declared} (c : String) (k : List ℕ) → Alikes ds es → P.section c es k ≡ P.section c ds k
section_print c k none_left = refl
section_print c k (next h hs) = rw (declarations_print (P.line "END_VAR" k) (next h hs)) refl

pub sections_print : (ds es : List Declared) (k : List ℕ) → ((x : Kind) → Alikes (of_kind x ds) (of_kind x es)) → P.sections es k ≡ P.sections ds k
unfolding P.sections
sections_print ds es k h = rw (section_print "VAR" k (h Other), section_print "VAR_OUTPUT" _ (h Output), section_print "VAR_INPUT" _ (h Input)) refl

variable_print : (v w : Variable) (i : ℕ) (l : List ℕ) → AlikeVariable v w → P.cell_of_variable w i l ≡ P.cell_of_variable v i l
variable_print v w i l h = go h.declared.bounds
  where
    go : {b c : Bounds} → SameBounds b c
        → ◌≡◌ {A = List ℕ}
        (elim c [
          | single ↦ w.declared.name ++ l
          | array p lo q hi ↦ w.declared.name ++ P.put "[" (P.natural (lo + (i - w.first)) (P.put "]" l))
        ])
        (elim b [
          | single ↦ v.declared.name ++ l
          | array p lo q hi ↦ v.declared.name ++ P.put "[" (P.natural (lo + (i - v.first)) (P.put "]" l))
        ])
    go single_again = ap (λ n. n ++ l) h.declared.name
    go (array_again {lo = lo}) =
        ap₂ (λ n f. n ++ P.put "[" (P.natural (lo + (i - f)) (P.put "]" l))) h.declared.name h.first

pub cell_print : {ds es : List Declared} (k i : ℕ) (l : List ℕ) → Alikes ds es → P.cell (placed k es) i l ≡ P.cell (placed k ds) i l
unfolding P.cell placed
cell_print k i l none_left = refl
cell_print k i l (next {d = d} {e = e} {ds = ds} {es = es} h hs) =
    go (size_of e.bounds) (same_size h.bounds) (cell_print (k + size_of d.bounds) i l hs)
  where
    v : Variable
    v = record { declared = d; first = k }

    w : Variable
    w = record { declared = e; first = k }

    chosen : (b : Bool) (x y : List ℕ) → x ≡ y
        → ◌≡◌ {A = List ℕ} (elim b [ true ↦ P.cell_of_variable w i l | false ↦ x ]) (elim b [ true ↦ P.cell_of_variable v i l | false ↦ y ])
    chosen true x y q = variable_print v w i l (record { declared = h; first = refl })
    chosen false x y q = q

    go : (n : ℕ) → n ≡ size_of d.bounds
        → P.cell (placed (k + size_of d.bounds) es) i l ≡ P.cell (placed (k + size_of d.bounds) ds) i l
        → ◌≡◌ {A = List ℕ}
        (elim (leb k i && ltb i (k + n)) [ true ↦ P.cell_of_variable w i l | false ↦ P.cell (placed (k + n) es) i l ])
        (elim (leb k i && ltb i (k + size_of d.bounds)) [
          | true ↦ P.cell_of_variable v i l
          | false ↦ P.cell (placed (k + size_of d.bounds) ds) i l
        ])
    go n q rest =
        let same : P.cell (placed (k + n) es) i l ≡ P.cell (placed (k + size_of d.bounds) ds) i l = rw q rest in
        rw q (chosen (leb k i && ltb i (k + size_of d.bounds)) _ _ same)

module _ (vs ws : List Variable) (same : (i : ℕ) (k : List ℕ) → P.cell ws i k ≡ P.cell vs i k) where
  expression_print : (x : Pl.Expr) (k : List ℕ) → P.expression ws x k ≡ P.expression vs x k
  unfolding P.expression
  expression_print (Pl.number t z) k = refl
  expression_print (Pl.truth b) k = refl
  expression_print (Pl.read c) k = same c.0 k
  expression_print (Pl.minus t e) k = rw (expression_print e (P.put "))" k)) refl
  expression_print (Pl.complement e) k = rw (expression_print e (P.put ")" k)) refl
  expression_print (Pl.binary o t l r) k =
      rw (expression_print r (P.put ")" k), expression_print l (P.put (P.sign o) (P.expression vs r (P.put ")" k)))) refl
  expression_print (Pl.conversion t u e) k = rw (expression_print e (P.put ")" k)) refl

  pub statements_print : (p : Pl.Stmts) (k : List ℕ) → P.statements ws p k ≡ P.statements vs p k
  unfolding P.statements
  statements_print Pl.done k = refl
  statements_print (Pl.assign c e r) k =
      let rest = P.line ";" (P.statements vs r k) in
      rw (statements_print r k, expression_print e rest, same c.0 (P.put " := " (P.expression vs e rest))) refl
  statements_print (Pl.choice c a b r) k =
      let end = P.line "END_IF;" (P.statements vs r k) in
      let otherwise = P.else_of b end (P.statements vs b end) in
      let body = P.line " THEN" (P.or_empty a otherwise (P.statements vs a otherwise)) in
      rw (statements_print r k, statements_print b end, statements_print a otherwise, expression_print c body) refl

-- ---- forms

single_of : {b c : Bounds} → SameBounds b c → b ≡ single → c ≡ single
single_of single_again e = e
single_of array_again e = let z : ◌≡◌ {A = ℕ} 0 1 = cc in absurd (omega arith)

array_of : {b c : Bounds} (x lo y hi : ℕ) → SameBounds b c → b ≡ array x lo y hi → (p : ℕ) × (q : ℕ) × (c ≡ array p lo q hi)
array_of x lo y hi single_again e = let z : ◌≡◌ {A = ℕ} 0 1 = cc in absurd (omega arith)
array_of x lo y hi (array_again {p = p} {q = q} {lo = l} {hi = u}) e =
    let low : l ≡ lo = cc in
    let high : u ≡ hi = cc in
    (p, q, rw (low, high) refl)

module _ {ds es : List Declared} (k : ℕ) (h : Alikes ds es) where
  -- the variable of a cell, and its bounds, among those alike
  record Again (c : Cell) (v : Variable) : Type 0 where
    var : Variable
    at : At (placed k es) var c
    same : AlikeVariable v var

  again : {c : Cell} (v : Variable) → At (placed k ds) v c → Again c v
  again v a =
      let (w, found, same) = find_alike k v.declared.name v h a.found in
      record {
        var = w;
        at = record {
          found = ap (λ n. find n (placed k es)) same.declared.name ∙ found;
          cell = record {
            at = a.cell.at;
            inside = rw (same_size same.declared.bounds) a.cell.inside;
            is = a.cell.is ∙ ap (λ f. f + a.cell.at) (sym same.first);
          };
        };
        same = same;
      }

  spelt_alike : {c : Cell} {e : S.Expr} → Spelt (placed k ds) c e → Spelt (placed k es) c e
  spelt_alike {c} (alone {p = p} v a b) =
      let w = again v a in
      subst (λ n. Spelt (placed k es) c (S.variable p n)) w.same.declared.name
      (alone w.var w.at (single_of w.same.declared.bounds b))
  spelt_alike {c} (element {p = p} {q = q} {r = r} v x lo y hi a b f) =
      let w = again v a in
      let (x', y', b') = array_of x lo y hi w.same.declared.bounds b in
      let i : ℕ → ℕ = λ f. lo + (c.0 - f) in
      subst₂ (λ n f. Spelt (placed k es) c (S.element p n q (S.number r (pos (i f))))) w.same.declared.name w.same.first
      (element w.var x' lo y' hi w.at b' (subst (λ m. fits DINT (pos (i m)) ≡ true) (sym w.same.first) f))

  form_alike : {x : Pl.Expr} {e : S.Expr} → Form (placed k ds) x e → Form (placed k es) x e
  form_alike as_number = as_number
  form_alike as_truth = as_truth
  form_alike (as_read s) = as_read (spelt_alike s)
  form_alike (as_minus f) = as_minus (form_alike f)
  form_alike (as_complement f) = as_complement (form_alike f)
  form_alike (as_binary f g) = as_binary (form_alike f) (form_alike g)
  form_alike (as_conversion f) = as_conversion (form_alike f)

  pub forms_alike : {p : Pl.Stmts} {s : S.Stmts} → Forms (placed k ds) p s → Forms (placed k es) p s
  forms_alike as_done = as_done
  forms_alike (as_assign s f r) = as_assign (spelt_alike s) (form_alike f) (forms_alike r)
  forms_alike (as_choice f a b r) = as_choice (form_alike f) (forms_alike a) (forms_alike b) (forms_alike r)
