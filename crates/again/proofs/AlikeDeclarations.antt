-- Declarations alike to printed ones: they stand in printed order already, and have no fault of names or types.
use mathlib.Core.Path.{◌≡◌, refl, sym, ap, ap₂, ◌∙◌, subst}
use mathlib.Core.Bool.{Bool, true, false, not, cond, true≢false, false≢true}
use mathlib.Core.List.{List, [], ◌∷◌, ◌++◌, append-nil}
use Prim.Native.Nat.{ℕ, ◌+◌}
use lib.IntN.{pos}
use Rattle.paper.specs.declared.Ty.{Ty}
use Rattle.paper.specs.declared.Ty.TheVariants.{Bool as BOOL, Int as INT, Uint as UINT, Dint as DINT, Udint as UDINT}
use Rattle.paper.specs.declared.Kind.{Kind}
use Rattle.paper.specs.declared.Kind.TheVariants.{Input, Output, Other}
use Rattle.paper.specs.Types.{is_integer, fits, for_numbers}
use Rattle.paper.specs.Words.{same_bytes}
use Rattle.paper.specs.Source.{Name, Bounds, Initial, value, Declared}
use Rattle.paper.specs.Names.{same_kind, of_kind, printed, at, reversed}
use Rattle.paper.specs.Typing as T
use Rattle.demands.specs.InTypes.{All}
use Rattle.demands.proofs.Lists.{both_all}
use Rattle.demands.proofs.Answers.{cons_nil, no_fault, no_fault₃, no_fault_at, test_passed}
use Rattle.again.proofs.Alike.{SameBounds, single_again, array_again, SameInitial, nothing_again, zero_read, false_read, value_again, flag_again, Alikes, none_left, next}
use Rattle.again.proofs.Distinct.{one_if, declared_times, Distinct}

-- ---- kinds

same_kind_lem : (x y : Kind) → same_kind x y ≡ true → x ≡ y
same_kind_lem Input Input h = refl
same_kind_lem Input Output h = absurd (false≢true h)
same_kind_lem Input Other h = absurd (false≢true h)
same_kind_lem Output Input h = absurd (false≢true h)
same_kind_lem Output Output h = refl
same_kind_lem Output Other h = absurd (false≢true h)
same_kind_lem Other Input h = absurd (false≢true h)
same_kind_lem Other Output h = absurd (false≢true h)
same_kind_lem Other Other h = refl

kind_refl : (x : Kind) → same_kind x x ≡ true
kind_refl Input = refl
kind_refl Output = refl
kind_refl Other = refl

abbrev Of : Kind → List Declared → Type 0
Of x ds = All (λ d. d.kind ≡ x) ds

-- what holds of all declarations holds of those of a kind
pub of_kind_all : (Q : Declared → Type 0) (x : Kind) (ds : List Declared) → All Q ds → All (λ d. (d.kind ≡ x) × Q d) (of_kind x ds)
unfolding of_kind
of_kind_all Q x [] h = tt
of_kind_all Q x (d ∷ ds) h = go (same_kind x d.kind) refl (of_kind_all Q x ds h.1)
  where
    go : (b : Bool) → same_kind x d.kind ≡ b → All (λ d. (d.kind ≡ x) × Q d) (of_kind x ds)
        → All (λ d. (d.kind ≡ x) × Q d) (cond b (d ∷ of_kind x ds) (of_kind x ds))
    go true e r = ((sym (same_kind_lem x d.kind e), h.0), r)
    go false e r = r

pub all_map : (P Q : Declared → Type 0) (ds : List Declared) → ((d : Declared) → P d → Q d) → All P ds → All Q ds
all_map P Q [] f h = tt
all_map P Q (d ∷ ds) f h = (f d h.0, all_map P Q ds f h.1)

-- and of the printed order
pub printed_all : (Q : Declared → Type 0) (ds : List Declared) → All Q ds → All Q (printed ds)
unfolding printed
printed_all Q ds h =
    let some : (x : Kind) → All Q (of_kind x ds) = λ x. all_map _ Q (of_kind x ds) (λ d k. k.1) (of_kind_all Q x ds h) in
    both_all Q (of_kind Input ds ++ of_kind Output ds) (of_kind Other ds) (both_all Q (of_kind Input ds) (of_kind Output ds) (some Input) (some Output)) (some Other)

-- ---- the printed order is in order

of_same : (x : Kind) (ds : List Declared) → Of x ds → of_kind x ds ≡ ds
unfolding of_kind
of_same x [] h = refl
of_same x (d ∷ ds) h = rw (h.0, kind_refl x, of_same x ds h.1) refl

of_other : (x y : Kind) (ds : List Declared) → same_kind x y ≡ false → Of y ds → of_kind x ds ≡ []
unfolding of_kind
of_other x y [] e h = refl
of_other x y (d ∷ ds) e h = rw (h.0, e, of_other x y ds e h.1) refl

of_append : (x : Kind) (cs ds : List Declared) → of_kind x (cs ++ ds) ≡ of_kind x cs ++ of_kind x ds
unfolding of_kind
of_append x [] ds = refl
of_append x (d ∷ cs) ds = go (same_kind x d.kind) (of_append x cs ds)
  where
    go : (b : Bool) → of_kind x (cs ++ ds) ≡ of_kind x cs ++ of_kind x ds
        → cond b (d ∷ of_kind x (cs ++ ds)) (of_kind x (cs ++ ds)) ≡ cond b (d ∷ of_kind x cs) (of_kind x cs) ++ of_kind x ds
    go true h = ap (λ l. d ∷ l) h
    go false h = h

-- inputs, then outputs, then the others
record Sorted (ds : List Declared) : Type 0 where
  inputs : List Declared
  outputs : List Declared
  others : List Declared
  is : ds ≡ inputs ++ outputs ++ others
  of_inputs : Of Input inputs
  of_outputs : Of Output outputs
  of_others : Of Other others

kinds_of : (x : Kind) (ds : List Declared) → Of x (of_kind x ds)
kinds_of x ds = all_map _ _ (of_kind x ds) (λ d k. k.0) (of_kind_all (λ d. Unit {0}) x ds (every ds))
  where
    every : (ds : List Declared) → All (λ d. Unit {0}) ds
    every [] = tt
    every (d ∷ ds) = (tt, every ds)

printed_sorted : (ds : List Declared) → Sorted (printed ds)
unfolding printed
printed_sorted ds =
    record {
      inputs = of_kind Input ds;
      outputs = of_kind Output ds;
      others = of_kind Other ds;
      is = refl;
      of_inputs = kinds_of Input ds;
      of_outputs = kinds_of Output ds;
      of_others = kinds_of Other ds;
    }

module _ (i o v : List Declared) (hi : Of Input i) (ho : Of Output o) (hv : Of Other v) where
  sorted_inputs : of_kind Input (i ++ o ++ v) ≡ i
  sorted_inputs =
      of_append Input (i ++ o) v ∙ rw (of_append Input i o, of_same Input i hi, of_other Input Output o refl ho, of_other Input Other v refl hv, append-nil i, append-nil i) refl

  sorted_outputs : of_kind Output (i ++ o ++ v) ≡ o
  sorted_outputs =
      of_append Output (i ++ o) v ∙ rw (of_append Output i o, of_other Output Input i refl hi, of_same Output o ho, of_other Output Other v refl hv, append-nil) refl

  sorted_others : of_kind Other (i ++ o ++ v) ≡ v
  sorted_others =
      of_append Other (i ++ o) v ∙ rw (of_append Other i o, of_other Other Input i refl hi, of_other Other Output o refl ho, of_same Other v hv) refl

sorted_printed : (ds : List Declared) → Sorted ds → printed ds ≡ ds
unfolding printed
sorted_printed ds s =
    let i = s.inputs in
    let o = s.outputs in
    let v = s.others in
    rw s.is
    (ap₂ (λ a b. a ++ b)
    (ap₂ (λ a b. a ++ b) (sorted_inputs i o v s.of_inputs s.of_outputs s.of_others) (sorted_outputs i o v s.of_inputs s.of_outputs s.of_others))
    (sorted_others i o v s.of_inputs s.of_outputs s.of_others))

-- ---- and so is what is alike

record Split (cs ds es : List Declared) : Type 0 where
  front : List Declared
  back : List Declared
  is : es ≡ front ++ back
  front_alike : Alikes cs front
  back_alike : Alikes ds back

split : (cs ds : List Declared) {es : List Declared} → Alikes (cs ++ ds) es → Split cs ds es
split [] ds {es} h = record { front = []; back = es; is = refl; front_alike = none_left; back_alike = h }
split (c ∷ cs) ds (next {e = e} h hs) =
    let s = split cs ds hs in
    record { front = e ∷ s.front; back = s.back; is = ap (λ l. e ∷ l) s.is; front_alike = next h s.front_alike; back_alike = s.back_alike }

of_alike : (x : Kind) {ds es : List Declared} → Alikes ds es → Of x ds → Of x es
of_alike x none_left h = tt
of_alike x (next a as') h = (a.kind ∙ h.0, of_alike x as' h.1)

sorted_alike : {ds es : List Declared} → Alikes ds es → Sorted ds → Sorted es
sorted_alike {ds} {es} a s =
    let two = split (s.inputs ++ s.outputs) s.others (subst (λ l. Alikes l es) s.is a) in
    let one = split s.inputs s.outputs two.front_alike in
    record {
      inputs = one.front;
      outputs = one.back;
      others = two.back;
      is = two.is ∙ ap (λ l. l ++ two.back) one.is;
      of_inputs = of_alike Input one.front_alike s.of_inputs;
      of_outputs = of_alike Output one.back_alike s.of_outputs;
      of_others = of_alike Other two.back_alike s.of_others;
    }

pub in_order_lem : (ds : List Declared) {es : List Declared} → Alikes (printed ds) es → printed es ≡ es
in_order_lem ds {es} a = sorted_printed es (sorted_alike a (printed_sorted ds))

alike_of_kind : (x : Kind) {ds es : List Declared} → Alikes ds es → Alikes (of_kind x ds) (of_kind x es)
unfolding of_kind
alike_of_kind x none_left = none_left
alike_of_kind x (next {d = d} {e = e} {ds = ds} {es = es} a as') =
    go (same_kind x e.kind) (same_kind x d.kind) (ap (same_kind x) a.kind) (alike_of_kind x as')
  where
    go : (b c : Bool) → b ≡ c → Alikes (of_kind x ds) (of_kind x es) → Alikes (cond c (d ∷ of_kind x ds) (of_kind x ds)) (cond b (e ∷ of_kind x es) (of_kind x es))
    go true true q h = next a h
    go true false q h = absurd (true≢false q)
    go false true q h = absurd (false≢true q)
    go false false q h = h

of_printed : (x : Kind) (ds : List Declared) → of_kind x (printed ds) ≡ of_kind x ds
unfolding printed
of_printed Input ds = sorted_inputs (of_kind Input ds) (of_kind Output ds) (of_kind Other ds) (kinds_of Input ds) (kinds_of Output ds) (kinds_of Other ds)
of_printed Output ds = sorted_outputs (of_kind Input ds) (of_kind Output ds) (of_kind Other ds) (kinds_of Input ds) (kinds_of Output ds) (kinds_of Other ds)
of_printed Other ds = sorted_others (of_kind Input ds) (of_kind Output ds) (of_kind Other ds) (kinds_of Input ds) (kinds_of Output ds) (kinds_of Other ds)

pub kinds_alike : (ds : List Declared) {es : List Declared} → Alikes (printed ds) es → (x : Kind) → Alikes (of_kind x ds) (of_kind x es)
kinds_alike ds {es} a x = subst (λ l. Alikes l (of_kind x es)) (of_printed x ds) (alike_of_kind x a)

-- ---- names

times_alike : (s : Name) {ds es : List Declared} → Alikes ds es → declared_times s es ≡ declared_times s ds
unfolding declared_times
times_alike s none_left = refl
times_alike s (next a as') = ap₂ (λ n m. one_if (same_bytes s n) + m) a.name (times_alike s as')

pub distinct_alike : {ds es : List Declared} → Alikes ds es → Distinct ds → Distinct es
distinct_alike a h s = rw (times_alike s a) (h s)

same_reversed : {b c : Bounds} → SameBounds b c → reversed c ≡ reversed b
same_reversed single_again = refl
same_reversed array_again = refl

pub reversed_alike : {ds es : List Declared} → Alikes ds es → All (λ d. reversed d.bounds ≡ false) ds → All (λ d. reversed d.bounds ≡ false) es
reversed_alike none_left h = tt
reversed_alike (next a as') h = (same_reversed a.bounds ∙ h.0, reversed_alike as' h.1)

-- ---- types

pub record WellDeclared (d : Declared) : Type 0 where
  pub bounds : T.bounds_faults d.bounds ≡ []
  pub initial : T.initial_faults d.ty d.initial ≡ []

pub all_declared : (ds : List Declared) → T.declaration_faults ds ≡ [] → All WellDeclared ds
unfolding T.declaration_faults
all_declared [] h = tt
all_declared (d ∷ ds) h =
    let (b, v, r) = no_fault₃ (T.bounds_faults d.bounds) (T.initial_faults d.ty d.initial) (T.declaration_faults ds) h in
    (record { bounds = b; initial = v }, all_declared ds r)

none_faulty : (ds : List Declared) → All WellDeclared ds → T.declaration_faults ds ≡ []
unfolding T.declaration_faults
none_faulty [] h = refl
none_faulty (d ∷ ds) h = rw (h.0.bounds, h.0.initial, none_faulty ds h.1) refl

bounds_alike : {b c : Bounds} → SameBounds b c → T.bounds_faults b ≡ [] → T.bounds_faults c ≡ []
bounds_alike single_again h = refl
bounds_alike (array_again {a = a} {b = b} {lo = lo} {hi = hi}) h =
    let (low, high) = no_fault (at a (not (fits DINT (pos lo)))) (at b (not (fits DINT (pos hi)))) h in
    rw (test_passed a (fits DINT (pos lo)) low, test_passed b (fits DINT (pos hi)) high) refl

initial_alike : {t : Ty} {v w : Initial} → SameInitial t v w → T.initial_faults t v ≡ [] → T.initial_faults t w ≡ []
unfolding fits
initial_alike nothing_again k = refl
initial_alike {t} (zero_read {q = q} {p = p} i) k = go t i
  where
    go : (t : Ty) → is_integer t ≡ true → T.initial_faults t (value q p (pos 0)) ≡ []
    go BOOL i = absurd (false≢true i)
    go INT i = refl
    go UINT i = refl
    go DINT i = refl
    go UDINT i = refl
initial_alike (false_read e) k = rw (← e) refl
initial_alike {t} (value_again {a = a} {b = b} {p = p} {q = q} {z = z}) k = go (fits (for_numbers t) z) k
  where
    go : (x : Bool) → ◌≡◌ {A = List ℕ} (elim x [ true ↦ at a (not (is_integer t)) | false ↦ b ∷ [] ]) []
        → ◌≡◌ {A = List ℕ} (elim x [ true ↦ at p (not (is_integer t)) | false ↦ q ∷ [] ]) []
    go true h = rw (test_passed a (is_integer t) h) refl
    go false h = cons_nil h
initial_alike {t} (flag_again {a = a}) k = rw (no_fault_at a (is_integer t) k) refl

declared_alike : {ds es : List Declared} → Alikes ds es → All WellDeclared ds → All WellDeclared es
declared_alike none_left h = tt
declared_alike (next {d = d} {e = e} a as') h = (
  record {
    bounds = bounds_alike a.bounds h.0.bounds;
    initial = ap (λ t. T.initial_faults t e.initial) a.ty ∙ initial_alike a.initial h.0.initial;
  },
  declared_alike as' h.1,
)

pub types_alike : {ds es : List Declared} → Alikes ds es → All WellDeclared ds → T.declaration_faults es ≡ []
types_alike {ds} {es} a h = none_faulty es (declared_alike a h)
