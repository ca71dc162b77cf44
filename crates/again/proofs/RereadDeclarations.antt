-- The words of printed declarations, read: declarations alike.
use mathlib.Core.Path.{◌≡◌, refl}
use mathlib.Core.Bool.{true, false}
use mathlib.Core.Option.{none, some}
use mathlib.Core.List.{List, [], ◌∷◌, ◌++◌, append_assoc, append-nil}
use Prim.Native.Nat.{ℕ, suc, ◌+◌}
use Prim.Native.String.{String}
use native.Mathlib.Omega.{arith}
use lib.IntN.{pos, negsuc}
use lib.ListN.{length}
use Rattle.paper.specs.declared.Ty.{Ty}
use Rattle.paper.specs.declared.Ty.TheVariants.{Bool as BOOL, Int as INT, Uint as UINT, Dint as DINT, Udint as UDINT}
use Rattle.paper.specs.declared.Kind.{Kind}
use Rattle.paper.specs.declared.Kind.TheVariants.{Input, Output, Other}
use Rattle.paper.specs.Refusals.{Answer, ◌>>=◌}
use Rattle.paper.specs.Words as W
use Rattle.paper.specs.Words.{Word, Token, bytes, same_bytes}
use Rattle.paper.specs.Source.{Name, Bounds, single, array, Initial, nothing, value, flag, Declared}
use Rattle.paper.specs.Names.{of_kind, printed}
use Rattle.paper.specs.Reading as R
use Rattle.paper.specs.Reading.{Read, ok}
use Rattle.demands.specs.InTypes.{All}
use Rattle.again.proofs.Says.{key, Says, says, Gives, gives, then, expects, Fuel, one, less}
use Rattle.again.proofs.Wordings.{initial_words, declared_words, declaration_words, section_words, sections_words}
use Rattle.again.proofs.Alike.{SameBounds, single_again, array_again, SameInitial, nothing_again, zero_read, false_read, value_again, flag_again, Alikes, none_left, next, both_alike, Shaped, ShapedDeclared}

initial_of_lem : (t : Ty) (v : Initial) (p : ℕ) {k : List Word} (ts : List Token) → Says (initial_words t v k) ts → Gives (SameInitial t v) k (R.initial_of p ts)
unfolding bytes same_bytes
initial_of_lem BOOL nothing p ts (says s) = gives (false_read refl) s
initial_of_lem INT nothing p ts (says s) = gives (zero_read refl) s
initial_of_lem UINT nothing p ts (says s) = gives (zero_read refl) s
initial_of_lem DINT nothing p ts (says s) = gives (zero_read refl) s
initial_of_lem UDINT nothing p ts (says s) = gives (zero_read refl) s
initial_of_lem t (value a b (pos n)) p ts (says s) = gives value_again s
initial_of_lem t (value a b (negsuc n)) p ts (says (says s)) = gives value_again s
initial_of_lem t (flag q b) p ts (says s) = gives flag_again s

-- what is declared of the kind x with this name, type, bounds and value, is read as e
abbrev Reads : Name → Kind → Bounds → Ty → Initial → List Declared → Type 0
Reads n x b t v es = (e : Declared) × (es ≡ e ∷ []) × (e.name ≡ n) × (e.kind ≡ x) × (e.ty ≡ t) × SameBounds b e.bounds × SameInitial t v e.initial

valued_of : (n : Name) (x : Kind) (t : Ty) (v : Initial) (p q : ℕ) {k : List Word} (ts : List Token)
    → Says (initial_words t v (key ";" ∷ k)) ts
    → Gives (Reads n x single t v) k
    (R.initial_of q ts >>= λ v. R.expect ";" v.rest >>= λ semicolon. ok (R.declare x t single v.it (record { place = p; name = n } ∷ [])) semicolon)
unfolding R.declare
valued_of n x t v p q ts s =
    then (initial_of_lem t v q ts s) λ y h s. expects ";" s λ us s. gives (_, refl, refl, refl, refl, single_again, h) s

-- one declaration
declaration_of_lem : (n : Name) (x : Kind) (b : Bounds) (t : Ty) (v : Initial) (f : ℕ) {k : List Word} (ts : List Token) → Shaped x b v
    → Says (W.name n ∷ key ":" ∷ declared_words x b t v k) ts → Gives (Reads n x b t v) k (R.declaration (suc f) x ts)
unfolding R.declaration R.names R.declare bytes same_bytes
declaration_of_lem n Input single t nothing f ts h (says (says (says (says s)))) = gives (_, refl, refl, refl, refl, single_again, nothing_again) s
declaration_of_lem n Input single t (value q p z) f ts h s = absurd h
declaration_of_lem n Input single t (flag q b) f ts h s = absurd h
declaration_of_lem n Input (array p lo q hi) t v f ts h s = absurd h
declaration_of_lem n Output single t v f ts h (says {p = p} (says (says (says {p = q} {ts = us} s)))) = valued_of n Output t v p q us s
declaration_of_lem n Output (array p lo q hi) t v f ts h s = absurd h
declaration_of_lem n Other single t v f ts h (says {p = p} (says (says (says {p = q} {ts = us} s)))) = valued_of n Other t v p q us s
declaration_of_lem n Other (array p lo q hi) t nothing f ts h (says (says (says (says (says (says (says (says (says (says (says s))))))))))) =
    gives (_, refl, refl, refl, refl, array_again, nothing_again) s
declaration_of_lem n Other (array p lo q hi) t (value a b z) f ts h s = absurd h
declaration_of_lem n Other (array p lo q hi) t (flag a b) f ts h s = absurd h

-- all of one kind
abbrev pub OfKind : Kind → List Declared → Type 0
OfKind x ds = All (λ d. (d.kind ≡ x) × ShapedDeclared d) ds

-- one declaration of a list
first_of : (x : Kind) (d : Declared) (f : ℕ) {k : List Word} (ts : List Token) → d.kind ≡ x → ShapedDeclared d
    → Says (W.name d.name ∷ key ":" ∷ declared_words d.kind d.bounds d.ty d.initial k) ts
    → Gives (Alikes (d ∷ [])) k (R.declaration (suc f) x ts)
first_of x d f ts e h s = rw (← e) (go (declaration_of_lem d.name d.kind d.bounds d.ty d.initial f ts h s))
  where
    go : {k : List Word} {o : Answer (Read (List Declared))} → Gives (Reads d.name d.kind d.bounds d.ty d.initial) k o
        → Gives (Alikes (d ∷ [])) k o
    go (gives {a = a} (e, is, n, x, t, b, v) s) = gives {a = a} (rw is (next (record { name = n; kind = x; ty = t; bounds = b; initial = v }) none_left)) s

section_of_lem : (x : Kind) (d : Declared) (ds : List Declared) (f : ℕ) (k : List Word) (ts : List Token) → OfKind x (d ∷ ds)
    → Fuel (suc (suc (length ds))) f → Says (declaration_words (d ∷ ds) (key "END_VAR" ∷ k)) ts
    → Gives (Alikes (d ∷ ds)) k (R.section f x ts)
unfolding R.section declaration_words bytes same_bytes
section_of_lem x d [] f k ts h (one (one {f = g} fuel)) s =
    then (first_of x d g ts h.0.0 h.0.1 s) λ y q s. last y.it y.rest q s
  where
    last : (es : List Declared) (us : List Token) → Alikes (d ∷ []) es → Says (key "END_VAR" ∷ k) us
        → Gives (Alikes (d ∷ [])) k
        (elim (R.sees "END_VAR" us) [
          | true ↦ ok es (R.behind us)
          | false ↦ (R.section (suc g) x us >>= λ r. ok (es ++ r.it) r.rest)
        ])
    last es us q (says s) = gives q s
section_of_lem x d (e ∷ ds) f k ts h (one (one {f = g} fuel)) s =
    then (first_of x d g ts h.0.0 h.0.1 s) λ y q s.
    again y.it y.rest q s (section_of_lem x e ds (suc g) k y.rest h.1 (one fuel) s)
  where
    again : (es : List Declared) (us : List Token) → Alikes (d ∷ []) es → Says (declaration_words (e ∷ ds) (key "END_VAR" ∷ k)) us
        → Gives (Alikes (e ∷ ds)) k (R.section (suc g) x us)
        → Gives (Alikes (d ∷ e ∷ ds)) k
        (elim (R.sees "END_VAR" us) [
          | true ↦ ok es (R.behind us)
          | false ↦ (R.section (suc g) x us >>= λ r. ok (es ++ r.it) r.rest)
        ])
    again es us q (says s) h = then h λ z r s. gives (both_alike q r) s

-- ---- sections

-- nothing, or a section, and what is read behind it
part_of : (c : String) (x : Kind) (ds es : List Declared) (m f : ℕ) (k l : List Word) (ts : List Token)
    → ((p : ℕ) (us : List Token) → R.kind_of (record { word = key c; place = p } ∷ us) ≡ some x)
    → OfKind x ds → Fuel (suc (suc (suc (length ds + m)))) f → Says (section_words c ds k) ts
    → ((g : ℕ) (us : List Token) → Fuel m g → Says k us → Gives (Alikes es) l (R.sections g us))
    → Gives (Alikes (ds ++ es)) l (R.sections f ts)
unfolding R.sections
part_of c x [] es m f k l ts e h fuel s rest = rest f ts (less m (omega arith) fuel) s
part_of c x (d ∷ ds) es m f k l ts e h (one {f = g} fuel) (says {p = p} {ts = us} s) rest =
    rw (e p us, R.sections)
    (then (section_of_lem x d ds g k us h (less (suc (suc (length ds))) (omega arith) fuel) s) λ y q s.
    then (rest g y.rest (less m (omega arith) fuel) s) λ z r s.
    gives (both_alike q r) s)

-- what begins no section
abbrev pub NoSection : List Word → Type 0
NoSection [] = ⊥
NoSection (w ∷ k) = R.kind_of (record { word = w; place = 0 } ∷ []) ≡ none

no_section : (k : List Word) (f : ℕ) (ts : List Token) → NoSection k → Fuel 1 f → Says k ts → Gives (Alikes []) k (R.sections f ts)
unfolding R.sections
no_section [] f ts h fuel s = absurd h
no_section (w ∷ k) f ts h (one fuel) (says s) = rw (h, R.sections) (gives none_left (says s))

pub sections_of : (ds : List Declared) (f : ℕ) (k : List Word) (ts : List Token) → NoSection k
    → ((x : Kind) → OfKind x (of_kind x ds)) → Fuel (12 + length (of_kind Input ds) + length (of_kind Output ds) + length (of_kind Other ds)) f
    → Says (sections_words ds k) ts → Gives (Alikes (printed ds)) k (R.sections f ts)
unfolding sections_words printed bytes same_bytes
sections_of ds f k ts n h fuel s =
    let i = of_kind Input ds in
    let o = of_kind Output ds in
    let v = of_kind Other ds in
    let last = section_words "VAR" v k in
    let middle = section_words "VAR_OUTPUT" o last in
    let two : ℕ = suc (suc (suc (length v + 1))) in
    let one' : ℕ = suc (suc (suc (length o + two))) in
    rw append_assoc
    (part_of "VAR_INPUT" Input i (o ++ v) one' f middle k ts (λ p us. refl) (h Input) (less _ (omega arith) fuel) s λ g us fuel s.
    part_of "VAR_OUTPUT" Output o v two g last k us (λ p us. refl) (h Output) fuel s λ g us fuel s.
    rw append-nil at (part_of "VAR" Other v [] 1 g k k us (λ p us. refl) (h Other) fuel s (λ g us fuel s. no_section k g us n fuel s)))
