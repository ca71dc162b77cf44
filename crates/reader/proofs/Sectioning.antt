-- Reading a section's declarations up to END_VAR, and all sections.
use mathlib.Core.Path.{◌≡◌, refl, ap, ◌∙◌}
use mathlib.Core.Bool.{true, false}
use mathlib.Core.Option.{none, some}
use mathlib.Core.List.{List, [], ◌∷◌, ◌++◌, append_assoc, append-nil}
use Prim.Native.Nat.{ℕ, zero, suc, ◌+◌, ◌*◌, ◌≤◌, ◌<◌}
use native.Mathlib.Omega.{arith}
use lib.Dec.{eqb}
use lib.ListN.{length}
use borrow.Author.Tests.{eq-eqb, ne_eqb}
use Rattle.paper.specs.declared.Kind.{Kind}
use Rattle.std.specs.Prelude.{Option, None, Some, Result, Ok, Err}
use Rattle.paper.specs.declared.Refusal.{Refusal}
use Rattle.paper.specs.Refusals.{Answer, given, ◌>>=◌}
use Rattle.paper.specs.Words.{Token}
use Rattle.paper.specs.Source.{Declared}
use Rattle.paper.specs.Reading as R
use Rattle.paper.specs.Reading.{Read, ok}
use Rattle.words.specs.declared.Word.{Word}
use Rattle.words.specs.Denoted.{words_at, IsWord}
use Rattle.tree.specs.Nodes.{Same, written}
use Rattle.tree.specs.Trees.{declaration_at, declared_at}
use Rattle.tree.proofs.Puts.{written_same}
use Rattle.tree.proofs.Frames.{declared_same}
use Rattle.tree.proofs.Forms.{put_declared}
use Rattle.expressions.specs.declared.Parsed.{Parsed}
use Rattle.expressions.specs.Reads.{Answered, Room, maybe}
use Rattle.expressions.proofs.Nodes.{both_same}
use Rattle.expressions.proofs.Tokens.{Next, next_of, key_end_var}
use Rattle.expressions.proofs.Answers.{bind_bad, bind_good}
use Rattle.expressions.proofs.Moves.{class_moves, some_class}
use Rattle.expressions.proofs.Reached.{further, later}
use Rattle.reader.specs.Declarations.{IsSection, DeclarationDid, SectionDid, SectionsDid}
use Rattle.statements.proofs.Runs.{assoc, made_bad, made_good}
use Rattle.reader.proofs.Answers.{again, sees_class, stay}

-- ---- one or more declarations

-- behind a declaration
abbrev after : ℕ → Kind → List Declared → List Token → Answer (Read (List Declared))
after f k ds us =
    elim (R.sees "END_VAR" us) [
      | true ↦ ok ds (R.behind us)
      | false ↦ (R.section f k us >>= λ r. ok (ds ++ r.it) r.rest)
    ]

section_is : (f : ℕ) (k : Kind) (ts : List Token) → R.section (suc f) k ts ≡ (R.declaration f k ts >>= λ d. after f k d.it d.rest)
unfolding R.section
section_is f k ts = refl

section_then : (f : ℕ) (k : Kind) (ts : List Token) (g : Read (List Declared) → Answer (Read (List Declared)))
    → (R.section (suc f) k ts >>= g) ≡ (R.declaration f k ts >>= λ d. after f k d.it d.rest >>= g)
section_then f k ts g = ap (λ s. s >>= g) (section_is f k ts) ∙ assoc (R.declaration f k ts) (λ d. after f k d.it d.rest) g

module _ (f : ℕ) (k : Kind) (ds : List Declared) (us : List Token) where
  after_end : R.sees "END_VAR" us ≡ true → after f k ds us ≡ ok ds (R.behind us)
  after_end h = rw (h, after)

  after_more : R.sees "END_VAR" us ≡ false → after f k ds us ≡ (R.section f k us >>= λ r. ok (ds ++ r.it) r.rest)
  after_more h = rw (h, after)

-- behind the declarations before
abbrev front : List ℕ → List ℕ → ℕ → Read (List Declared) → Answer (Read (List Declared))
front t old before x = ok (declared_at t old before ++ x.it) x.rest

module _ {t old m1 : List ℕ} {at n : ℕ} (k : Kind) (before : ℕ) where
  -- the declaration is refused
  pub section_1 : {y : Refusal} → DeclarationDid t old m1 at k n (Err y) → SectionDid t old m1 at k n before (Err y)
  section_1 {y} L = record { within = L.0.within; same = L.0.same; runs = go }
    where
      go : (ts : List Token) → words_at t at ≡ given ts → (f : ℕ) → 16 * length ts + 3 < f
          → Answered (declared_at t m1) t 1 (length ts) (R.section f k ts >>= front t old before) (Err y)
      go ts h zero l = absurd (omega arith)
      go ts h (suc f) l =
          rw (section_then f k ts (front t old before))
          (bind_bad (declared_at t m1) t 1 (length ts) (declaration_at t m1) 1 (length ts) (R.declaration f k ts)
          (λ x. after f k x.it x.rest >>= front t old before) y (L.0.runs ts h f (omega arith)))

  module _ {d : Parsed} (L : DeclarationDid t old m1 at k n (Ok d)) {new : List ℕ} {w : Word} (low : before ≤ n) (fits : 4 * (d.count + 1) + 4 ≤ length m1)
      (en : new ≡ written m1 (d.count + 1) 39 before d.root 0) (i : IsWord t d.at w) where
    abbrev one : List Declared
    one = declaration_at t m1 d.root

    node : declared_at t new (d.count + 1) ≡ declared_at t old before ++ one
    node =
        rw en
        (put_declared t m1 (d.count + 1) before d.root 0 (omega arith) fits (omega (arith, L.0.within)) (omega (arith, L.0.within))
        ∙ ap (λ ds. ds ++ one) (declared_same t old m1 n before L.0.same low))

    kept : Same n old new
    kept =
        both_same n d.count old m1 new L.0.same L.0.within.more
        (rw en (written_same m1 (d.count + 1) 39 before d.root 0 d.count (omega arith)))

    -- from the declaration on to what stands behind it
    to_after : (D : ℕ → List Declared) (r : Result Parsed Refusal) (ts : List Token) → words_at t at ≡ given ts → (f : ℕ) → 16 * length ts + 1 < f
        → ((us : List Token) → words_at t d.at ≡ given us → length us + 1 ≤ length ts → Answered D t 1 (length ts) (after f k one us >>= front t old before) r)
        → Answered D t 1 (length ts) (R.section (suc f) k ts >>= front t old before) r
    to_after D r ts h f l g =
        rw (section_then f k ts (front t old before))
        (bind_good D t 1 (length ts) (declaration_at t m1) 1 (length ts) (R.declaration f k ts)
        (λ x. after f k x.it x.rest >>= front t old before) d r (L.0.runs ts h f l) g)

    closes : (us : List Token) → Next t us w → R.sees "END_VAR" us ≡ eqb w.class 8
    closes us N = sees_class "END_VAR" 8 key_end_var t us w N

    -- END_VAR stands behind it
    pub section_2 : w.class ≡ 8 → SectionDid t old new at k n before (Ok (record { at = w.end; count = d.count + 1; root = d.count + 1 }))
    section_2 z =
        let moves = class_moves t d.at w i 8 z refl refl in
        record { within = omega (arith, L.0.within, L.1, i.from, i.to, moves); same = kept; runs = go }
      where
        go : (ts : List Token) → words_at t at ≡ given ts → (f : ℕ) → 16 * length ts + 3 < f
            → Answered (declared_at t new) t 1 (length ts) (R.section f k ts >>= front t old before) (Ok (record { at = w.end; count = d.count + 1; root = d.count + 1 }))
        go ts h zero l = absurd (omega arith)
        go ts h (suc f) l =
            to_after (declared_at t new) _ ts h f (omega arith)
            (λ us x m.
            let N = next_of t d.at us w i x in
            let less = N.less (rw z refl) in
            rw (after_end f k one us (closes us N ∙ eq-eqb _ _ z)) (node, N.behind (rw z refl), omega arith))

    -- or more declarations
    pub section_3 : {end : List ℕ} {r : Result Parsed Refusal} → (w.class ≡ 8 → ⊥) → SectionDid t new end d.at k (d.count + 1) (d.count + 1) r → SectionDid t old end at k n before r
    section_3 {end} {r} z E =
        record {
          within = further _ _ _ (record { at = d.at; count = d.count + 1; root = d.count + 1 }) (omega (arith, L.0.within, L.1)) r E.within;
          same = both_same n (d.count + 1) old new end kept (omega (arith, L.0.within)) E.same;
          runs = go;
        }
      where
        go : (ts : List Token) → words_at t at ≡ given ts → (f : ℕ) → 16 * length ts + 3 < f
            → Answered (declared_at t end) t 1 (length ts) (R.section f k ts >>= front t old before) r
        go ts h zero l = absurd (omega arith)
        go ts h (suc f) l =
            to_after (declared_at t end) r ts h f (omega arith)
            (λ us x m.
            rw (after_more f k one us (closes us (next_of t d.at us w i x) ∙ ne_eqb _ _ z))
            (again (declared_at t end) t 1 (length ts) 1 (length us) (λ b. declared_at t new (d.count + 1) ++ b) (λ b. one ++ b) (λ b. declared_at t old before ++ b)
            (R.section f k us) r (E.runs us x f (omega arith))
            (λ b. ap (λ a. a ++ b) node ∙ append_assoc (declared_at t old before) one b) (omega arith)))

-- ---- all sections

-- a section's kind by the class of its word
kind_here : {t : List ℕ} {ts : List Token} {w : Word} (o : Option Kind) → IsSection w.class o → Next t ts w → R.kind_of ts ≡ maybe o
kind_here o is N = ap (λ v. R.kind_of (record { word = v; place = 0 } ∷ [])) N.next ∙ is _ _ 0 []

-- such a word is one of the text
pub section_class : (c : ℕ) (k : Kind) → IsSection c (Some k) → (eqb c 255 ≡ false) × (eqb c 0 ≡ false)
section_class c k is = some_class (λ v. R.kind_of (record { word = v; place = 0 } ∷ [])) c k (is [] 0 0 []) refl

-- behind a section with the declarations ds
abbrev and_more : ℕ → List Declared → List Token → Answer (Read (List Declared))
and_more f ds us = R.sections f us >>= λ r. ok (ds ++ r.it) r.rest

sections_none : (f : ℕ) (ts : List Token) → R.kind_of ts ≡ none → R.sections (suc f) ts ≡ ok [] ts
unfolding R.sections
sections_none f ts h = rw (h, R.sections)

sections_some : (f : ℕ) (ts : List Token) (k : Kind) → R.kind_of ts ≡ some k
    → R.sections (suc f) ts ≡ (R.section f k (R.behind ts) >>= λ d. and_more f d.it d.rest)
unfolding R.sections
sections_some f ts k h = rw (h, R.sections)

-- no section begins
pub sections_0 : {t old : List ℕ} {at n before : ℕ} {w : Word} → Room t old at n → before ≤ n → IsWord t at w → IsSection w.class None
    → SectionsDid t old old at n before (Ok (record { at = at; count = n; root = before }))
sections_0 {t} {old} {at} {n} {before} {w} room low i is = stay room i low go
  where
    go : (ts : List Token) (f : ℕ) → 16 * length ts + 5 < f → Next t ts w
        → (R.sections f ts >>= λ x. ok (declared_at t old before ++ x.it) x.rest) ≡ ok (declared_at t old before) ts
    go ts zero l N = absurd (omega arith)
    go ts (suc f) l N =
        ap (λ a. a >>= λ x. ok (declared_at t old before ++ x.it) x.rest) (sections_none f ts (kind_here None is N))
        ∙ ap (λ ds. ok ds ts) (append-nil (declared_at t old before))

module _ {t : List ℕ} {w : Word} {k : Kind} (is : IsSection w.class (Some k)) where
  sections_then : (old : List ℕ) (before f : ℕ) (ts : List Token) → Next t ts w
      → (R.sections (suc f) ts >>= front t old before) ≡ (R.section f k (R.behind ts) >>= λ d. and_more f d.it d.rest >>= front t old before)
  sections_then old before f ts N =
      ap (λ a. a >>= front t old before) (sections_some f ts k (kind_here (Some k) is N))
      ∙ assoc (R.section f k (R.behind ts)) (λ d. and_more f d.it d.rest) (front t old before)

module _ {t old m1 : List ℕ} {at n : ℕ} (before : ℕ) {w : Word} (i : IsWord t at w) {k : Kind} (is : IsSection w.class (Some k)) where
  -- the section is refused
  pub sections_1 : {y : Refusal} → SectionDid t old m1 w.end k n before (Err y) → SectionsDid t old m1 at n before (Err y)
  sections_1 {y} S = record { within = omega (arith, i.from, i.on, S.within); same = S.same; runs = go }
    where
      go : (ts : List Token) → words_at t at ≡ given ts → (f : ℕ) → 16 * length ts + 5 < f
          → Answered (declared_at t m1) t 0 (length ts) (R.sections f ts >>= front t old before) (Err y)
      go ts h zero l = absurd (omega arith)
      go ts h (suc f) l =
          let N = next_of t at ts w i h in
          let less = N.less (section_class w.class k is).1 in
          let us = R.behind ts in
          rw (sections_then is old before f ts N)
          (made_bad (declared_at t m1) t 0 (length ts) (declared_at t m1) 1 (length us) (R.section f k us) (λ b. declared_at t old before ++ b)
          (λ d. and_more f d.it d.rest >>= front t old before) y (S.runs us (N.behind (section_class w.class k is).1) f (omega arith)))

  -- or read, and what comes behind it
  pub sections_2 : {s : Parsed} → SectionDid t old m1 w.end k n before (Ok s) → {end : List ℕ} {r : Result Parsed Refusal}
      → SectionsDid t m1 end s.at s.count s.root r → SectionsDid t old end at n before r
  sections_2 {s} S {end} {r} E =
      record {
        within = later _ _ _ _ (omega (arith, i.from, i.on)) r (further _ _ _ s S.within r E.within);
        same = both_same n s.count old m1 end S.same S.within.more E.same;
        runs = go;
      }
    where
      go : (ts : List Token) → words_at t at ≡ given ts → (f : ℕ) → 16 * length ts + 5 < f
          → Answered (declared_at t end) t 0 (length ts) (R.sections f ts >>= front t old before) r
      go ts h zero l = absurd (omega arith)
      go ts h (suc f) l =
          let N = next_of t at ts w i h in
          let less = N.less (section_class w.class k is).1 in
          let us = R.behind ts in
          rw (sections_then is old before f ts N)
          (made_good (declared_at t end) t 0 (length ts) (declared_at t m1) 1 (length us) (R.section f k us) (λ b. declared_at t old before ++ b)
          (λ d. and_more f d.it d.rest >>= front t old before) s r (S.runs us (N.behind (section_class w.class k is).1) f (omega arith))
          (λ ds vs e x m.
          again (declared_at t end) t 0 (length ts) 0 (length vs) (λ b. declared_at t m1 s.root ++ b) (λ b. ds ++ b) (λ b. declared_at t old before ++ b)
          (R.sections f vs) r (E.runs vs x f (omega arith))
          (λ b. ap (λ a. a ++ b) e ∙ append_assoc (declared_at t old before) ds b) (omega arith)))
