-- The declarations of a program that is read: each name one word, each of the shape of its section.
use mathlib.Core.Path.{◌≡◌}
use mathlib.Core.Option.{Option, none, some}
use mathlib.Core.List.{List, [], ◌∷◌}
use Prim.Native.Nat.{ℕ, zero, suc, ◌+◌, ◌*◌}
use Prim.Native.String.{String}
use lib.ListN.{length}
use Rattle.paper.specs.declared.Ty.{Ty}
use Rattle.paper.specs.declared.Kind.{Kind}
use Rattle.paper.specs.declared.Kind.TheVariants.{Input, Output, Other}
use Rattle.paper.specs.Refusals.{Answer, given}
use Rattle.paper.specs.Words as W
use Rattle.paper.specs.Words.{Word, Token, words_of}
use Rattle.paper.specs.Source.{Name, Bounds, single, array, Initial, Named, Declared, Program}
use Rattle.paper.specs.Reading as R
use Rattle.paper.specs.Reading.{Read, behind}
use Rattle.demands.specs.InTypes.{All}
use Rattle.demands.proofs.Lists.{both_all}
use Rattle.demands.proofs.Placed.{Answers, stopped, gave, given_at, Any, then, of_two, of_option}
use Rattle.again.proofs.Alike.{Shaped, ShapedDeclared}
use Rattle.again.proofs.SpelledNames.{RunWord}
use Rattle.again.proofs.NestedReading.{whatever}
use Rattle.again.proofs.NamedWords.{GoodWord, GoodTokens, words_good}

abbrev pub IsName : Name → Type 0
IsName s = RunWord s (W.name s)

-- Q of what is read, and good words left
abbrev Gets : {A : Type 0} (Q : A → Type 0) → Answer (Read A) → Type 0
Gets Q o = Answers Any (λ x. Q x.it × GoodTokens x.rest) o

behind_good : (ts : List Token) → GoodTokens ts → GoodTokens (behind ts)
behind_good [] h = tt
behind_good (t ∷ ts) h = h.1

expect_good : (k : String) (ts : List Token) → GoodTokens ts → Answers Any GoodTokens (R.expect k ts)
expect_good k ts h = of_two (R.sees k ts) (gave (behind_good ts h)) (stopped tt)

taken_good : {A : Type 0} (kind : Word → Option A) (ts : List Token) → GoodTokens ts → Gets Any (R.taken kind ts)
taken_good kind ts h = of_option (kind (R.next ts)) (stopped tt) (λ x. gave (tt, behind_good ts h))

taken_name : (ts : List Token) → GoodTokens ts → Gets IsName (R.taken R.a_name ts)
taken_name [] h = stopped tt
taken_name (t ∷ ts) h = go t.word h.0
  where
    go : (w : Word) → GoodWord w → Gets IsName (elim (R.a_name w) [ none ↦ R.broken (t ∷ ts) | some x ↦ R.ok x ts ])
    go (W.name n) g = gave (g, h.1)
    go (W.number n) g = stopped tt
    go (W.truth b) g = stopped tt
    go (W.type u) g = stopped tt
    go (W.conversion u v) g = stopped tt
    go (W.operator o) g = stopped tt
    go (W.key n) g = stopped tt
    go W.ending g = stopped tt

abbrev Names : List Named → Type 0
Names ns = All (λ n. IsName n.name) ns

names_good : (f : ℕ) (ts : List Token) → GoodTokens ts → Gets Names (R.names f ts)
unfolding R.names
names_good zero ts h = stopped tt
names_good (suc f) ts h =
    then (taken_name ts h) λ s hs.
    of_two (R.sees "," s.rest)
    (then (names_good f (behind s.rest) (behind_good s.rest hs.1)) λ r hr. gave ((hs.0, hr.0), hr.1))
    (gave ((hs.0, tt), hs.1))

-- ---- one declaration

bounds_good : (ts : List Token) → GoodTokens ts → Gets {A = Bounds} Any (R.bounds_of ts)
bounds_good ts h =
    then (expect_good "[" ts h) λ os ho.
    then (taken_good R.a_number os ho) λ lo hlo.
    then (expect_good ".." lo.rest hlo.1) λ to ht.
    then (taken_good R.a_number to ht) λ hi hhi.
    then (expect_good "]" hi.rest hhi.1) λ cs hc.
    then (expect_good "OF" cs hc) λ fs hf.
    gave (tt, hf)

signed_good : (ts : List Token) → GoodTokens ts → Gets Any (R.signed_number ts)
signed_good ts h =
    of_two (R.sees "-" ts)
    (then (taken_good R.a_number (behind ts) (behind_good ts h)) λ n hn. gave (tt, hn.1))
    (then (taken_good R.a_number ts h) λ n hn. gave (tt, hn.1))

initial_good : (p : ℕ) (ts : List Token) → GoodTokens ts → Gets {A = Initial} Any (R.initial_of p ts)
initial_good p ts h =
    of_option (R.a_truth (R.next ts))
    (then (signed_good ts h) λ z hz. gave (tt, hz.1))
    (λ b. gave (tt, behind_good ts h))

-- bounds that a section of the kind x may hold
abbrev BoundsIn : Kind → Bounds → Type 0
BoundsIn Input single = Unit {0}
BoundsIn Input (array p lo q hi) = ⊥
BoundsIn Output single = Unit {0}
BoundsIn Output (array p lo q hi) = ⊥
BoundsIn Other b = Unit {0}

bounds_in_lem : (x : Kind) (ts : List Token) → GoodTokens ts → Gets (BoundsIn x) (R.bounds_part x ts)
bounds_in_lem Input ts h = gave (tt, h)
bounds_in_lem Output ts h = gave (tt, h)
bounds_in_lem Other ts h = of_two (R.sees "ARRAY" ts) (bounds_good (behind ts) (behind_good ts h)) (gave (tt, h))

initial_in_lem : (x : Kind) (b : Bounds) (ts : List Token) → BoundsIn x b → GoodTokens ts → Gets (Shaped x b) (R.initial_part x b ts)
initial_in_lem Input single ts i h = gave (tt, h)
initial_in_lem Input (array p lo q hi) ts i h = absurd i
initial_in_lem Output single ts i h =
    of_two (R.sees ":=" ts) (initial_good (R.here ts) (behind ts) (behind_good ts h)) (gave (tt, h))
initial_in_lem Output (array p lo q hi) ts i h = absurd i
initial_in_lem Other single ts i h =
    of_two (R.sees ":=" ts) (initial_good (R.here ts) (behind ts) (behind_good ts h)) (gave (tt, h))
initial_in_lem Other (array p lo q hi) ts i h = gave (tt, h)

abbrev pub NamedDeclared : Declared → Type 0
NamedDeclared d = IsName d.name × ShapedDeclared d

declare_good : (x : Kind) (t : Ty) (b : Bounds) (v : Initial) (ns : List Named) → Shaped x b v → Names ns → All NamedDeclared (R.declare x t b v ns)
unfolding R.declare
declare_good x t b v [] s h = tt
declare_good x t b v (n ∷ ns) s h = ((h.0, s), declare_good x t b v ns s h.1)

declaration_good : (f : ℕ) (x : Kind) (ts : List Token) → GoodTokens ts → Gets (All NamedDeclared) (R.declaration f x ts)
unfolding R.declaration
declaration_good f x ts h =
    then (names_good f ts h) λ ns hn.
    then (expect_good ":" ns.rest hn.1) λ cs hc.
    then (bounds_in_lem x cs hc) λ b hb.
    then (taken_good R.a_type b.rest hb.1) λ t ht.
    then (initial_in_lem x b.it t.rest hb.0 ht.1) λ v hv.
    then (expect_good ";" v.rest hv.1) λ es he.
    gave (declare_good x t.it b.it v.it ns.it hv.0 hn.0, he)

-- ---- sections and the program

section_good : (f : ℕ) (x : Kind) (ts : List Token) → GoodTokens ts → Gets (All NamedDeclared) (R.section f x ts)
unfolding R.section
section_good zero x ts h = stopped tt
section_good (suc f) x ts h =
    then (declaration_good f x ts h) λ d hd.
    of_two (R.sees "END_VAR" d.rest)
    (gave (hd.0, behind_good d.rest hd.1))
    (then (section_good f x d.rest hd.1) λ r hr. gave (both_all NamedDeclared d.it r.it hd.0 hr.0, hr.1))

sections_good : (f : ℕ) (ts : List Token) → GoodTokens ts → Gets (All NamedDeclared) (R.sections f ts)
unfolding R.sections
sections_good zero ts h = stopped tt
sections_good (suc f) ts h =
    of_option (R.kind_of ts) (gave (tt, h)) λ x.
    then (section_good f x (behind ts) (behind_good ts h)) λ d hd.
    then (sections_good f d.rest hd.1) λ r hr.
    gave (both_all NamedDeclared d.it r.it hd.0 hr.0, hr.1)

pub record NamedProgram (pr : Program) : Type 0 where
  pub own : IsName pr.name
  pub declared : All NamedDeclared pr.declared

program_good : (ts : List Token) → GoodTokens ts → Answers Any NamedProgram (R.program_of ts)
unfolding R.program R.program_of
program_good ts h =
    let f : ℕ = 32 * length ts + 32 in
    then (expect_good "PROGRAM" ts h) λ us hu.
    then (taken_name us hu) λ n hn.
    then (sections_good f n.rest hn.1) λ d hd.
    then (whatever (R.list f 0 d.rest)) λ b _.
    then (whatever (R.expect "END_PROGRAM" b.rest)) λ es _.
    of_two (R.is_ending (R.next es)) (gave (record { own = hn.0; declared = hd.0 })) (stopped tt)

pub named_program : (text : List ℕ) (ts : List Token) (pr : Program) → words_of text ≡ given ts → R.program_of ts ≡ given pr → NamedProgram pr
named_program text ts pr w e =
    let good : GoodTokens ts = given_at ts (rw w at (words_good text)) in
    given_at pr (rw e at (program_good ts good))
