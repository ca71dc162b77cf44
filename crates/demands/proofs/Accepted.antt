-- What acceptance gives: a short text that was read, no fault of names, types or heights, and what the walk gave.
use mathlib.Core.Path.{◌≡◌, refl, sym}
use mathlib.Core.Bool.{Bool, true, false}
use mathlib.Core.Option.{Option, none, some}
use mathlib.Core.List.{List, [], ◌∷◌}
use Prim.Native.Nat.{ℕ, min, ◌≤◌}
use borrow.Author.Tests.{leb-true}
use lib.Dec.{leb}
use lib.ListN.{length}
use Rattle.paper.specs.declared.Why.{Why}
use Rattle.paper.specs.declared.Why.TheVariants.{BadName, BadType, TooHigh}
use Rattle.paper.specs.declared.Ty.TheVariants.{Dint as DINT}
use Rattle.paper.specs.Refusals.{Answer, given, ◌>>=◌}
use Rattle.paper.specs.Words.{Token, words_of}
use Rattle.paper.specs.Source.{Program}
use Rattle.paper.specs.Reading.{program_of}
use Rattle.paper.specs.Names as N
use Rattle.paper.specs.Names.{variables_of, cells_of, name_faults}
use Rattle.paper.specs.Typing as T
use Rattle.paper.specs.Typing.{type_faults}
use Rattle.paper.specs.Heights.{height_faults}
use Rattle.paper.specs.Unwinding.{Unwound, unwound_program}
use Rattle.paper.specs.Judge.{Sound, smallest, faultless, short_enough, judge}
use Rattle.demands.proofs.Answers.{none_some, refused_given, given_same, bind_given, no_fault}

-- a list of places without a smallest is empty
none_smallest : (ps : List ℕ) → smallest ps ≡ none → ps ≡ []
unfolding smallest
none_smallest [] h = refl
none_smallest (p ∷ ps) h = go (smallest ps) h
  where
    go : (o : Option ℕ) → ◌≡◌ {A = Option ℕ} (elim o [ none ↦ some p | some q ↦ some (min p q) ]) none → p ∷ ps ≡ []
    go none e = none_some (sym e)
    go (some q) e = none_some (sym e)

faultless_none : (w : Why) (ps : List ℕ) (t : Unit {0}) → faultless w ps ≡ given t → ps ≡ []
faultless_none w ps t h = none_smallest ps (go (smallest ps) refl)
  where
    go : (o : Option ℕ) → smallest ps ≡ o → smallest ps ≡ none
    go none e = e
    go (some p) e = refused_given (rw (e, faultless) at h)

short_text : (text : List ℕ) (t : Unit {0}) → short_enough text ≡ given t → length text ≤ 8192
short_text text t h = leb-true (length text) 8192 (go (leb (length text) 8192) refl)
  where
    go : (b : Bool) → leb (length text) 8192 ≡ b → leb (length text) 8192 ≡ true
    go true e = e
    go false e = refused_given (rw (e, short_enough) at h)

-- the program and the walk that an accepted one rests on
abbrev pub sound_of : Program → Unwound → Sound
sound_of pr u =
    let vs = variables_of pr.declared in
    record { program = pr; variables = vs; cells = cells_of vs; plain = u.plain; weight = u.weight }

pub record Accepted (text : List ℕ) (a : Sound) : Type 0 where
  pub words : List Token
  pub program : Program
  pub walked : Unwound
  pub short : length text ≤ 8192
  pub spelled : words_of text ≡ given words
  pub read : program_of words ≡ given program
  pub declared : N.declaration_faults [] 0 program.declared ≡ []
  pub named : N.statement_faults (variables_of program.declared) program.body [] ≡ []
  pub valued : T.declaration_faults program.declared ≡ []
  pub typed : T.statement_faults (variables_of program.declared) program.body [] (some DINT) ≡ []
  pub low : height_faults program ≡ []
  pub walk : unwound_program program ≡ given walked
  pub is : sound_of program walked ≡ a

pub accepted : (text : List ℕ) (a : Sound) → judge text ≡ given a → Accepted text a
unfolding judge name_faults type_faults
accepted text a h =
    let walk : Program → Answer Sound = λ pr. unwound_program pr >>= λ u. given (sound_of pr u) in
    let low : Program → Answer Sound = λ pr. faultless TooHigh (height_faults pr) >>= λ _. walk pr in
    let typed : Program → Answer Sound = λ pr. faultless BadType (type_faults pr) >>= λ _. low pr in
    let named : Program → Answer Sound = λ pr. faultless BadName (name_faults pr) >>= λ _. typed pr in
    let read : List Token → Answer Sound = λ ts. program_of ts >>= named in
    let (s, hs, h₁) = bind_given (short_enough text) (λ _. words_of text >>= read) a h in
    let (ts, ht, h₂) = bind_given (words_of text) read a h₁ in
    let (pr, hp, h₃) = bind_given (program_of ts) named a h₂ in
    let (n, hn, h₄) = bind_given (faultless BadName (name_faults pr)) (λ _. typed pr) a h₃ in
    let (t, hy, h₅) = bind_given (faultless BadType (type_faults pr)) (λ _. low pr) a h₄ in
    let (l, hl, h₆) = bind_given (faultless TooHigh (height_faults pr)) (λ _. walk pr) a h₅ in
    let (u, hu, h₇) = bind_given (unwound_program pr) (λ u. given (sound_of pr u)) a h₆ in
    let vs = variables_of pr.declared in
    let names = no_fault (N.declaration_faults [] 0 pr.declared) (N.statement_faults vs pr.body []) (faultless_none BadName (name_faults pr) n hn) in
    let types = no_fault (T.declaration_faults pr.declared) (T.statement_faults vs pr.body [] (some DINT)) (faultless_none BadType (type_faults pr) t hy) in
    record {
      words = ts;
      program = pr;
      walked = u;
      short = short_text text s hs;
      spelled = ht;
      read = hp;
      declared = names.0;
      named = names.1;
      valued = types.0;
      typed = types.1;
      low = faultless_none TooHigh (height_faults pr) l hl;
      walk = hu;
      is = given_same {a = sound_of pr u} h₇;
    }
