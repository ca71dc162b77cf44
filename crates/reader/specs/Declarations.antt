-- What the answers of reading declarations and the program stand for.
use Rattle.std.specs.Prelude.{◌≡◌, Bool, true, false, ◌&&◌, List, ◌++◌, ℕ, ◌+◌, ◌-◌, ◌≤◌, ◌<◌, ◌∷◌, length, get_or, Option, Result, MatchResult, IfOk}
use Rattle.paper.specs.declared.Ty.{Ty}
use Rattle.paper.specs.declared.Ty.TheVariants.{Bool as BOOL}
use Rattle.paper.specs.declared.Kind.{Kind}
use Rattle.paper.specs.declared.Refusal.{Refusal}
use Rattle.paper.specs.Refusals.{Answer, given, Gives, ◌>>=◌}
use Rattle.paper.specs.Words.{Token, words_of}
use Rattle.paper.specs.Source.{Name, Bounds, Initial, Program}
use Rattle.paper.specs.Reading as R
use Rattle.paper.specs.Reading.{Read, ok, program_of}
use Rattle.words.specs.Denoted.{words_at, denoted}
use Rattle.tree.specs.Nodes.{Same, word_of, child_of}
use Rattle.tree.specs.Trees.{name_at, types, wide, place_at, names_at, bounds_at, initial_at, declaration_at, declared_at, program_at}
use Rattle.expressions.specs.declared.Parsed.{Parsed}
use Rattle.expressions.specs.Reads.{Between, Ends, Answered, Did, Passed, maybe}

-- a word of the class c begins a section of that kind, or none
abbrev pub IsSection : ℕ → Option Kind → Type 0
IsSection c r = (s : List ℕ) (n p : ℕ) (ts : List Token) → R.kind_of (record { word = denoted c s n; place = p } ∷ ts) ≡ maybe r

-- a number without minus, with its place
pub record Natural : Type 0 where
  pub place : ℕ
  pub value : ℕ

abbrev pub natural_at : List ℕ → ℕ → Natural
natural_at p i = record { place = place_at p i; value = wide p i }

abbrev pub NumberDid : List ℕ → List ℕ → List ℕ → ℕ → ℕ → Result Parsed Refusal → Type 0
NumberDid t old new at n r =
    Did natural_at t old new at n 1 0 (λ f ts. R.taken R.a_number ts >>= λ x. ok (record { place = R.here ts; value = x.it }) x.rest) r

abbrev pub NamesDid : List ℕ → List ℕ → List ℕ → ℕ → ℕ → ℕ → Result Parsed Refusal → Type 0
NamesDid t old new at n before r =
    Did (names_at t) t old new at n 1 0 (λ f ts. R.names f ts >>= λ x. ok (names_at t old before ++ x.it) x.rest) r

-- nil, or the node of an array's bounds
abbrev pub BoundsPartDid : List ℕ → List ℕ → List ℕ → ℕ → Kind → ℕ → Result Parsed Refusal → Type 0
BoundsPartDid t old new at k n r =
    Did bounds_at t old new at n 0 0 (λ f ts. R.bounds_part k ts) r
    × IfOk r (λ q. (q.root ≡ 0 → ⊥) → word_of new q.root 0 ≡ 34)

abbrev pub ArrayBoundsDid : List ℕ → List ℕ → List ℕ → ℕ → ℕ → Result Parsed Refusal → Type 0
ArrayBoundsDid t old new at n r =
    Did bounds_at t old new at n 1 0 (λ f ts. R.bounds_of ts) r × IfOk r (λ q. word_of new q.root 0 ≡ 34)

-- ] OF
pub record ArrayEndDid (t : List ℕ) (at : ℕ) (r : Result ℕ Refusal) : Type 0 where
  pub within : MatchResult r (Between at (length t)) (λ e. Between at (length t) e.place)
  pub step : IfOk r (λ p. at < p)
  pub taken : (ts : List Token) → words_at t at ≡ given ts → Passed t (R.expect "]" ts >>= λ us. R.expect "OF" us) r

abbrev pub InitialPartDid : List ℕ → List ℕ → List ℕ → ℕ → Bool → ℕ → Result Parsed Refusal → Type 0
InitialPartDid t old new at allowed n r =
    Did initial_at t old new at n 0 0
    (λ f ts. elim (allowed && R.sees ":=" ts) [ true ↦ R.initial_of (R.here ts) (R.behind ts) | false ↦ ok Initial.nothing ts ]) r

-- one byte of `:=` before it stands for the node of the value
pub record InitialDid (t old new : List ℕ) (at n p : ℕ) (r : Result Parsed Refusal) : Type 0 where
  pub within : Ends (length t) (at - 1) n r
  pub same : Same n old new
  pub runs : (ts : List Token) → words_at t at ≡ given ts → Answered (initial_at new) t 1 (length ts) (R.initial_of p ts) r

-- fewer nodes than bytes were read, unless it is refused
abbrev pub Spare : ℕ → ℕ → Result Parsed Refusal → Type 0
Spare at n r = IfOk r (λ q. q.count + at < n + q.at)

-- what the names of a declaration share
pub record Typing : Type 0 where
  pub ty : Ty
  pub bounds : Bounds
  pub initial : Initial

abbrev pub typing_at : List ℕ → ℕ → Typing
typing_at p i =
    record { ty = get_or types (word_of p i 3) BOOL; bounds = bounds_at p (child_of p i 1); initial = initial_at p (child_of p i 2) }

-- type [:= value];
abbrev pub typing_of : Kind → List Token → Answer (Read Typing)
typing_of k ts = do
  b ← R.bounds_part k ts
  t ← R.taken R.a_type b.rest
  v ← R.initial_part k b.it t.rest
  semicolon ← R.expect ";" v.rest
  ok (record { ty = t.it; bounds = b.it; initial = v.it }) semicolon

abbrev pub TypingDid : List ℕ → List ℕ → List ℕ → ℕ → Kind → ℕ → Result Parsed Refusal → Type 0
TypingDid t old new at k n r = Did typing_at t old new at n 1 0 (λ f ts. typing_of k ts) r × Spare at n r

abbrev pub DeclarationDid : List ℕ → List ℕ → List ℕ → ℕ → Kind → ℕ → Result Parsed Refusal → Type 0
DeclarationDid t old new at k n r =
    Did (declaration_at t) t old new at n 1 1 (λ f ts. R.declaration f k ts) r × Spare at n r

abbrev pub SectionDid : List ℕ → List ℕ → List ℕ → ℕ → Kind → ℕ → ℕ → Result Parsed Refusal → Type 0
SectionDid t old new at k n before r =
    Did (declared_at t) t old new at n 1 3 (λ f ts. R.section f k ts >>= λ x. ok (declared_at t old before ++ x.it) x.rest) r

abbrev pub SectionsDid : List ℕ → List ℕ → List ℕ → ℕ → ℕ → ℕ → Result Parsed Refusal → Type 0
SectionsDid t old new at n before r =
    Did (declared_at t) t old new at n 0 5 (λ f ts. R.sections f ts >>= λ x. ok (declared_at t old before ++ x.it) x.rest) r

-- the program behind its name s, up to END_PROGRAM
abbrev pub body_of : Name → ℕ → List Token → Answer (Read Program)
body_of s f ts = do
  d ← R.sections f ts
  b ← R.list f 0 d.rest
  end ← R.expect "END_PROGRAM" b.rest
  ok (record { name = s; declared = d.it; body = b.it }) end

-- the root is the last node of the pool, and a program's
pub record Root (p : List ℕ) (r : Parsed) : Type 0 where
  pub some : 0 < r.root
  pub last : r.root ≡ r.count
  pub kind : word_of p r.root 0 ≡ 29

-- the name stands at p
abbrev pub BodyDid : List ℕ → List ℕ → List ℕ → ℕ → ℕ → Result Parsed Refusal → Type 0
BodyDid t old new at p r =
    Did (program_at t) t old new at 0 1 15 (λ f ts. body_of (name_at t p) f ts) r × IfOk r (Root new)

-- the answer r is what reading says: that refusal, or the program at the root
abbrev pub IsReading : List ℕ → List ℕ → Answer Program → Result Parsed Refusal → Type 0
IsReading t new s r = Gives (λ x q. program_at t new q.root ≡ x) s r

-- a node for each byte at most, the pool as long as before, and of any text that is all words the reading
pub record ProgramDid (t old new : List ℕ) (r : Result Parsed Refusal) : Type 0 where
  pub inside : MatchResult r (λ q. q.at ≤ length t) (λ e. e.place ≤ length t)
  pub few : IfOk r (λ q. q.count ≤ length t)
  pub root : IfOk r (Root new)
  pub long : length new ≡ length old
  pub reads : (ts : List Token) → words_of t ≡ given ts → IsReading t new (program_of ts) r
