-- A text declares fewer names than it has bytes.
use mathlib.Core.Path.{◌≡◌, refl, sym, ap, subst}
use mathlib.Core.Bool.{Bool, true, false, ◌&&◌}
use mathlib.Core.Option.{Option, none, some}
use mathlib.Core.List.{List, [], ◌∷◌, ◌++◌}
use Prim.Native.String.{String}
use Prim.Native.Nat.{ℕ, zero, suc, ◌+◌, ◌*◌, ◌-◌, ◌≤◌}
use native.Mathlib.Omega.{arith}
use lib.IntN.{ℤ, pos, neg_ℤ}
use lib.ListN.{length, length-append}
use Rattle.paper.specs.declared.Ty.{Ty}
use Rattle.paper.specs.declared.Kind.{Kind}
use Rattle.paper.specs.declared.Why.TheVariants.{NoWord}
use Rattle.paper.specs.Refusals.{Answer, refused, given, ◌>>=◌}
use Rattle.paper.specs.Words as W
use Rattle.paper.specs.Words.{Token, Piece, Word, piece_of, words_from, words_of}
use Rattle.paper.specs.Source.{Bounds, single, Initial, nothing, flag, value, Named, Stmts, Declared, Program}
use Rattle.paper.specs.Reading as R
use Rattle.paper.specs.Reading.{Read, ok, next, here, behind, sees, expect, taken, a_name, a_number, a_type, a_truth}

-- ---- what is read and what is left together are no more than there was

abbrev Counted : {A : Type 0} → (A → ℕ) → ℕ → Answer (Read A) → Type 0
Counted size n (refused w p) = Unit
Counted size n (given x) = size x.it + length x.rest ≤ n

abbrev Left : ℕ → Answer (List Token) → Type 0
Left n (refused w p) = Unit
Left n (given ts) = length ts ≤ n

then : {A B : Type 0} (s : A → ℕ) (z : B → ℕ) (m n : ℕ) (o : Answer (Read A)) (f : Read A → Answer (Read B))
    → Counted s m o → ((x : Read A) → s x.it + length x.rest ≤ m → Counted z n (f x)) → Counted z n (o >>= f)
then s z m n (refused w p) f h g = tt
then s z m n (given x) f h g = g x h

left_then : {B : Type 0} (z : B → ℕ) (m n : ℕ) (o : Answer (List Token)) (f : List Token → Answer (Read B))
    → Left m o → ((ts : List Token) → length ts ≤ m → Counted z n (f ts)) → Counted z n (o >>= f)
left_then z m n (refused w p) f h g = tt
left_then z m n (given ts) f h g = g ts h

-- ---- words

behind_left : (ts : List Token) → length (behind ts) ≤ length ts
behind_left [] = omega arith
behind_left (t ∷ ts) = omega arith

expect_left : (k : String) (ts : List Token) → Left (length ts) (expect k ts)
expect_left k ts = go (sees k ts)
  where
    go : (b : Bool) → Left (length ts) (elim b [ true ↦ given (behind ts) | false ↦ R.broken ts ])
    go true = behind_left ts
    go false = tt

-- one word
taken_counted : {A : Type 0} (a : Word → Option A) → a W.ending ≡ none → (ts : List Token) → Counted (λ (x : A). 1) (length ts) (taken a ts)
taken_counted {A} a e [] = subst (λ o. Counted (λ (x : A). 1) 0 (elim o [ none ↦ R.broken [] | some x ↦ ok x [] ])) (sym e) tt
taken_counted {A} a e (t ∷ ts) = go (a t.word)
  where
    go : (o : Option A) → Counted (λ (x : A). 1) (suc (length ts)) (elim o [ none ↦ R.broken (t ∷ ts) | some x ↦ ok x ts ])
    go none = tt
    go (some x) = omega arith

-- ---- declarations

abbrev nothing_counted : {A : Type 0} → A → ℕ
nothing_counted a = 0

abbrev NamesIn : ℕ → Answer (Read (List Named)) → Type 0
NamesIn n o = Counted {A = List Named} length n o

abbrev DeclaredIn : ℕ → Answer (Read (List Declared)) → Type 0
DeclaredIn n o = Counted {A = List Declared} length n o

abbrev NoneIn : {A : Type 0} → ℕ → Answer (Read A) → Type 0
NoneIn {A} n o = Counted {A = A} nothing_counted n o

names_counted : (f : ℕ) (ts : List Token) → NamesIn (length ts) (R.names f ts)
unfolding R.names
names_counted zero ts = tt
names_counted (suc f) ts =
    then (λ _. 1) length (length ts) (length ts) (taken a_name ts) _ (taken_counted a_name refl ts) λ s h.
    go s h (sees "," s.rest) (names_counted f (behind s.rest))
  where
    go : (s : Read (List ℕ)) → 1 + length s.rest ≤ length ts → (b : Bool) → NamesIn (length (behind s.rest)) (R.names f (behind s.rest))
        → NamesIn (length ts)
        (elim b [
          | true ↦ (R.names f (behind s.rest) >>= λ r. ok (record { place = here ts; name = s.it } ∷ r.it) r.rest)
          | false ↦ ok (record { place = here ts; name = s.it } ∷ []) s.rest
        ])
    go s h true again =
        then length length (length (behind s.rest)) (length ts) (R.names f (behind s.rest)) _ again λ r l.
        omega (arith, behind_left s.rest)
    go s h false again = omega arith

-- bounds and values count as nothing
bounds_counted : (k : Kind) (ts : List Token) → NoneIn (length ts) (R.bounds_part k ts)
bounds_counted k ts = go (R.holds_arrays k && sees "ARRAY" ts)
  where
    go : (b : Bool) → NoneIn {A = Bounds} (length ts) (elim b [ true ↦ R.bounds_of (behind ts) | false ↦ ok single ts ])
    go false = omega arith
    go true =
        left_then nothing_counted (length (behind ts)) (length ts) (expect "[" (behind ts)) _ (expect_left "[" (behind ts)) λ a ha.
        then (λ _. 1) nothing_counted (length a) (length ts) (taken a_number a) _ (taken_counted a_number refl a) λ lo hlo.
        left_then nothing_counted (length lo.rest) (length ts) (expect ".." lo.rest) _ (expect_left ".." lo.rest) λ b hb.
        then (λ _. 1) nothing_counted (length b) (length ts) (taken a_number b) _ (taken_counted a_number refl b) λ hi hhi.
        left_then nothing_counted (length hi.rest) (length ts) (expect "]" hi.rest) _ (expect_left "]" hi.rest) λ c hc.
        left_then nothing_counted (length c) (length ts) (expect "OF" c) _ (expect_left "OF" c) λ d hd.
        omega (arith, behind_left ts)

signed_counted : (ts : List Token) → NoneIn (length ts) (R.signed_number ts)
signed_counted ts = go (sees "-" ts)
  where
    go : (b : Bool)
        → NoneIn {A = ℤ} (length ts)
        (elim b [
          | true ↦ (taken a_number (behind ts) >>= λ n. ok (neg_ℤ (pos n.it)) n.rest)
          | false ↦ (taken a_number ts >>= λ n. ok (pos n.it) n.rest)
        ])
    go true =
        then (λ _. 1) nothing_counted (length (behind ts)) (length ts) (taken a_number (behind ts)) _ (taken_counted a_number refl (behind ts)) λ n h.
        omega (arith, behind_left ts)
    go false = then (λ _. 1) nothing_counted (length ts) (length ts) (taken a_number ts) _ (taken_counted a_number refl ts) λ n h. omega arith

value_counted : (p : ℕ) (ts : List Token) → NoneIn (length ts) (R.initial_of p ts)
value_counted p ts = go (a_truth (next ts))
  where
    go : (o : Option Bool)
        → NoneIn {A = Initial} (length ts)
        (elim o [ some b ↦ ok (flag p b) (behind ts) | none ↦ (R.signed_number ts >>= λ z. ok (value p (here ts) z.it) z.rest) ])
    go none = then nothing_counted nothing_counted (length ts) (length ts) (R.signed_number ts) _ (signed_counted ts) λ z h. h
    go (some b) = omega (arith, behind_left ts)

initial_counted : (k : Kind) (b : Bounds) (ts : List Token) → NoneIn (length ts) (R.initial_part k b ts)
initial_counted k b ts = go (R.holds_values k b && sees ":=" ts)
  where
    less : (o : Answer (Read Initial)) → NoneIn (length (behind ts)) o → NoneIn (length ts) o
    less (refused w p) h = tt
    less (given x) h = omega (arith, behind_left ts)

    go : (c : Bool) → NoneIn {A = Initial} (length ts) (elim c [ true ↦ R.initial_of (here ts) (behind ts) | false ↦ ok nothing ts ])
    go true = less (R.initial_of (here ts) (behind ts)) (value_counted (here ts) (behind ts))
    go false = omega arith

declare_length : (k : Kind) (t : Ty) (b : Bounds) (v : Initial) (ns : List Named) → length (R.declare k t b v ns) ≡ length ns
unfolding R.declare
declare_length k t b v [] = refl
declare_length k t b v (n ∷ ns) = ap suc (declare_length k t b v ns)

declaration_counted : (f : ℕ) (k : Kind) (ts : List Token) → DeclaredIn (length ts) (R.declaration f k ts)
unfolding R.declaration
declaration_counted f k ts =
    then length length (length ts) (length ts) (R.names f ts) _ (names_counted f ts) λ ns hn.
    left_then length (length ns.rest) (length ts) (expect ":" ns.rest) _ (expect_left ":" ns.rest) λ a ha.
    then nothing_counted length (length a) (length ts) (R.bounds_part k a) _ (bounds_counted k a) λ b hb.
    then (λ _. 1) length (length b.rest) (length ts) (taken a_type b.rest) _ (taken_counted a_type refl b.rest) λ t ht.
    then nothing_counted length (length t.rest) (length ts) (R.initial_part k b.it t.rest) _ (initial_counted k b.it t.rest) λ v hv.
    left_then length (length v.rest) (length ts) (expect ";" v.rest) _ (expect_left ";" v.rest) λ c hc.
    omega (arith, declare_length k t.it b.it v.it ns.it)

-- ---- sections and the program

-- one reading behind another
joined_counted : (n m : ℕ) (ds : List Declared) (o : Answer (Read (List Declared))) → DeclaredIn m o → length ds + m ≤ n
    → DeclaredIn n (o >>= λ r. ok (ds ++ r.it) r.rest)
joined_counted n m ds o h l = then length length m n o _ h λ r e. omega (arith, length-append ds r.it)

section_counted : (f : ℕ) (k : Kind) (ts : List Token) → DeclaredIn (length ts) (R.section f k ts)
unfolding R.section
section_counted zero k ts = tt
section_counted (suc f) k ts =
    then length length (length ts) (length ts) (R.declaration f k ts) _ (declaration_counted f k ts) λ d h.
    go d h (sees "END_VAR" d.rest) (section_counted f k d.rest)
  where
    go : (d : Read (List Declared)) → length d.it + length d.rest ≤ length ts → (b : Bool)
        → DeclaredIn (length d.rest) (R.section f k d.rest)
        → DeclaredIn (length ts)
        (elim b [
          | true ↦ ok d.it (behind d.rest)
          | false ↦ (R.section f k d.rest >>= λ r. ok (d.it ++ r.it) r.rest)
        ])
    go d h true again = omega (arith, behind_left d.rest)
    go d h false again = joined_counted (length ts) (length d.rest) d.it (R.section f k d.rest) again h

sections_counted : (f : ℕ) (ts : List Token) → DeclaredIn (length ts) (R.sections f ts)
unfolding R.sections
sections_counted zero ts = tt
sections_counted (suc f) ts = go (R.kind_of ts) (λ us. sections_counted f us)
  where
    go : (o : Option Kind) → ((us : List Token) → DeclaredIn (length us) (R.sections f us))
        → DeclaredIn (length ts)
        (elim o [
          | none ↦ ok [] ts
          | some k ↦ (R.section f k (behind ts) >>= λ d. R.sections f d.rest >>= λ r. ok (d.it ++ r.it) r.rest)
        ])
    go none again = omega arith
    go (some k) again =
        then length length (length (behind ts)) (length ts) (R.section f k (behind ts)) _ (section_counted f k (behind ts)) λ d h.
        joined_counted (length ts) (length d.rest) d.it (R.sections f d.rest) (again d.rest) (omega (arith, behind_left ts))

-- the same of a whole program, whose words are all taken
abbrev ProgramIn : ℕ → Answer Program → Type 0
ProgramIn n (refused w p) = Unit
ProgramIn n (given pr) = length pr.declared ≤ n

program_then : {A : Type 0} (s : A → ℕ) (m n : ℕ) (o : Answer (Read A)) (f : Read A → Answer Program)
    → Counted s m o → ((x : Read A) → s x.it + length x.rest ≤ m → ProgramIn n (f x)) → ProgramIn n (o >>= f)
program_then s m n (refused w p) f h g = tt
program_then s m n (given x) f h g = g x h

program_after : (m n : ℕ) (o : Answer (List Token)) (f : List Token → Answer Program)
    → Left m o → ((ts : List Token) → length ts ≤ m → ProgramIn n (f ts)) → ProgramIn n (o >>= f)
program_after m n (refused w p) f h g = tt
program_after m n (given ts) f h g = g ts h

-- an answer of which nothing is known
program_any : {A : Type 0} (n : ℕ) (o : Answer A) (f : A → Answer Program) → ((x : A) → ProgramIn n (f x)) → ProgramIn n (o >>= f)
program_any n (refused w p) f g = tt
program_any n (given x) f g = g x

-- two words stand before the sections: PROGRAM and its name
head_left : (ts : List Token) → Left (length ts - 1) (expect "PROGRAM" ts)
head_left [] = tt
head_left (t ∷ ts) = go (sees "PROGRAM" (t ∷ ts))
  where
    go : (b : Bool) → Left (suc (length ts) - 1) (elim b [ true ↦ given ts | false ↦ R.broken (t ∷ ts) ])
    go true = omega arith
    go false = tt

program_counted : (f : ℕ) (ts : List Token) → ProgramIn (length ts - 2) (R.program f ts)
unfolding R.program
program_counted f ts =
    program_after (length ts - 1) (length ts - 2) (expect "PROGRAM" ts) _ (head_left ts) λ a ha.
    program_then (λ _. 1) (length a) (length ts - 2) (taken a_name a) _ (taken_counted a_name refl a) λ n hn.
    program_then length (length n.rest) (length ts - 2) (R.sections f n.rest) _ (sections_counted f n.rest) λ d hd.
    program_any (length ts - 2) (R.list f 0 d.rest) _ λ b.
    program_any (length ts - 2) (expect "END_PROGRAM" b.rest) _ λ e.
    go n.it d (omega arith) b.it e (R.is_ending (next e))
  where
    go : (s : List ℕ) (d : Read (List Declared)) → length d.it ≤ length ts - 2 → (b : Stmts) (e : List Token) (c : Bool)
        → ProgramIn (length ts - 2) (elim c [ true ↦ given (record { name = s; declared = d.it; body = b }) | false ↦ R.broken e ])
    go s d h b e true = h
    go s d h b e false = tt

-- each word but the ending has a byte of its own
words_left : (k p : ℕ) (s : List ℕ) → Left (length s + 1) (words_from k p s)
unfolding words_from
words_left k p [] = omega arith
words_left (suc k) p (c ∷ s) = go (words_from k (suc p) s) (words_left k (suc p) s)
  where
    go : (o : Answer (List Token)) → Left (length s + 1) o → Left (suc (length s) + 1) o
    go (refused w q) h = tt
    go (given ts) h = omega arith
words_left zero p (c ∷ s) = go (piece_of c s) (λ n. words_left n (suc p) s)
  where
    more : (o : Answer (List Token)) → Left (length s + 1) o → Left (suc (length s) + 1) o
    more (refused w q) h = tt
    more (given ts) h = omega arith

    one_more : (w : Word) (o : Answer (List Token)) → Left (length s + 1) o
        → Left (suc (length s) + 1) (o >>= λ ts. given (record { word = w; place = p } ∷ ts))
    one_more w (refused v q) h = tt
    one_more w (given ts) h = omega arith

    go : (x : Piece) → ((n : ℕ) → Left (length s + 1) (words_from n (suc p) s))
        → Left (suc (length s) + 1)
        (elim x [
          | W.gap n ↦ words_from n (suc p) s
          | W.word n w ↦ (words_from n (suc p) s >>= λ ts. given (record { word = w; place = p } ∷ ts))
          | W.bad ↦ refused NoWord p
        ])
    go (W.gap n) again = more (words_from n (suc p) s) (again n)
    go (W.word n w) again = one_more w (words_from n (suc p) s) (again n)
    go W.bad again = tt

pub few_declared : (t : List ℕ) (ts : List Token) (pr : Program) → words_of t ≡ given ts → R.program_of ts ≡ given pr → length pr.declared ≤ length t
unfolding words_of R.program_of
few_declared t ts pr w e =
    let a : length ts ≤ length t + 1 = rw w at (words_left 0 0 t) in
    let b : length pr.declared ≤ length ts - 2 = rw e at (program_counted (32 * length ts + 32) ts) in
    omega arith
