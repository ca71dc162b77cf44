-- Reading the whole of a text: PROGRAM and its name, the body, and nothing behind it.
use mathlib.Core.Path.{◌≡◌, refl, sym, ap, subst, ◌∙◌, fun_ext}
use mathlib.Core.Bool.{Bool, true, false, cond}
use mathlib.Core.Option.{none, some}
use mathlib.Core.List.{List}
use Prim.Native.Nat.{ℕ, ◌+◌, ◌*◌, ◌≤◌}
use native.Mathlib.Omega.{arith}
use lib.Dec.{eqb}
use lib.ListN.{length}
use borrow.Author.Tests.{ne_eqb}
use Rattle.std.specs.Prelude.{Result, Ok, Err}
use Rattle.paper.specs.declared.Refusal.{Refusal}
use Rattle.paper.specs.declared.Why.TheVariants.{NoWord, BadShape}
use Rattle.paper.specs.Refusals.{Answer, refused, given, refusal, ◌>>=◌}
use Rattle.paper.specs.Words.{Token, words_of}
use Rattle.paper.specs.Source.{Name, Program}
use Rattle.paper.specs.Reading as R
use Rattle.paper.specs.Reading.{Read, ok}
use Rattle.words.specs.declared.Word.{Word}
use Rattle.words.specs.Denoted.{words_at, denoted, folded, answered, IsWord}
use Rattle.tree.specs.Trees.{name_at, program_at}
use Rattle.expressions.specs.declared.Parsed.{Parsed}
use Rattle.expressions.specs.Reads.{Answered, Passed, ExpectDid}
use Rattle.expressions.proofs.Tokens.{next_of, name_here, name_class, ending_class, key_program}
use Rattle.expressions.proofs.Steps.{here}
use Rattle.expressions.proofs.Answers.{expect_one}
use Rattle.reader.specs.Declarations.{body_of, BodyDid, IsReading, ProgramDid}
use Rattle.statements.proofs.Runs.{assoc}
use Rattle.reader.proofs.Answers.{taken_none, taken_some}
use Rattle.reader.proofs.Bodies.{behind_list, behind_sections}

-- behind END_PROGRAM stands nothing
abbrev finish : Read Program → Answer Program
finish x = elim (R.is_ending (R.next x.rest)) [ true ↦ given x.it | false ↦ R.broken x.rest ]

finished : (x : Read Program) → R.is_ending (R.next x.rest) ≡ true → finish x ≡ given x.it
finished x h = rw (h, finish)

unfinished : (x : Read Program) → R.is_ending (R.next x.rest) ≡ false → finish x ≡ R.broken x.rest
unfinished x h = rw (h, finish)

module _ (s : Name) (f : ℕ) where
  flat : (us : List Token)
      → (R.sections f us >>= λ d. R.list f 0 d.rest >>= λ b. R.expect "END_PROGRAM" b.rest >>= λ end.
      finish (record { it = record { name = s; declared = d.it; body = b.it }; rest = end })) ≡ (body_of s f us >>= finish)
  flat us =
      sym
      (assoc (R.sections f us) (λ d. behind_sections s f d.it d.rest) finish
      ∙ ap (λ h. R.sections f us >>= h) (fun_ext (λ d.
      assoc (R.list f 0 d.rest) (λ b. behind_list s d.it b.it b.rest) finish
      ∙ ap (λ h. R.list f 0 d.rest >>= h) (fun_ext (λ b.
      assoc (R.expect "END_PROGRAM" b.rest) (λ end. ok (record { name = s; declared = d.it; body = b.it }) end) finish)))))

-- behind PROGRAM
abbrev behind_head : ℕ → List Token → Answer Program
behind_head f us = R.taken R.a_name us >>= λ n. body_of n.it f n.rest >>= finish

program_is : (f : ℕ) (ts : List Token) → R.program f ts ≡ (R.expect "PROGRAM" ts >>= λ us. behind_head f us)
unfolding R.program
program_is f ts =
    ap (λ h. R.expect "PROGRAM" ts >>= h) (fun_ext (λ us. ap (λ h. R.taken R.a_name us >>= h) (fun_ext (λ n. flat n.it f n.rest))))

abbrev fuel : List Token → ℕ
fuel ts = 32 * length ts + 32

program_of_is : (ts : List Token) → R.program_of ts ≡ (R.expect "PROGRAM" ts >>= λ us. behind_head (fuel ts) us)
unfolding R.program_of
program_of_is ts = program_is (fuel ts) ts

words_at_lem : (t : List ℕ) (ts : List Token) → words_of t ≡ given ts → words_at t 0 ≡ given ts
unfolding words_of
words_at_lem t ts h = h

module _ (t new : List ℕ) where
  -- a key that was refused, or passed
  pass_ends : (s : Answer (List Token)) (k : List Token → Answer Program) (y : Refusal) → Passed t s (Err y) → IsReading t new (s >>= k) (Err y)
  pass_ends (refused w p) k y a = ap Err (go a)
    where
      go : ◌≡◌ {A = Result ℕ Refusal} (Err y) (Err (refusal w p)) → y ≡ refusal w p
      go h = cc
  pass_ends (given us) k y a = absurd a

  pass_goes : (s : Answer (List Token)) (k : List Token → Answer Program) (p : ℕ) (r : Result Parsed Refusal) → Passed t s (Ok p)
      → ((us : List Token) → s ≡ given us → words_at t p ≡ given us → IsReading t new (k us) r) → IsReading t new (s >>= k) r
  pass_goes (refused w q) k p r a g = let z : ◌≡◌ {A = ℕ} 0 1 = cc in absurd (omega arith)
  pass_goes (given us) k p r a g = g us refl a

  -- the same of the body
  body_ends : (D : ℕ → Program) (e n : ℕ) (s : Answer (Read Program)) (y : Refusal) → Answered D t e n s (Err y) → IsReading t new (s >>= finish) (Err y)
  body_ends D e n (refused w p) y a = a
  body_ends D e n (given x) y a = absurd a

  body_goes : (D : ℕ → Program) (e n : ℕ) (s : Answer (Read Program)) (q : Parsed) (r : Result Parsed Refusal) → Answered D t e n s (Ok q)
      → ((us : List Token) → words_at t q.at ≡ given us → IsReading t new (finish (record { it = D q.root; rest = us })) r) → IsReading t new (s >>= finish) r
  body_goes D e n (refused w p) q r a g = let z : ◌≡◌ {A = ℕ} 0 1 = cc in absurd (omega arith)
  body_goes D e n (given x) q r a g =
      subst (λ y. IsReading t new (finish (record { it = y; rest = x.rest })) r) a.0 (g x.rest a.1)

-- ---- whether a text ends

-- a word of a text that is all words is no bad one
good_word : (t : List ℕ) (at : ℕ) (w : Word) (ts : List Token) → IsWord t at w → words_at t at ≡ given ts → eqb w.class 255 ≡ false
good_word t at w ts i h = go (eqb w.class 255) refl
  where
    go : (b : Bool) → eqb w.class 255 ≡ b → b ≡ false
    go false e = refl
    go true e =
        let x : answered t w ≡ refused NoWord w.at = rw (e, answered) in
        let z : ◌≡◌ {A = ℕ} 0 1 = cc i.words in
        absurd (omega arith)

module _ {t : List ℕ} {at : ℕ} {w : Word} (i : IsWord t at w) (ts : List Token) (h : words_at t at ≡ given ts) where
  ends : w.class ≡ 0 → R.is_ending (R.next ts) ≡ true
  unfolding denoted
  ends z = ap R.is_ending (next_of t at ts w i h).next ∙ rw z

  goes_on : (w.class ≡ 0 → ⊥) → R.is_ending (R.next ts) ≡ false
  goes_on z =
      go (R.is_ending (denoted w.class (folded t w.at w.end) w.value)) refl
      (ap R.is_ending (next_of t at ts w i h).next)
    where
      go : (b : Bool) → R.is_ending (denoted w.class (folded t w.at w.end) w.value) ≡ b
          → R.is_ending (R.next ts) ≡ R.is_ending (denoted w.class (folded t w.at w.end) w.value) → R.is_ending (R.next ts) ≡ false
      go false e q = q ∙ e
      go true e q =
          let far = ending_class w.class w.value (folded t w.at w.end) e (ne_eqb w.class 0 z) in
          absurd (omega (arith, far, i.known (good_word t at w ts i h)))

-- ---- PROGRAM name, and behind it

module _ {t : List ℕ} (old : List ℕ) where
  -- PROGRAM is missing
  pub program_1 : {y : Refusal} → ExpectDid t 0 3 (Err y) → ProgramDid t old old (Err y)
  program_1 {y} H =
      record {
        inside = H.within.to;
        few = tt;
        root = tt;
        long = refl;
        reads = λ ts w. rw (program_of_is ts)
            (pass_ends t old (R.expect "PROGRAM" ts) (behind_head (fuel ts)) y (H.taken ts (words_at_lem t ts w) "PROGRAM" key_program));
      }

  module _ {h : ℕ} (H : ExpectDid t 0 3 (Ok h)) {n : Word} (i : IsWord t h n) where
    -- on to the name
    to_head : (new : List ℕ) (r : Result Parsed Refusal) (ts : List Token) → words_of t ≡ given ts
        → ((us : List Token) → words_at t h ≡ given us → length us ≤ length ts → IsReading t new (behind_head (fuel ts) us) r)
        → IsReading t new (R.program_of ts) r
    to_head new r ts w g =
        rw (program_of_is ts)
        (pass_goes t new (R.expect "PROGRAM" ts) (behind_head (fuel ts)) h r (H.taken ts (words_at_lem t ts w) "PROGRAM" key_program)
        (λ us e x. g us x (omega (arith, expect_one "PROGRAM" ts us e))))

    -- the name is missing
    pub program_2 : (n.class ≡ 1 → ⊥) → ProgramDid t old old (Err (refusal BadShape n.at))
    program_2 z =
        record {
          inside = omega (arith, i.on, i.to);
          few = tt;
          root = tt;
          long = refl;
          reads = λ ts w. to_head old (Err (refusal BadShape n.at)) ts w
              (λ us x m.
              let N = next_of t h us n i x in
              rw (taken_none R.a_name us (ap R.a_name N.next ∙ name_class n.class n.value (folded t n.at n.end) ∙ ap (λ b. cond b (some (folded t n.at n.end)) none) (ne_eqb n.class 1 z)))
              (here t h n i us x BadShape));
        }

    module _ (m1 : List ℕ) (zn : n.class ≡ 1) (same : length m1 ≡ length old) where
      -- on to the body
      to_body : (r : Result Parsed Refusal) (ts : List Token) → words_of t ≡ given ts
          → ((us : List Token) → words_at t n.end ≡ given us → length us ≤ length ts → IsReading t m1 (body_of (name_at t n.at) (fuel ts) us >>= finish) r)
          → IsReading t m1 (R.program_of ts) r
      to_body r ts w g =
          to_head m1 r ts w
          (λ us x m.
          let N = next_of t h us n i x in
          let less = N.less (rw zn refl) in
          rw (taken_some R.a_name us (name_at t n.at) (ap R.a_name (name_here t h us n i x zn))) (g (R.behind us) (N.behind (rw zn refl)) (omega arith)))

      -- the body is refused
      pub program_3 : {y : Refusal} → BodyDid t old m1 n.end n.at (Err y) → ProgramDid t old m1 (Err y)
      program_3 {y} B =
          record {
            inside = B.0.within.to;
            few = tt;
            root = tt;
            long = same;
            reads = λ ts w. to_body (Err y) ts w
                (λ us x m. body_ends t m1 (program_at t m1) 1 (length us) (body_of (name_at t n.at) (fuel ts) us) y (B.0.runs us x (fuel ts) (omega arith)));
          }

      module _ {b : Parsed} (B : BodyDid t old m1 n.end n.at (Ok b)) {e : Word} (j : IsWord t b.at e) where
        -- on to what stands behind END_PROGRAM
        to_ending : (r : Result Parsed Refusal) (ts : List Token) → words_of t ≡ given ts
            → ((us : List Token) → words_at t b.at ≡ given us → IsReading t m1 (finish (record { it = program_at t m1 b.root; rest = us })) r)
            → IsReading t m1 (R.program_of ts) r
        to_ending r ts w g =
            to_body r ts w
            (λ us x m. body_goes t m1 (program_at t m1) 1 (length us) (body_of (name_at t n.at) (fuel ts) us) b r (B.0.runs us x (fuel ts) (omega arith)) g)

        -- something stands behind it
        pub program_4 : (e.class ≡ 0 → ⊥) → ProgramDid t old m1 (Err (refusal BadShape e.at))
        program_4 z =
            record {
              inside = omega (arith, j.on, j.to);
              few = tt;
              root = tt;
              long = same;
              reads = λ ts w. to_ending (Err (refusal BadShape e.at)) ts w
                  (λ us x. rw (unfinished (record { it = program_at t m1 b.root; rest = us }) (goes_on j us x z)) (here t b.at e j us x BadShape));
            }

        -- nothing does
        pub program_5 : e.class ≡ 0 → ProgramDid t old m1 (Ok b)
        program_5 z =
            record {
              inside = B.0.within.to;
              few = omega (arith, B.0.within);
              root = B.1;
              long = same;
              reads = λ ts w. to_ending (Ok b) ts w
                  (λ us x. rw (finished (record { it = program_at t m1 b.root; rest = us }) (ends j us x z)) refl);
            }
